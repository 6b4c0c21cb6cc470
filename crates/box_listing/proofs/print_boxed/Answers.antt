-- The line of 18, or what is printed on an exam machine.
use borrow.Author.Rules.{rules}
use Rattle.box_listing.proofs.BoxPrintedLaws.{printed_limited, printed_unlimited}
use Rattle.box_listing.proofs.print_boxed.Goals as goal

pub returns-then-box_refuses : goal.returns-then-box_refuses
returns-then-box_refuses c = printed_limited _ _ _ c.box_refuses.ensures c.if-box_refuses.true (search rules) _ _ c.put_refusal.ensures

pub returns-else-box_refuses : goal.returns-else-box_refuses
returns-else-box_refuses c = printed_unlimited _ _ _ c.box_refuses.ensures c.if-box_refuses.false _ _ c.print.ensures
