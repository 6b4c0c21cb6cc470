-- The rule that the closure is.
use borrow.Author.Rules.{rules}
use Rattle.memory.proofs.page.store.Goals as goal

pub returns : goal.returns
returns c = c.store_by.ensures _ (λ i old new r h h' h'' q. search rules)
