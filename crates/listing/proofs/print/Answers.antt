-- The listing is whole, since its text space always has room for it.
use borrow.Author.Rules.{rules}
use Rattle.listing.specs.Whole.{printed_whole}
use Rattle.listing.proofs.print.Goals as goal

pub returns : goal.returns
returns c = printed_whole _ _ _ _ _ (λ i. (c.type_inv.session i).fits) (search rules) c.list.ensures
