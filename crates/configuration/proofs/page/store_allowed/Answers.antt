-- The two rules are the same.
use Rattle.std.proofs.Common.{ℕ, ◌+◌, ◌%◌, ◌∙◌, refl}
use Rattle.laws.specs.Loops.{stores_cong}
use Rattle.configuration.proofs.page.store_allowed.Goals as goal

pub returns : goal.returns
returns c =
    c.store_column.ensures
    ∙ stores_cong _ _ _ _ (λ k. refl) (λ k old new. rw (c.of_codes.ensures (c.args.first + (c.args.low + k) % 16))) c.args.bytes.now 0 c.args.page.now
