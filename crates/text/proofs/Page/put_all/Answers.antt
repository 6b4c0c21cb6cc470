use mathlib.Core.Path.{refl}
use mathlib.Core.List.{[], ◌∷◌}
use Rattle.text.proofs.PutLaws.{puts_next}
use Rattle.text.proofs.Page.put_all.Goals as goal

pub loop-byte-preserved : goal.loop-byte-preserved
loop-byte-preserved c =
    puts_next (λ xs. xs) (λ x. x ∷ []) (λ xs x. refl) _ _ c.loop-byte-test.true c.loop-byte.invariant c.put.ensures
