-- By the area of the address.
use Rattle.std.specs.Prelude.{ℕ, [], ◌∷◌, ◌≡◌, ltb, eqb}
use Rattle.std.proofs.Common.{◌%◌}
use Rattle.laws.specs.BoolLaws.{choice}
use Rattle.model.specs.Lists.{at}
use Rattle.model.specs.Access.{area_of, set_of, permits}
use Rattle.access.specs.Permissions.{codes_of}
use Rattle.access.specs.VolatileState.{active_of}
use Rattle.access.proofs.rights.Column.of_codes.Goals as goal

pub returns : goal.returns
unfolding area_of
returns c a =
    let p = active_of c.args.active in
    let ps = c.of_code.result
    ∷ c.of_code-2.result
    ∷ c.of_code-3.result
    ∷ c.of_code-4.result
    ∷ c.of_code-5.result
    ∷ c.of_code-6.result
    ∷ c.of_code-7.result
    ∷ [] in
    let P : ℕ → Type 0 = λ k. permits (at (codes_of ps) k) (set_of a) p ≡ permits (at c.args.codes.now k) (set_of a) p in
    choice P (ltb a 12) _ _ (c.of_code.ensures _ _)
    (choice P (ltb a 16) _ _ (c.of_code-2.ensures _ _)
    (choice P (ltb a 48) _ _ (c.of_code-3.ensures _ _)
    (choice P (ltb a 56) _ _ (c.of_code-4.ensures _ _)
    (choice P (ltb a 64) _ _ (c.of_code-5.ensures _ _)
    (choice P (eqb (a % 4) 0) _ _ (c.of_code-7.ensures _ _) (c.of_code-6.ensures _ _))))))
