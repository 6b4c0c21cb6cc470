-- Two words are compared.
use native.Mathlib.Numerals.{add-one}
use native.Mathlib.Omega.{arith}
use Rattle.security.proofs.PasswordLaws.{compared}
use Rattle.security.proofs.password.is_password.Goals as goal

pub returns : goal.returns
returns c =
    compared c.args.card.now c.args.bytes.now _ _ c.counter_at.ensures (λ i. omega (arith, c.type_inv.card i))
    (λ i. omega (arith, c.type_inv.bytes i)) c.requires.1 _ _ c.word_at.ensures
    (simp add-one at c.word_at-2.ensures)
