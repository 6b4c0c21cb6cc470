-- Eight bytes put into the card are the new cryptogram.
use Rattle.std.specs.Prelude.{ℕ, suc, ◌+◌, ◌≤◌, List, [], ◌∷◌, ◌≡◌, refl, length, take, set}
use Rattle.std.proofs.Common.{ap, ◌∙◌, arith}
use Rattle.std.proofs.lemmas.List.Edits.{sets}
use lib.Seq.{take_all}
use Rattle.model.specs.Lists.{stores}
use Rattle.model.specs.At88sc1608.{at88sc1608, cryptogram_at}
use Rattle.security.specs.Cryptogram.{renewed}

stored : (xs c : List ℕ) (k i : ℕ) → k + length xs ≤ 8 → i ≡ cryptogram_at + k
    → sets c i xs ≡ stores (λ i old new. new) at88sc1608.cryptogram_cell xs k c
unfolding stores
stored [] c k i h e = refl
stored (x ∷ xs) c k i h e =
    let place : i ≡ at88sc1608.cryptogram_cell k = omega arith in
    rw place (stored xs (set c (at88sc1608.cryptogram_cell k) x) (suc k) (suc (at88sc1608.cryptogram_cell k)) (omega arith) (omega arith))

pub renewed_lem : (c xs : List ℕ) → length xs ≡ 8 → sets c cryptogram_at (take 8 xs) ≡ renewed xs c
renewed_lem c xs n = ap (sets c cryptogram_at) (take_all 8 xs (omega (arith, n))) ∙ stored xs c 0 cryptogram_at (omega arith) refl
