-- The word presented, compared with the one behind the counter.
use Prim.Native.Nat.{ℕ, suc, ◌+◌, ◌*◌}
use Rattle.model.specs.Apply.{password}
use Rattle.model.specs.At88sc1608.{at88sc1608, counter_at, password_byte}
use Rattle.model.specs.Lists.{at, same_list, tab, Bytes}
use Rattle.model.specs.Numbers.{number_at}
use Rattle.laws.specs.WordLaws.{passwords_tested}
use lib.Dec.{eqb}
use lib.ListN.{length}
use mathlib.Core.List.{List}
use mathlib.Core.Path.{◌≡◌, ◌∙◌}
use native.Mathlib.Omega.{arith}

module _ (c xs : List ℕ) (k i : ℕ) (place : i ≡ counter_at k) where
  behind_counter : number_at c (suc i) 3 ≡ number_at (password at88sc1608 c k) 0 3
  unfolding tab
  behind_counter =
      let e₀ : suc i ≡ password_byte k 0 = omega arith in
      let e₁ : suc (suc i) ≡ password_byte k 1 = omega arith in
      let e₂ : suc (suc (suc i)) ≡ password_byte k 2 = omega arith in
      λ j. at c (e₀ j) + 256 * (at c (e₁ j) + 256 * (at c (e₂ j) + 256 * 0))

  pub compared : Bytes c → Bytes xs → length xs ≡ 3 → (u v : ℕ) → u ≡ number_at xs 0 3 → v ≡ number_at c (suc i) 3
      → eqb u v ≡ same_list xs (password at88sc1608 c k)
  compared card bytes three u v p q = (λ j. eqb (p j) ((q ∙ behind_counter) j)) ∙ passwords_tested at88sc1608 c xs k card bytes three
