-- The password presented and the password stored, compared as numbers, on any device.
use Rattle.std.specs.Prelude.{ℕ, Bool, List, ◌↔◌, ◌≡◌, eqb, length}
use Rattle.std.proofs.Common.{sym}
use Rattle.std.proofs.Math.Path.{ap}
use Rattle.model.specs.Lists.{at, Bytes, same_list}
use Rattle.model.specs.Numbers.{number_at}
use Rattle.model.specs.Volatile.{Volatile}
use Rattle.model.specs.Instruction.{verify_password}
use Rattle.model.specs.Device.{Device}
use Rattle.model.specs.Apply.{password, presented, attempt_of}
use Rattle.model.specs.Apply as any
use Rattle.laws.specs.ListLaws.{length_tab, tab_bytes}
use Rattle.laws.specs.NumberLaws.{equal_numbers, numbers_tested}

pub password_bytes : (D : Device) (c : List ℕ) (k : ℕ) → Bytes c → Bytes (password D c k)
password_bytes D c k card = tab_bytes _ D.password_count (λ i. card (D.password_byte k i))

module _ (D : Device) (c xs : List ℕ) (k : ℕ) (card : Bytes c) (bytes : Bytes xs) (long : length xs ≡ D.password_count) where
  pub equal_passwords : (number_at xs 0 D.password_count ≡ number_at (password D c k) 0 D.password_count) ↔ (xs ≡ password D c k)
  equal_passwords = equal_numbers D.password_count xs (password D c k) bytes (password_bytes D c k card) long (length_tab _ D.password_count)

  pub passwords_tested : eqb (number_at xs 0 D.password_count) (number_at (password D c k) 0 D.password_count) ≡ same_list xs (password D c k)
  passwords_tested = numbers_tested D.password_count xs (password D c k) bytes (password_bytes D c k card) long (length_tab _ D.password_count)

  pub passwords_decide : (s : Volatile) → any.apply D c s (verify_password k xs)
      ≡ presented D
      (attempt_of (eqb (at c (D.counter_at k)) 0) (eqb (number_at xs 0 D.password_count) (number_at (password D c k) 0 D.password_count))) c s k
  unfolding any.apply
  passwords_decide s = ap (λ (t : Bool). presented D (attempt_of (eqb (at c (D.counter_at k)) 0) t) c s k) (sym passwords_tested)
