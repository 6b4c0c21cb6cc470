-- Decimal digits read one after the other.
use Prim.Native.Nat.{ℕ}
use mathlib.Core.List.{List, [], ◌∷◌, ◌++◌}
use mathlib.Core.Path.{◌≡◌, refl}
use Rattle.write_session.specs.Decimal.{appended, decimal}

pub decimal_last : (n : ℕ) (digits : List ℕ) (digit : ℕ) → decimal n (digits ++ (digit ∷ [])) ≡ appended (decimal n digits) digit
decimal_last n [] digit = refl
decimal_last n (d ∷ ds) digit = decimal_last (appended n d) ds digit
