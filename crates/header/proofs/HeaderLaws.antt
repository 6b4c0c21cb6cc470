-- Of a header: what the code computes from a kind byte.
use Prim.Native.Nat.{ℕ, ◌/◌, ◌%◌, ◌<◌}
use mathlib.Core.Path.{◌≡◌, refl}
use lib.Dec.{eqb}
use Rattle.laws.specs.Tables.{tests_at}
use Rattle.model.specs.Log.{names_zone}

-- kinds 4 and 5, answered or ignored
pub names_bits : (k : ℕ) → k < 256 → eqb (k % 128 / 2) 2 ≡ names_zone k
names_bits k h = tests_at (λ n. eqb (n % 128 / 2) 2) names_zone 256 refl k h
