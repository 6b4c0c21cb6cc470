-- Rules over bytes: the lowest 1 bit cleared, by one computed test; the 1 bits as the program counts them.
use Prim.Native.Nat.{ℕ, zero, suc, ◌+◌, ◌-◌, ◌/◌, ◌%◌, ◌^◌, ◌<◌}
use mathlib.Core.Path.{◌≡◌, refl, ap, ◌∙◌}
use native.Mathlib.Nat.{pow-suc}
use native.Mathlib.Omega.{arith}
use lib.Bits.{bit_and}
use lib.Count.{ones, ones_step}
use Rattle.model.specs.Bits.{bit_count, spent_counter, tries_left}
use Rattle.model.specs.At88sc1608.{at88sc1608}
use Rattle.model.specs.Device as model
use Rattle.laws.specs.Tables.{agree_at}

pub cleared : (x : ℕ) → x < 256 → bit_and x (x - 1) ≡ spent_counter x
unfolding spent_counter
cleared = agree_at (λ x. bit_and x (x - 1)) spent_counter 256 refl

-- as many bits as are enough give the same
counted : (n x : ℕ) → x < 2 ^ n → ones x ≡ bit_count n x
unfolding ones
counted zero x h = let p : 2 ^ 0 ≡ 1 = refl in let z : x ≡ 0 = omega arith in ap ones z
counted (suc n) x h = let p = pow-suc 2 n in ones_step x ∙ ap (λ (m : ℕ). x % 2 + m) (counted n (x / 2) (omega arith))

pub ones_left : (x : ℕ) → x < 256 → ones x ≡ tries_left x
unfolding tries_left
ones_left = counted 8

-- a failed attempt
pub spent_one : (x v t : ℕ) → x < 256 → v ≡ bit_and x (x - 1) → t ≡ tries_left v → record { value = v; tries = t } ≡ model.spent at88sc1608 x
spent_one x v t h e q = let w = e ∙ cleared x h in λ i. record { value = w i; tries = (q ∙ ap tries_left w) i }
