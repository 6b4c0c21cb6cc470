-- The rule of the reversal at every entry, and that it is its own inverse: each one computed test.
use Rattle.std.specs.Prelude.{ℕ, ◌<◌, ◌≡◌, refl}
use Rattle.model.specs.Lists.{at}
use Rattle.model.specs.Bits.{reversed}
use Rattle.laws.specs.Reversal.{reversals}
use Rattle.laws.specs.Tables.{agree_at}

pub reversal_rule : (b : ℕ) → b < 256 → at reversals b ≡ reversed b
unfolding reversals reversed
reversal_rule = agree_at (λ b. at reversals b) reversed 256 refl

pub reversal_inverse : (b : ℕ) → b < 256 → at reversals (at reversals b) ≡ b
unfolding reversals
reversal_inverse = agree_at (λ b. at reversals (at reversals b)) (λ b. b) 256 refl
