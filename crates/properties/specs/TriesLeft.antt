-- The tries left ("Tries left, shown to the candidate"): what a counter leaves, and what a command hands out. What a single command
-- gives back is in `CallAcceptance` and `OneCommand`; a refused one hands out none (`Refused`).
use Rattle.std.specs.Prelude.{ℕ, suc, ◌-◌, ◌≤◌, ◌<◌, List, ◌↔◌, ◌≡◌, length}
use Rattle.std.specs.Int.Bits.{bit_and}
use Rattle.model.specs.Sizes.{card_size}
use Rattle.model.specs.Bits.{tries_left}
use Rattle.model.specs.Volatile.{Volatile}
use Rattle.model.specs.Instruction.{Command, Instruction}
use Rattle.model.specs.State.{State}
use Rattle.model.specs.Device.{spent}
use Rattle.model.specs.At88sc1608.{at88sc1608}
use Rattle.model.specs.Single.{apply, act}
use Rattle.laws.specs.BusyLaws.{tries_given}
use Rattle.laws.specs.Effects.{tries_after}
use Rattle.properties.specs.TriesLaws.{most, none, fewer, lowest, handed, given}

-- a counter leaves at most eight tries
pub at_most_eight : (x : ℕ) → tries_left x ≤ 8
at_most_eight = most

-- it leaves none exactly when it is 0
pub none_left : (x : ℕ) → x < 256 → (tries_left x ≡ 0) ↔ (x ≡ 0)
none_left = none

-- a failed attempt on a counter that is not 0 leaves exactly one try fewer
pub one_fewer : (x : ℕ) → x < 256 → (x ≡ 0 → ⊥) → suc (spent at88sc1608 x).tries ≡ tries_left x
one_fewer = fewer

-- what it takes is the lowest 1 bit of the counter: x AND x - 1
pub lowest_bit : (x : ℕ) → x < 256 → (spent at88sc1608 x).value ≡ bit_and x (x - 1)
lowest_bit = lowest

-- a command of kind 10 or 11 hands out the tries left of its counter as the card then has it, every other kind 0
pub handed_out : (c : List ℕ) (s : Volatile) (k : Command) → length c ≡ card_size
    → (apply c s k).report.tries ≡ tries_after at88sc1608 k (apply c s k).card
handed_out = handed

-- and so does a card that can be busy: an ignored record hands out 0
pub given_out : (c : List ℕ) (s : State) (k : Instruction) → length c ≡ card_size
    → (act c s k).report.tries ≡ tries_given at88sc1608 c s k (act c s k).card
given_out = given
