-- Which commands make a card busy ("A card that is busy writing"), and which records a card ignores while it is busy, off or has a write to
-- finish ("Writes that survive a pulled card"), for any device.
use Rattle.std.specs.Prelude.{ℕ, ◌+◌, Bool, true, false, cond, not, ◌&&◌, ◌||◌, List, eqb}
use Rattle.model.specs.Lists.{at}
use Rattle.model.specs.Volatile.{Volatile, is_begun}
use Rattle.model.specs.State.{State, is_busy}
use Rattle.model.specs.Instruction.{Command, reset, select, read_zone, write_zone, read_configuration, write_configuration, read_fuses, write_fuses}
use Rattle.model.specs.Instruction.{verify_password, begin_authentication, verify_authentication, Instruction, kind_of}
use Rattle.model.specs.Device.{Device}
use Rattle.model.specs.Staging.{is_ready}

-- the kinds that act at any time: power cycle, arm
abbrev pub acts_always : ℕ → Bool
acts_always kind = eqb kind 1 || eqb kind 16

-- on a card that is busy: wait and poll too
abbrev pub acts_busy : ℕ → Bool
acts_busy kind = acts_always kind || (eqb kind 13 || eqb kind 14)

module _ (D : Device) where
  -- By the card and the state before the command: 5 and 7 do, whatever may be written; 9, where it blows a fuse that is left; 10 and 11,
  -- where the counter is not used up; 12, where authentication is begun. (15 always does: `Act.staged`.)
  abbrev pub makes_busy : List ℕ → Volatile → Command → Bool
  makes_busy c v reset = false
  makes_busy c v (select z) = false
  makes_busy c v (read_zone a n) = false
  makes_busy c v (write_zone a xs) = true
  makes_busy c v (read_configuration a n) = false
  makes_busy c v (write_configuration a xs) = true
  makes_busy c v read_fuses = false
  makes_busy c v write_fuses = D.may_blow v && not (eqb (at c D.fuse_at) 0)
  makes_busy c v (verify_password k xs) = not (eqb (at c (D.counter_at k)) 0)
  makes_busy c v begin_authentication = not (eqb (at c D.attempts_at) 0)
  makes_busy c v (verify_authentication x xs) = is_begun v.authentication

  -- it is off, or has a write to finish
  abbrev pub is_halted : List ℕ → State → Bool
  is_halted c s = s.off || is_ready D c

  -- judged before whether it is busy
  abbrev pub ignores : List ℕ → State → Instruction → Bool
  ignores c s i = cond (is_halted c s) (not (acts_always (kind_of i))) (is_busy s && not (acts_busy (kind_of i)))

  -- the kind that is answered and logged: that of an ignored record plus 128
  abbrev pub answered_kind : List ℕ → State → Instruction → ℕ
  answered_kind c s i = cond (ignores c s i) (kind_of i + 128) (kind_of i)
