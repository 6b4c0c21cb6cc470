-- The whole state of a card beside its bytes: the volatile state; the time for which it is busy ("A card that is busy writing"); whether it is
-- off, and what is armed ("Writes that survive a pulled card").
use Rattle.std.specs.Prelude.{ℕ, Bool, true, false, ltb}
use Rattle.model.specs.Volatile.{Volatile, power_up}

-- what is armed: nothing, or a tear after so many cell writes that leaves a junk byte
pub data Tear : Type 0 where
  untorn : Tear
  tear_after : ℕ → ℕ → Tear

-- for how many milliseconds it is still busy, 0 when it is ready; whether it lost power in a write and is off; what is armed outlives power
pub record State : Type 0 where
  pub volatile : Volatile
  pub busy : ℕ
  pub off : Bool
  pub tear : Tear

abbrev pub make_state : Volatile → ℕ → Bool → Tear → State
make_state v busy off tear = record { volatile = v; busy = busy; off = off; tear = tear }

-- a state with another volatile state and busy time; with another tear armed
abbrev pub timed : State → Volatile → ℕ → State
timed s v busy = make_state v busy s.off s.tear

abbrev pub arming : State → Tear → State
arming s tear = make_state s.volatile s.busy s.off tear

-- after power-up, with what is still armed; with nothing armed; and after a tear
abbrev pub powered_up : Tear → State
powered_up tear = make_state power_up 0 false tear

abbrev pub power_on : State
power_on = powered_up untorn

abbrev pub power_lost : State
power_lost = make_state power_up 0 true untorn

-- the milliseconds that a write takes
abbrev pub write_time : ℕ
write_time = 10

abbrev pub is_busy : State → Bool
is_busy s = ltb 0 s.busy
