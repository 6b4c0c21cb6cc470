-- The busy time of a card ("A card that is busy writing"): what makes a card busy, what it ignores while it is, what ends it.
use Rattle.std.specs.Prelude.{ℕ, ◌+◌, ◌-◌, ◌≤◌, true, false, cond, List, [], ◌∷◌, map, ◌↔◌, ◌≡◌, length}
use Rattle.model.specs.Instruction.{Command, Instruction, power_cycle, issue, wait, poll, kind_of}
use Rattle.model.specs.At88sc1608.{at88sc1608}
use Rattle.model.specs.Call.{Powered, powered, acted, whole, calling}
use Rattle.model.specs.Staging.{is_ready}
use Rattle.model.specs.State.{State, timed, powered_up, write_time, is_busy}
use Rattle.model.specs.Busy.{acts_busy, is_halted, ignores, makes_busy}
use Rattle.model.specs.Record.{decode}
use Rattle.model.specs.Session.{end_of}
use Rattle.model.specs.Single.{check, act, command}
use Rattle.laws.specs.BusyLaws.{total, heeded, act_ignored}
use Rattle.properties.specs.BusyTimesLaws.{busy_ignores, ignored_halted, ignored_busy, ignored_call, power_ends, powers_up, busy_after, told}
use Rattle.properties.specs.BusyTimesLaws.{all_passed, all_waited}

-- a busy card ignores every record but those of kinds 1, 13, 14 and 16
pub ignores_all_but : (c : List ℕ) (s : State) (i : Instruction) → is_busy s ≡ true → acts_busy (kind_of i) ≡ false → ignores at88sc1608 c s i ≡ true
ignores_all_but = busy_ignores

-- what is ignored, exactly: nothing by a card that is on, has nothing to finish and is not busy
pub ready_ignores_none : (c : List ℕ) (s : State) (i : Instruction) → is_halted at88sc1608 c s ≡ false → is_busy s ≡ false
    → ignores at88sc1608 c s i ≡ false
ready_ignores_none = heeded at88sc1608

-- every kind but 1, 13, 14 and 16 by such a card that is busy
pub busy_ignores_iff : (c : List ℕ) (s : State) (i : Instruction) → is_halted at88sc1608 c s ≡ false → is_busy s ≡ true
    → (ignores at88sc1608 c s i ≡ true) ↔ ((kind_of i ≡ 1 → ⊥) × (kind_of i ≡ 13 → ⊥) × (kind_of i ≡ 14 → ⊥) × (kind_of i ≡ 16 → ⊥))
busy_ignores_iff = ignored_busy

-- every kind but 1 and 16 by one that is off or has a write to finish, busy or not
pub halted_ignores_iff : (c : List ℕ) (s : State) (i : Instruction) → is_halted at88sc1608 c s ≡ true
    → (ignores at88sc1608 c s i ≡ true) ↔ ((kind_of i ≡ 1 → ⊥) × (kind_of i ≡ 16 → ⊥))
halted_ignores_iff = ignored_halted

-- an ignored record leaves the card, the state and the busy time as they were; it answers nothing and hands out no tries
pub busy_keeps : (c : List ℕ) (s : State) (i : Instruction) → ignores at88sc1608 c s i ≡ true → act c s i ≡ acted c s []
busy_keeps = act_ignored at88sc1608

-- so does a single command with such a record, whatever its response space: it answers the kind plus 128
pub busy_call : (c : List ℕ) (s : State) (i : Instruction) (bytes space : List ℕ) → check c s ≡ 0 → decode bytes ≡ whole i (length bytes)
    → ignores at88sc1608 c s i ≡ true
    → command c s (calling bytes space)
    ≡ record { card = c; reply = record { refusal = 0; kind = kind_of i + 128; size = 0; state = s; tries = 0; space = space } }
busy_call = ignored_call

-- a command that is not ignored leaves the card busy for 10 ms where it makes it busy, and else ready
pub busy_time : (c : List ℕ) (s : State) (k : Command) → ignores at88sc1608 c s (issue k) ≡ false
    → (act c s (issue k)).report.state.busy ≡ cond (makes_busy at88sc1608 c s.volatile k) write_time 0
busy_time = busy_after

-- a power cycle ends it; with nothing to finish it leaves the card as it was, and what is armed
pub power_cycle_ends : (c : List ℕ) (s : State) → (act c s power_cycle).report.state.busy ≡ 0
power_cycle_ends = power_ends

pub power_cycle_idle : (c : List ℕ) (s : State) → is_ready at88sc1608 c ≡ false → act c s power_cycle ≡ acted c (powered_up s.tear) []
power_cycle_idle = powers_up

-- on a card that is on and has nothing to finish: a poll tells 1 while the card is busy, and 0 when it is ready, and changes nothing
pub poll_tells : (c : List ℕ) (s : State) → is_halted at88sc1608 c s ≡ false → act c s poll ≡ acted c s (cond (is_busy s) 1 0 ∷ [])
poll_tells = told

-- there waits shorten the busy time by the milliseconds that they take in all, down to 0, and change nothing else
pub time_passes : (m : Powered State) (ns : List ℕ) → is_halted at88sc1608 m.card m.state ≡ false
    → end_of (map wait ns) m ≡ powered m.card (timed m.state m.state.volatile (m.state.busy - total ns))
time_passes = all_passed

-- there 10 ms passed, in one wait or in several, make any card ready, and change nothing else
pub ten_ready : (m : Powered State) → is_halted at88sc1608 m.card m.state ≡ false → m.state.busy ≤ write_time → (ns : List ℕ) → write_time ≤ total ns
    → end_of (map wait ns) m ≡ powered m.card (timed m.state m.state.volatile 0)
ten_ready = all_waited
