-- What every record does to a card and its state, for any device: the commands of `Apply` with their time, and power cycles, waits, polls,
-- staged writes and armings.
use Rattle.std.specs.Prelude.{ℕ, ◌-◌, Bool, true, false, cond, List, [], ◌∷◌, length}
use Rattle.model.specs.Volatile.{Volatile}
use Rattle.model.specs.State.{State, Tear, untorn, tear_after, make_state, timed, arming, powered_up, power_on, power_lost, write_time, is_busy}
use Rattle.model.specs.Instruction.{Instruction, power_cycle, issue, wait, poll, write_staged, arm}
use Rattle.model.specs.Device.{Device}
use Rattle.model.specs.Call.{Acted, acted}
use Rattle.model.specs.Apply.{apply}
use Rattle.model.specs.Cells.{Cell, write_cells}
use Rattle.model.specs.Staging.{is_ready, may_stage, final_values, stage_cells, pending_cells, cells_under, tears_in}
use Rattle.model.specs.Busy.{makes_busy, ignores}

module _ (D : Device) where
  -- a command that left a card, which is then busy or not
  abbrev pub busied : (busy : Bool) → State → Acted Volatile → Acted State
  busied busy s m =
      record {
        card = m.card;
        report = record { state = timed s m.report.state (cond busy write_time 0); answer = m.report.answer; tries = m.report.tries };
      }

  -- cells written under what is armed, which is then spent: a state where all of them are written, and no power where a tear comes
  abbrev pub laid : List ℕ → Tear → State → List Cell → Acted State
  laid c tear s ws = acted (write_cells (cells_under D tear ws) c) (cond (tears_in tear (length ws)) power_lost s) []

  -- Kind 1 finishes what is staged, whoever may write, and then powers up; with nothing to finish what is armed stays so.
  abbrev pub cycled : (ready : Bool) → List ℕ → State → Acted State
  cycled true c s = laid c s.tear power_on (pending_cells D c)
  cycled false c s = acted c (powered_up s.tear) []

  -- Kind 15, by whether the zone may be written. If not, nothing is, and what is armed stays so; the card is busy as after kind 5.
  abbrev pub staged : (may : Bool) → List ℕ → State → ℕ → List ℕ → Acted State
  staged true c s a xs =
      laid c s.tear (make_state s.volatile write_time s.off untorn)
      (stage_cells D s.volatile.zone a (final_values D c s.volatile.zone a xs))
  staged false c s a xs = acted c (timed s s.volatile write_time) []

  -- Where it is not ignored. A command meets a card that is ready. Time that passes shortens the busy time, down to 0.
  unfoldable pub perform : List ℕ → State → Instruction → Acted State
  perform c s power_cycle = cycled (is_ready D c) c s
  perform c s (issue k) = busied (makes_busy D c s.volatile k) s (apply D c s.volatile k)
  perform c s (wait n) = acted c (timed s s.volatile (s.busy - n)) []
  perform c s poll = acted c s (cond (is_busy s) 1 0 ∷ [])
  perform c s (write_staged a xs) = staged (may_stage D c s.volatile a) c s a xs
  perform c s (arm k junk) = acted c (arming s (tear_after k junk)) []

  -- an ignored one leaves everything as it was
  unfoldable pub act : List ℕ → State → Instruction → Acted State
  act c s i = cond (ignores D c s i) (acted c s []) (perform c s i)
