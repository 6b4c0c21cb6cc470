-- The bytes of a state after a call of the code.
use Rattle.std.specs.Prelude.{ℕ, List, Result, Ok, Err}
use Rattle.busy.specs.TimedState.{state_of}
use Rattle.busy.specs.declared.State.{State}
use Rattle.record.specs.declared.refusal.Refusal.{Refusal}
use Rattle.state_bytes.specs.StateBytes.{state_after}

-- rewritten after an accepted call, kept after a refused one
abbrev pub written : Result State Refusal → List ℕ → List ℕ
written (Ok s) b = state_after 0 (state_of s) b
written (Err why) b = b
