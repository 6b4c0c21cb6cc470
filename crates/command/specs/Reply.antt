-- What a call of the code gives back, as the model has it.
use Rattle.std.specs.Prelude.{ℕ, List, Result, Ok, Err}
use Rattle.model.specs.Call as call
use Rattle.model.specs.State as model
use Rattle.busy.specs.TimedState.{state_of}
use Rattle.busy.specs.declared.State.{State}
use Rattle.record.specs.RefusalNumber.{refusal_number}
use Rattle.record.specs.declared.refusal.Refusal.{Refusal}
use Rattle.command.specs.declared.Reply.{Reply}

-- the result in a state, with the card and the response space at exit: a refusal has no kind, no response and no tries, and leaves the state
abbrev pub called_of : State → Result Reply Refusal → List ℕ → List ℕ → call.Called model.State
called_of s (Err why) card space = record { card = card; reply = call.refusing (refusal_number why) (state_of s) space }
called_of s (Ok r) card space =
    record {
      card = card;
      reply = record { refusal = 0; kind = r.kind; size = r.size; state = state_of r.state; tries = r.tries; space = space };
    }

-- the state after it
abbrev pub state_after : State → Result Reply Refusal → State
state_after s (Err why) = s
state_after s (Ok r) = r.state
