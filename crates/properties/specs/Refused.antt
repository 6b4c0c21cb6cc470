-- What a refusal leaves: its number, no response, the state as given, and every lent byte as it was ("Sent back with a number").
use Rattle.std.specs.Prelude.{ℕ, suc, List, ◌≡◌}
use Rattle.model.specs.State.{State}
use Rattle.model.specs.Call.{Call, refusing}
use Rattle.model.specs.Single.{command}
use Rattle.model.specs.Session.{rejected, run}
use Rattle.model.specs.Box.{box_run}
use Rattle.model.specs.Writer.{Parts, write_session}
use Rattle.model.specs.Mender.{unmended, mend}
use Rattle.properties.specs.RefusedLaws.{command_keeps, run_keeps, box_keeps, writing_keeps, mending_keeps}

-- a single command that is refused leaves the card, the state and the response space as they were
pub refused_command : (c : List ℕ) (s : State) (x : Call) (n : ℕ) → (command c s x).reply.refusal ≡ suc n
    → command c s x ≡ record { card = c; reply = refusing (suc n) s x.space }
refused_command = command_keeps

-- a session that is refused leaves the log space as it was
pub refused_run : (s space : List ℕ) (n : ℕ) → (run s space).refusal ≡ suc n → run s space ≡ rejected (suc n) space
refused_run = run_keeps

-- and so does the box
pub refused_box : (s space : List ℕ) (n : ℕ) → (box_run s space).refusal ≡ suc n → box_run s space ≡ rejected (suc n) space
refused_box = box_keeps

-- the session writer, when it refuses, leaves the space for the session as it was
pub refused_writing : (p : Parts) (space : List ℕ) (n : ℕ) → (write_session p space).refusal ≡ suc n → write_session p space ≡ rejected (suc n) space
refused_writing = writing_keeps

-- the trailer mender, when it refuses, leaves the session as it was
pub refused_mending : (s : List ℕ) (n : ℕ) → (mend s).refusal ≡ suc n → mend s ≡ unmended (suc n) s
refused_mending = mending_keeps
