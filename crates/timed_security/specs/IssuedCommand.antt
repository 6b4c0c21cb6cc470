-- What a command leaves, with its time.
use Rattle.std.specs.Prelude.{ℕ, cond, List, ◌≡◌}
use Rattle.model.specs.Instruction.{Command}
use Rattle.model.specs.State.{State, timed, write_time}
use Rattle.model.specs.Busy.{makes_busy}
use Rattle.model.specs.At88sc1608.{at88sc1608}
use Rattle.model.specs.Single.{apply}

-- the card, the state and the tries handed out after a command, busy or not
pub record Issued (c : List ℕ) (s : State) (k : Command) (c' : List ℕ) (s' : State) (tries : ℕ) : Type 0 where
  pub card : c' ≡ (apply c s.volatile k).card
  pub state : s' ≡ timed s (apply c s.volatile k).report.state (cond (makes_busy at88sc1608 c s.volatile k) write_time 0)
  pub handed : tries ≡ (apply c s.volatile k).report.tries
