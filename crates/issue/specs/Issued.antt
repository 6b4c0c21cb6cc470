-- What a record that is not ignored asks of its call, and what it leaves.
use Rattle.std.specs.Prelude.{ℕ, ◌≤◌, ◌<◌, true, List, ◌++◌, ◌≡◌, length, drop}
use Rattle.model.specs.Sizes.{card_size}
use Rattle.model.specs.Instruction.{Instruction}
use Rattle.model.specs.State.{State}
use Rattle.model.specs.At88sc1608.{at88sc1608}
use Rattle.model.specs.Single.{staging_fits, perform}
use Rattle.laws.specs.BusyLaws.{full_answer}
use Rattle.laws.specs.RecordLaws.{Ranged}

-- ---- a record that is not ignored

-- a card and a state in range, a record's bytes, its fields in range, room for its answer
pub record Ready (c : List ℕ) (s : State) (i : Instruction) (bytes : List ℕ) (end : ℕ) (space : List ℕ) : Type 0 where
  pub long : length c ≡ card_size
  pub staging : staging_fits c ≡ true
  pub zone : s.volatile.zone < 8
  pub ranged : Ranged i
  pub within : end ≤ length bytes
  pub room : full_answer at88sc1608 i ≤ length space

-- the card, the state, the tries handed out and the response space after it
pub record Carried (c : List ℕ) (s : State) (i : Instruction) (space c' : List ℕ) (s' : State) (tries : ℕ) (space' : List ℕ) : Type 0 where
  pub card : c' ≡ (perform c s i).card
  pub state : s' ≡ (perform c s i).report.state
  pub handed : tries ≡ (perform c s i).report.tries
  pub answer : space' ≡ (perform c s i).report.answer ++ drop (full_answer at88sc1608 i) space
