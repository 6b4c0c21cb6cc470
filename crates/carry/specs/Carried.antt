-- What an admitted record asks of its call, and what it leaves.
use Rattle.std.specs.Prelude.{ℕ, ◌≤◌, List, ◌++◌, ◌≡◌, length, drop}
use Rattle.model.specs.State.{State}
use Rattle.model.specs.Instruction.{Instruction}
use Rattle.model.specs.At88sc1608.{at88sc1608}
use Rattle.model.specs.Call.{whole}
use Rattle.model.specs.Record.{decode}
use Rattle.model.specs.Single.{answered_kind, perform, act}
use Rattle.laws.specs.BusyLaws.{given_answer}
use Rattle.laws.specs.Sane.{Good}

-- ---- what answers nothing

-- the card, the state and the tries handed out after it
pub record Performed (c : List ℕ) (s : State) (i : Instruction) (c' : List ℕ) (s' : State) (tries : ℕ) : Type 0 where
  pub card : c' ≡ (perform c s i).card
  pub state : s' ≡ (perform c s i).report.state
  pub handed : tries ≡ (perform c s i).report.tries

-- ---- any record, ignored or not

-- a good card and state, a record that is decoded from the bytes, room for what is answered
pub record ActReady (c : List ℕ) (s : State) (i : Instruction) (bytes : List ℕ) (end : ℕ) (space : List ℕ) : Type 0 where
  pub good : Good c s
  pub decodes : decode bytes ≡ whole i end
  pub room : given_answer at88sc1608 c s i ≤ length space

-- the card, the kind and the length of what is answered, the state, the tries handed out and the response space after it
pub record Acted (c : List ℕ) (s : State) (i : Instruction) (space c' : List ℕ) (kind size : ℕ) (s' : State) (tries : ℕ) (space' : List ℕ) : Type 0 where
  pub card : c' ≡ (act c s i).card
  pub kind_is : kind ≡ answered_kind c s i
  pub size_is : size ≡ length (act c s i).report.answer
  pub state : s' ≡ (act c s i).report.state
  pub handed : tries ≡ (act c s i).report.tries
  pub answer : space' ≡ (act c s i).report.answer ++ drop size space
