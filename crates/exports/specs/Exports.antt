-- What the exported functions give back and leave, in the model's terms.
use Rattle.std.specs.Prelude.{ℕ, List}
use Rattle.model.specs.Call.{Called, calling}
use Rattle.model.specs.Box.{box_run}
use Rattle.model.specs.LogCheck.{Found, missing, located, Fetched}
use Rattle.model.specs.Session.{Ran, run}
use Rattle.model.specs.Single.{command}
use Rattle.model.specs.State.{State}
use Rattle.model.specs.Writer.{Parts, write_session}
use Rattle.model.specs.Mender.{Mended, mend}
use Rattle.state_bytes.specs.StateBytes.{state_of, state_after}
use Rattle.results.specs.Results.{run_result, command_result, answer_result, mend_result}

-- ---- at88sc1608_run

-- the result and the lent space at exit
pub record RunCall : Type 0 where
  pub result : ℕ
  pub space : List ℕ

abbrev pub run_call : ℕ → List ℕ → RunCall
run_call r space = record { result = r; space = space }

-- what the model's run tells of them
abbrev pub told_run : Ran → RunCall
told_run x = run_call (run_result x.refusal x.size) x.space

-- of a session and a log space
abbrev pub exported_run : List ℕ → List ℕ → RunCall
exported_run session log = told_run (run session log)

-- ---- at88sc1608_box_run

abbrev pub exported_box_run : List ℕ → List ℕ → RunCall
exported_box_run session log = told_run (box_run session log)

-- ---- at88sc1608_command

-- the result, and the card, the state's bytes and the response space at exit
pub record CommandCall : Type 0 where
  pub result : ℕ
  pub card : List ℕ
  pub state : List ℕ
  pub response : List ℕ

abbrev pub command_call : ℕ → List ℕ → List ℕ → List ℕ → CommandCall
command_call r card state response = record { result = r; card = card; state = state; response = response }

-- what the model's call tells of them, for the state's bytes at entry
abbrev pub told_command : List ℕ → Called State → CommandCall
told_command state x =
    command_call (command_result x.reply.refusal x.reply.size x.reply.tries x.reply.kind) x.card
    (state_after x.reply.refusal x.reply.state state) x.reply.space

-- of a card, a state's bytes, a record and a response space
abbrev pub exported_command : List ℕ → List ℕ → List ℕ → List ℕ → CommandCall
exported_command card state sent response = told_command state (command card (state_of state) (calling sent response))

-- ---- at88sc1608_answer

-- what is told of a refusal or of an answer, with the headers that were read
abbrev pub told_answer : Found → ℕ → ℕ
told_answer (missing n) headers = answer_result n 0 headers 0
told_answer (located from n) headers = answer_result 0 n headers from

abbrev pub exported_answer : Fetched → ℕ
exported_answer x = told_answer x.found x.headers

-- ---- at88sc1608_write_session

-- the same of a session that is written, and of the space for it
abbrev pub exported_writing : Parts → List ℕ → RunCall
exported_writing p session = told_run (write_session p session)

-- ---- at88sc1608_mend and at88sc1608_mend_by_search

-- the same of a session that is mended, which is itself the lent space
abbrev pub told_mending : Mended → RunCall
told_mending x = run_call (mend_result x.refusal x.count x.start) x.session

abbrev pub exported_mending : List ℕ → RunCall
exported_mending session = told_mending (mend session)
