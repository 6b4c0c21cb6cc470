-- Fetching an answer tells how many entry headers were read, the check of the log included ("The foyer box"): as many as the log counts, whatever
-- answer is asked for, with 14 too, and none with 13; so never more than 4,096.
use Rattle.std.specs.Prelude.{ℕ, ◌≤◌, true, List, ◌≡◌, length}
use Rattle.std.proofs.Common.{◌∙◌}
use Rattle.model.specs.Sizes.{most_records}
use Rattle.model.specs.Lists.{Bytes}
use Rattle.model.specs.Instruction.{Instruction}
use Rattle.model.specs.Log.{zoned, Entry, LaidOut}
use Rattle.model.specs.LogCheck.{valid, find, missing, fetch}
use Rattle.model.specs.LogCheck as log
use Rattle.model.specs.Refusal.{not_a_log, no_such_answer}
use Rattle.model.specs.Session.{count_of, log_of}
use Rattle.properties.specs.AcceptedSession.{Accepts}
use Rattle.properties.specs.FetchLaws.{found_same, valid_headers, none_such_valid, no_log_headers, few_headers}
use Rattle.properties.specs.Written.{written_valid, count_is}
use Rattle.properties.specs.ReadBack.{valid_back, count_back}

module _ (l : List ℕ) (k : ℕ) where
  -- what is fetched is what is found
  pub fetched_found : (fetch l k).found ≡ find l k
  fetched_found = found_same l k

  -- of a log that is accepted as many headers are read as it counts entries
  pub headers_count : valid l ≡ true → (fetch l k).headers ≡ log.count_of l
  headers_count = valid_headers l k

  -- with 14 too
  pub headers_no_answer : find l k ≡ missing no_such_answer → (fetch l k).headers ≡ log.count_of l
  headers_no_answer e = valid_headers l k (none_such_valid l k e)

  -- with 13 none
  pub headers_no_log : find l k ≡ missing not_a_log → (fetch l k).headers ≡ 0
  headers_no_log = no_log_headers l k

  -- never more than a log may count
  pub headers_most : (fetch l k).headers ≤ most_records
  headers_most = few_headers l k

-- of a log that is laid out from entries and a card: as many as it has entries
pub laid_headers : (es : List Entry) (card l : List ℕ) → LaidOut zoned es card l → (k : ℕ) → (fetch l k).headers ≡ length es
laid_headers es card l w k = headers_count l k (written_valid es card l w) ∙ count_is zoned es card l w

-- of the log of a session of bytes that is accepted with the instructions ks: as many as the session has records
pub log_headers : (s space : List ℕ) (ks : List Instruction) → Bytes s → Accepts s space ks → (k : ℕ) → (fetch (log_of s ks) k).headers ≡ count_of s
log_headers s space ks bytes a k = headers_count (log_of s ks) k (valid_back s space ks bytes a) ∙ count_back s space ks bytes a
