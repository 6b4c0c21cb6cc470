-- What the run of a session asks of its parts, and what they leave.
use Rattle.std.specs.Prelude.{ℕ, ◌+◌, ◌≤◌, ◌<◌, List, Result, Ok, Err, ◌≡◌, length}
use Rattle.std.proofs.lemmas.List.Edits.{sets}
use Rattle.model.specs.Sizes.{least_log}
use Rattle.model.specs.Call.{Powered, powered, whole}
use Rattle.model.specs.Instruction.{Instruction}
use Rattle.laws.specs.EntryLaws.{full_entry}
use Rattle.model.specs.Log.{zoned, entry_bytes, entries_bytes}
use Rattle.model.specs.Reader.{records_end}
use Rattle.model.specs.Record.{decode}
use Rattle.laws.specs.Sane.{Good}
use Rattle.model.specs.Session as model
use Rattle.model.specs.State.{State, power_on}
use Rattle.properties.specs.SessionLaws.{full_total}
use Rattle.record.specs.RefusalNumber.{refusal_number}
use Rattle.record.specs.declared.refusal.Refusal.{Refusal}

-- the result with the log space at exit; a refusal leaves no log
abbrev pub ran_of : Result ℕ Refusal → List ℕ → model.Ran
ran_of (Err why) space = record { refusal = refusal_number why; size = 0; space = space }
ran_of (Ok size) space = record { refusal = 0; size = size; space = space }

-- ---- one record

-- a part with a whole record at its front, a card and a state in range, room for the record's entry in full and more
pub record EntryReady (part : List ℕ) (m : Powered State) (log : List ℕ) (place : ℕ) : Type 0 where
  pub instruction : Instruction
  pub size : ℕ
  pub decodes : decode part ≡ whole instruction size
  pub good : Good m.card m.state
  pub room : place + full_entry instruction < length log

-- the instruction is carried out, and its entry stands in its place, up to an end
pub record EntryWritten (part : List ℕ) (m : Powered State) (log : List ℕ) (place : ℕ) (c' : List ℕ) (s' : State) (end : ℕ) (log' : List ℕ) : Type 0 where
  pub instruction : Instruction
  pub size : ℕ
  pub decodes : decode part ≡ whole instruction size
  pub card : c' ≡ (model.after m instruction).card
  pub state : s' ≡ (model.after m instruction).state
  pub end_is : end ≡ place + length (entry_bytes zoned (model.logged m instruction))
  pub bytes : log' ≡ sets log place (entry_bytes zoned (model.logged m instruction))

-- ---- all records

-- records that are whole, a card for them and room for their entries in full and more
pub record RecordsReady (s : List ℕ) (start count : ℕ) (c log : List ℕ) : Type 0 where
  pub instructions : List Instruction
  pub reads : model.read_from count s start ≡ model.all instructions (records_end (length s))
  pub within : start ≤ records_end (length s)
  pub good : Good c power_on
  pub room : full_total instructions < length log

-- all instructions are carried out, and their entries stand at the front of the log, up to a place
pub record RecordsRun (s : List ℕ) (start count : ℕ) (c log c' log' : List ℕ) (place : ℕ) : Type 0 where
  pub instructions : List Instruction
  pub reads : model.read_from count s start ≡ model.all instructions (records_end (length s))
  pub card : c' ≡ (model.end_of instructions (powered c power_on)).card
  pub place_is : place ≡ length (entries_bytes zoned (model.entries_of instructions (powered c power_on)))
  pub bytes : log' ≡ sets log 0 (entries_bytes zoned (model.entries_of instructions (powered c power_on)))

-- ---- the log

-- a session that was checked, and room for its log in full
pub record LogReady (s log : List ℕ) : Type 0 where
  pub instructions : List Instruction
  pub frames : model.frame s ≡ 0
  pub reads : model.read_from (model.count_of s) s (model.start_of s) ≡ model.all instructions (records_end (length s))
  pub room : full_total instructions + least_log ≤ length log

-- the log stands at the front of the space, with its length
pub record LogWritten (s log : List ℕ) (size : ℕ) (log' : List ℕ) : Type 0 where
  pub instructions : List Instruction
  pub reads : model.read_from (model.count_of s) s (model.start_of s) ≡ model.all instructions (records_end (length s))
  pub size_is : size ≡ length (model.log_of s instructions)
  pub bytes : log' ≡ sets log 0 (model.log_of s instructions)
