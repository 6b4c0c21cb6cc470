-- The words about an accepted session: its instructions, what it gives back and leaves, what it has reached before a record, and what a
-- single command leaves there.
use Rattle.std.specs.Prelude.{ℕ, ◌+◌, ◌≤◌, List, [], ◌∷◌, ◌++◌, ◌≡◌, length, take, drop, get_or}
use Rattle.model.specs.Sizes.{card_size, least_log}
use Rattle.model.specs.Lists.{at}
use Rattle.model.specs.Numbers.{bytes_of}
use Rattle.model.specs.State.{State}
use Rattle.model.specs.Instruction.{Instruction, poll}
use Rattle.model.specs.Call.{Powered, Called, replying}
use Rattle.model.specs.Reader.{records_end, part_at}
use Rattle.model.specs.Record.{record_length}
use Rattle.model.specs.Log.{Entry}
use Rattle.model.specs.LogCheck.{place_of}
use Rattle.model.specs.Session.{start_of, count_of, frame, all, read_from, end_of, initial, full_entries, Ran}

-- ---- the session

-- nothing is refused: the frame is well, the records are these instructions and end where the trailer begins, and a log with every
-- record answered in full has room
pub record Accepts (s space : List ℕ) (ks : List Instruction) : Type 0 where
  pub frames : frame s ≡ 0
  pub reads : read_from (count_of s) s (start_of s) ≡ all ks (records_end (length s))
  pub room : full_entries ks (initial s) + least_log ≤ length space

-- what is then given back and left: the log at the front of the space, whose other bytes are kept
abbrev pub accepting : List ℕ → List ℕ → Ran
accepting log space = record { refusal = 0; size = length log; space = log ++ drop (length log) space }

-- a session without records: a card and a trailer that counts none
abbrev pub empty : List ℕ → List ℕ
empty card = card ++ (bytes_of 4 card_size ++ (bytes_of 2 0 ++ (0x53 ∷ 0x45 ∷ [])))

-- ---- its records

-- a property of every instruction of a list
abbrev pub Every : (Instruction → Type 0) → List Instruction → Type 0
Every P [] = Unit {0}
Every P (k ∷ ks) = P k × Every P ks

-- instruction k of a list, and where those before it lead: a card and a state
abbrev pub instruction_at : List Instruction → ℕ → Instruction
instruction_at ks k = get_or ks k poll

abbrev pub reached : List Instruction → Powered State → ℕ → Powered State
reached ks m k = end_of (take k ks) m

-- the bytes of the record at a place
abbrev pub record_at : List ℕ → ℕ → List ℕ
record_at s i = take (record_length (part_at s i)) (part_at s i)

-- the kind byte of answer k of a log, and the byte behind the response's length, which is the zone where the kind names it
abbrev pub kind_in : List ℕ → ℕ → ℕ
kind_in l k = at l (place_of l k)

abbrev pub zone_in : List ℕ → ℕ → ℕ
zone_in l k = at l (place_of l k + 3)

-- entry k of a list
abbrev pub entry_of : List Entry → ℕ → Entry
entry_of es k = get_or es k (record { kind = 0; zone = 0; response = [] })

-- what a single command leaves that answers as a kind, gives a response and hands out tries
abbrev pub leaving : (kind tries : ℕ) → Powered State → (answer space : List ℕ) → Called State
leaving kind tries m answer space =
    record { card = m.card; reply = replying kind space (record { state = m.state; answer = answer; tries = tries }) }
