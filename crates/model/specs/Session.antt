-- Sessions ("Session and log", "Sent back with a number"): checked whole, then run, and what is logged.
use Rattle.std.specs.Prelude.{ℕ, zero, suc, ◌+◌, ◌-◌, Bool, cond, not, ◌&&◌, List, [], ◌∷◌, ◌++◌, ltb, leb, eqb, length, take, drop}
use Rattle.model.specs.Sizes.{card_size, fuse_at, trailer_size, least_session, greatest_session, least_log, most_records}
use Rattle.model.specs.Lists.{at}
use Rattle.model.specs.Numbers.{number_at}
use Rattle.model.specs.Instruction.{Instruction, kind_of}
use Rattle.model.specs.State.{State, power_on}
use Rattle.model.specs.Call.{Powered, powered, Decoded, refused, whole}
use Rattle.model.specs.Refusal.{session_length, session_trailer, start_out_of_range, too_many_records, fuse_byte, staging_bytes, bytes_left, no_space}
use Rattle.model.specs.Log.{Entry, zoned, header_length, log_bytes}
use Rattle.model.specs.Reader.{records_end, next_of}
use Rattle.model.specs.Single.{is_fuse_byte, staging_fits, answered_kind, perform, act}

-- ---- the frame: the card, free text, the records, the trailer

abbrev pub card_of : List ℕ → List ℕ
card_of s = take card_size s

-- the trailer: the start of the records, their count, $53 $45
abbrev pub start_of : List ℕ → ℕ
start_of s = number_at s (length s - trailer_size) 4

abbrev pub count_of : List ℕ → ℕ
count_of s = number_at s (length s - 4) 2

-- 1 to 5 and 16, each by itself
abbrev pub wrong_length : List ℕ → Bool
wrong_length s = not (leb least_session (length s) && leb (length s) greatest_session)

abbrev pub wrong_trailer : List ℕ → Bool
wrong_trailer s = not (eqb (at s (length s - 2)) 0x53 && eqb (at s (length s - 1)) 0x45)

abbrev pub wrong_start : List ℕ → Bool
wrong_start s = not (leb card_size (start_of s) && leb (start_of s) (length s - trailer_size))

abbrev pub wrong_count : List ℕ → Bool
wrong_count s = ltb most_records (count_of s)

abbrev pub wrong_fuses : List ℕ → Bool
wrong_fuses s = not (is_fuse_byte (at s fuse_at))

abbrev pub wrong_staging : List ℕ → Bool
wrong_staging s = not (staging_fits s)

-- in this order; 0 where none of them applies
unfoldable pub frame : List ℕ → ℕ
frame s =
    cond (wrong_length s) session_length
    (cond (wrong_trailer s) session_trailer
    (cond (wrong_start s) start_out_of_range
    (cond (wrong_count s) too_many_records (cond (wrong_fuses s) fuse_byte (cond (wrong_staging s) staging_bytes 0)))))

-- ---- the records in turn

-- what reading records finds: the number of the first refusal, or the instructions and the place past them
pub data Read : Type 0 where
  stopped : ℕ → Read
  all : List Instruction → ℕ → Read

abbrev pub on_decoded : {A : Type 0} → Decoded Instruction → (ℕ → A) → (Instruction → ℕ → A) → A
on_decoded (refused n) f g = f n
on_decoded (whole k n) f g = g k n

abbrev pub instructions_in : Read → List Instruction
instructions_in (stopped n) = []
instructions_in (all ks i) = ks

abbrev pub more : Instruction → Read → Read
more k (stopped n) = stopped n
more k (all ks i) = all (k ∷ ks) i

-- n records from a place on
abbrev pub read_from : ℕ → List ℕ → ℕ → Read
read_from zero s i = all [] i
read_from (suc n) s i = on_decoded (next_of s i) stopped (λ k m. more k (read_from n s (i + m)))

-- ---- the run

-- what a record logs, its zone being the one that it meets, and what it leaves
abbrev pub logged : Powered State → Instruction → Entry
logged m k =
    record {
      kind = answered_kind m.card m.state k;
      zone = m.state.volatile.zone;
      response = (act m.card m.state k).report.answer;
    }

abbrev pub after : Powered State → Instruction → Powered State
after m k = powered (act m.card m.state k).card (act m.card m.state k).report.state

abbrev pub entries_of : List Instruction → Powered State → List Entry
entries_of [] m = []
entries_of (k ∷ ks) m = logged m k ∷ entries_of ks (after m k)

abbrev pub end_of : List Instruction → Powered State → Powered State
end_of [] m = m
end_of (k ∷ ks) m = end_of ks (after m k)

-- a session's card at power-up, and the log of its records run from there
abbrev pub initial : List ℕ → Powered State
initial s = powered (card_of s) power_on

abbrev pub log_of : List ℕ → List Instruction → List ℕ
log_of s ks = log_bytes zoned (entries_of ks (initial s)) (end_of ks (initial s)).card

-- how long the entries would be if every record were answered in full, an ignored one as if it were not ignored; zones are named in them
abbrev pub full_entries : List Instruction → Powered State → ℕ
full_entries [] m = 0
full_entries (k ∷ ks) m = header_length zoned (kind_of k) + length (perform m.card m.state k).report.answer + full_entries ks (after m k)

-- ---- what a session gives back and leaves: the refusal's number or 0, the log's length, the whole log space

pub record Ran : Type 0 where
  pub refusal : ℕ
  pub size : ℕ
  pub space : List ℕ

abbrev pub rejected : ℕ → List ℕ → Ran
rejected n space = record { refusal = n; size = 0; space = space }

-- 10, by the length of a log with every record answered in full; or the log at the front of the space
abbrev pub written : ℕ → List ℕ → List ℕ → Ran
written full log space =
    cond (ltb (length space) full) (rejected no_space space)
    (record { refusal = 0; size = length log; space = log ++ drop (length log) space })

-- 9, or the run
abbrev pub ended : List ℕ → List ℕ → Read → Ran
ended s space (stopped n) = rejected n space
ended s space (all ks i) =
    cond (not (eqb i (records_end (length s)))) (rejected bytes_left space)
    (written (full_entries ks (initial s) + least_log) (log_of s ks) space)

-- the records, where the frame is well
abbrev pub framed : List ℕ → List ℕ → ℕ → Ran
framed s space zero = ended s space (read_from (count_of s) s (start_of s))
framed s space (suc n) = rejected (suc n) space

unfoldable pub run : List ℕ → List ℕ → Ran
run s space = framed s space (frame s)
