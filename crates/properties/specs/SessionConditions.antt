-- When a session is refused: each number's condition by itself, from the session's bytes and the length of the log space alone
-- and in the order of "Sent back with a number".
use Rattle.std.specs.Prelude.{ℕ, zero, suc, ◌+◌, not, List, [], ◌∷◌, ◌++◌, ltb, eqb, length}
use Rattle.model.specs.Sizes.{least_log}
use Rattle.model.specs.Lists.{at}
use Rattle.model.specs.Log.{zoned, header_length}
use Rattle.model.specs.Reader.{records_end, part_at}
use Rattle.model.specs.Record.{record_length}
use Rattle.model.specs.Refusal.{session_length, session_trailer, start_out_of_range, too_many_records, fuse_byte, staging_bytes, bytes_left, no_space}
use Rattle.model.specs.Session.{start_of, count_of, wrong_length, wrong_trailer, wrong_start, wrong_count, wrong_fuses, wrong_staging}
use Rattle.properties.specs.Conditions.{Condition, when, record_conditions, response_length}

-- 1 to 5 and 16
abbrev pub frame_conditions : List ℕ → List Condition
frame_conditions s =
    when session_length (wrong_length s)
    ∷ when session_trailer (wrong_trailer s)
    ∷ when start_out_of_range (wrong_start s)
    ∷ when too_many_records (wrong_count s)
    ∷ when fuse_byte (wrong_fuses s)
    ∷ when staging_bytes (wrong_staging s)
    ∷ []

-- the place past n records from a place on: each begins where the one before it ends
abbrev pub place_past : ℕ → List ℕ → ℕ → ℕ
place_past zero s i = i
place_past (suc n) s i = place_past n s (i + record_length (part_at s i))

-- n records in turn
abbrev pub records_conditions : ℕ → List ℕ → ℕ → List Condition
records_conditions zero s i = []
records_conditions (suc n) s i = record_conditions (part_at s i) ++ records_conditions n s (i + record_length (part_at s i))

-- how long the entries of n records are, each answered in full, with its header before the response
abbrev pub full_length : ℕ → List ℕ → ℕ → ℕ
full_length zero s i = 0
full_length (suc n) s i = header_length zoned (at (part_at s i) 0) + response_length (part_at s i) + full_length n s (i + record_length (part_at s i))

-- the log so: the entries, the card, the trailer
abbrev pub log_length : List ℕ → ℕ
log_length s = full_length (count_of s) s (start_of s) + least_log

-- 9 and 10
abbrev pub last_conditions : List ℕ → List ℕ → List Condition
last_conditions s space =
    when bytes_left (not (eqb (place_past (count_of s) s (start_of s)) (records_end (length s))))
    ∷ when no_space (ltb (length space) (log_length s))
    ∷ []

-- 1 to 5, 16, the records in turn, 9, 10
abbrev pub session_conditions : List ℕ → List ℕ → List Condition
session_conditions s space = frame_conditions s ++ (records_conditions (count_of s) s (start_of s) ++ last_conditions s space)
