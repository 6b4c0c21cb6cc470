-- The trailer mender ("Mending a lost trailer"): where the records of a session begin whose last eight bytes are lost, how many they are, and
-- the session with the trailer that says so.
use Rattle.std.specs.Prelude.{ℕ, zero, suc, ◌+◌, ◌-◌, cond, List, ◌++◌, eqb, length, take}
use Rattle.model.specs.Sizes.{card_size, most_records}
use Rattle.model.specs.Reader.{records_end, next_of}
use Rattle.model.specs.Refusal.{session_length, fuse_byte, staging_bytes, no_start}
use Rattle.model.specs.Session.{wrong_length, wrong_fuses, wrong_staging, on_decoded}
use Rattle.model.specs.Writer.{trailer_bytes}

-- ---- the search

-- a record before some others; where there are none, none
abbrev pub another : ℕ → ℕ
another zero = 0
another (suc k) = suc (suc k)

-- how many records, 1 to n, the bytes from a place up to the trailer are exactly; 0 where they are not
unfoldable pub count_from : ℕ → List ℕ → ℕ → ℕ
count_from zero s i = 0
count_from (suc n) s i =
    on_decoded (next_of s i) (λ r. 0) (λ k m. cond (eqb (i + m) (records_end (length s))) 1 (another (count_from n s (i + m))))

-- what a search finds: no start, or one with the count of its records
pub data Search : Type 0 where
  nowhere : Search
  found : ℕ → ℕ → Search

-- a start with a count, before what the later starts give
abbrev pub sooner : ℕ → ℕ → Search → Search
sooner i zero later = later
sooner i (suc k) later = found i (suc k)

-- the smallest of n starts, from a place on
unfoldable pub start_from : ℕ → List ℕ → ℕ → Search
start_from zero s i = nowhere
start_from (suc n) s i = sooner i (count_from most_records s i) (start_from n s (i + 1))

-- from the card's end upward
abbrev pub smallest_start : List ℕ → Search
smallest_start s = start_from (records_end (length s) - card_size) s card_size

-- ---- the call: its refusal or 0, the start and the count, the whole session

pub record Mended : Type 0 where
  pub refusal : ℕ
  pub start : ℕ
  pub count : ℕ
  pub session : List ℕ

abbrev pub unmended : ℕ → List ℕ → Mended
unmended n s = record { refusal = n; start = 0; count = 0; session = s }

-- 17, or a trailer in place of the last eight bytes
abbrev pub mended_by : List ℕ → Search → Mended
mended_by s nowhere = unmended no_start s
mended_by s (found i k) = record { refusal = 0; start = i; count = k; session = take (records_end (length s)) s ++ trailer_bytes i k }

-- 1, 5, 16; the trailer's numbers are not judged
unfoldable pub untrailed_refusal : List ℕ → ℕ
untrailed_refusal s = cond (wrong_length s) session_length (cond (wrong_fuses s) fuse_byte (cond (wrong_staging s) staging_bytes 0))

abbrev pub searched : List ℕ → ℕ → Mended
searched s zero = mended_by s (smallest_start s)
searched s (suc n) = unmended (suc n) s

unfoldable pub mend : List ℕ → Mended
mend s = searched s (untrailed_refusal s)
