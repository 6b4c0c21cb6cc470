-- The log reader ("Session and log", "The foyer box"): when bytes are accepted as a log, by places in them, where an answer lies, and how many
-- entry headers are read for it. `LogReading` of crate `properties` has that this is the layout of `Log`, no more and no less.
use Rattle.std.specs.Prelude.{ℕ, zero, suc, ◌+◌, ◌-◌, Bool, cond, not, ◌&&◌, List, [], ltb, leb, eqb, length, take, drop}
use Rattle.model.specs.Sizes.{fuse_at, trailer_size, least_log, most_records}
use Rattle.model.specs.Lists.{at}
use Rattle.model.specs.Numbers.{number_at}
use Rattle.model.specs.Refusal.{not_a_log, no_such_answer}
use Rattle.model.specs.Single.{is_fuse_byte, staging_fits}
use Rattle.model.specs.Log.{Ending, zoned, header_length, entry_fits, zone_fits}

-- ---- the check

abbrev pub count_of : List ℕ → ℕ
count_of l = number_at l (length l - 4) 2

abbrev pub offset_of : List ℕ → ℕ
offset_of l = number_at l (length l - trailer_size) 4

-- the response's length of the entry at a place
abbrev pub length_at : List ℕ → ℕ → ℕ
length_at l i = number_at l (i + 1) 2

module _ (E : Ending) where
  -- where its response begins, and the place past that entry
  abbrev pub response_at : List ℕ → ℕ → ℕ
  response_at l i = i + header_length E (at l i)

  abbrev pub next_entry : List ℕ → ℕ → ℕ
  next_entry l i = response_at l i + length_at l i

  -- an entry that ends by a place
  unfoldable pub entry_ok : List ℕ → ℕ → ℕ → Bool
  entry_ok l i end =
      leb (i + 3) end && (entry_fits (at l i) (length_at l i) && (zone_fits E (at l i) (at l (i + 3)) && leb (next_entry l i) end))

  -- n entries that end at a place
  abbrev pub entries_ok : ℕ → List ℕ → ℕ → ℕ → Bool
  entries_ok zero l i end = eqb i end
  entries_ok (suc n) l i end = entry_ok l i end && entries_ok n l (next_entry l i) end

  -- the trailer and the card before it
  unfoldable pub trailer_ok : List ℕ → Bool
  trailer_ok l =
      leb least_log (length l)
      && (eqb (at l (length l - 2)) 0x4C
      && (eqb (at l (length l - 1)) E.last
      && (leb (count_of l) most_records
      && (eqb (offset_of l + least_log) (length l) && (is_fuse_byte (at l (offset_of l + fuse_at)) && staging_fits (drop (offset_of l) l))))))

  unfoldable pub valid_as : List ℕ → Bool
  valid_as l = trailer_ok l && entries_ok (count_of l) l 0 (offset_of l)

  -- how many entry headers a walk over n entries reads: one for each, up to the first entry that is not well
  abbrev pub headers_read : ℕ → List ℕ → ℕ → ℕ → ℕ
  headers_read zero l i end = 0
  headers_read (suc n) l i end = suc (cond (entry_ok l i end) (headers_read n l (next_entry l i) end) 0)

  -- the place of the entry k entries past a place
  abbrev pub entry_place : ℕ → List ℕ → ℕ → ℕ
  entry_place zero l i = i
  entry_place (suc k) l i = entry_place k l (next_entry l i)

abbrev pub valid : List ℕ → Bool
valid l = valid_as zoned l

-- ---- an answer

-- a refusal's number, or where an answer begins and how long it is
pub data Found : Type 0 where
  missing : ℕ → Found
  located : ℕ → ℕ → Found

-- the place of the entry of answer k
abbrev pub place_of : List ℕ → ℕ → ℕ
place_of l k = entry_place zoned k l 0

-- 13, 14, or where answer k lies
unfoldable pub find : List ℕ → ℕ → Found
find l k =
    cond (not (valid l)) (missing not_a_log)
    (cond (not (ltb k (count_of l))) (missing no_such_answer) (located (response_at zoned l (place_of l k)) (length_at l (place_of l k))))

-- its bytes
abbrev pub answer_in : List ℕ → Found → List ℕ
answer_in l (missing n) = []
answer_in l (located from n) = take n (drop from l)

-- ---- fetching an answer ("The foyer box"): what is found, and how many entry headers the walk over the log read; 0 with 13

pub record Fetched : Type 0 where
  pub found : Found
  pub headers : ℕ

unfoldable pub fetch : List ℕ → ℕ → Fetched
fetch l k = record { found = find l k; headers = cond (valid l) (headers_read zoned (count_of l) l 0 (offset_of l)) 0 }
