-- What the mender finds and gives back, read as the model's; and the counts that its table holds.
use Rattle.std.specs.Prelude.{ℕ, zero, suc, ◌+◌, ◌%◌, cond, List, Option, None, Some, Result, Ok, Err, ltb, eqb, length, get_or}
use Rattle.std.specs.Option.{option_and_then}
use Rattle.model.specs.Sizes.{most_records}
use Rattle.model.specs.Reader.{records_end, next_of}
use Rattle.model.specs.Session.{on_decoded}
use Rattle.model.specs.Mender as model
use Rattle.record.specs.RefusalNumber.{refusal_number}
use Rattle.record.specs.declared.refusal.Refusal.{Refusal}
use Rattle.mender.specs.declared.Found.{Found}

abbrev pub found_by : Option Found → model.Search
found_by None = model.nowhere
found_by (Some f) = model.found f.start f.count

-- the result with the session at exit
abbrev pub mended_of : Result Found Refusal → List ℕ → model.Mended
mended_of (Ok f) s = record { refusal = 0; start = f.start; count = f.count; session = s }
mended_of (Err why) s = model.unmended (refusal_number why) s

-- the model's count, which is 0 where there is none
abbrev pub counted : ℕ → Option ℕ
counted zero = None
counted (suc k) = Some (suc k)

-- a count with a record more, up to as many as there may be
abbrev pub followed : ℕ → Option ℕ
followed k = cond (ltb k most_records) (Some (k + 1)) None

-- how many counts are kept, each at its place's remainder
abbrev pub window : ℕ
window = 32

-- the count from a place on, from the counts behind it
unfoldable pub tabled : List ℕ → List (Option ℕ) → ℕ → Option ℕ
tabled s counts i =
    on_decoded (next_of s i) (λ r. None)
    (λ k m. cond (eqb (i + m) (records_end (length s))) (Some 1) (option_and_then followed (get_or counts ((i + m) % window) None)))
