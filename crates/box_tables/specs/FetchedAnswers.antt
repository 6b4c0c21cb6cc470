-- Answers fetched ("The foyer box"), computed: what is found, and how many entry headers were read for it. One table, one theorem.
use Rattle.std.specs.Prelude.{ℕ, List, [], ◌∷◌, ◌++◌, map, ◌≡◌, refl, length, drop}
use Rattle.model.specs.Log.{Entry, zoned, entries_bytes, log_bytes, header_length, zone_fits, entry_fits}
use Rattle.model.specs.LogCheck.{entry_ok, headers_read, trailer_ok, valid_as, Found, missing, located, find, Fetched, fetch}
use Rattle.model.specs.Record.{length_fits}
use Rattle.tables.specs.Trials.{blank, Case}
use Rattle.tables.specs.Computed.{computed}

-- 13 or 14, or where the answer lies and how long it is; then the headers
abbrev found : Found → List ℕ
found (missing n) = n ∷ []
found (located from n) = from ∷ n ∷ []

abbrev told : Fetched → List ℕ
told x = found x.found ++ (x.headers ∷ [])

abbrev entry : ℕ → ℕ → List ℕ → Entry
entry kind zone response = record { kind = kind; zone = zone; response = response }

abbrev logged : List Entry → List ℕ
logged es = log_bytes zoned es (blank 7)

-- three entries, and three of which the second names a zone that is none
abbrev three : List Entry
three = entry 8 0 (7 ∷ []) ∷ entry 4 2 (1 ∷ 2 ∷ []) ∷ entry 3 0 [] ∷ []

abbrev spoilt : List Entry
spoilt = entry 8 0 (7 ∷ []) ∷ entry 4 8 (1 ∷ 2 ∷ []) ∷ entry 3 0 [] ∷ []

unfoldable pub fetched_answers : List Case
fetched_answers =
    -- each answer, and 14 behind the last: as many headers as there are entries
    (
      map (λ k. told (fetch (logged three) k)) (0 ∷ 1 ∷ 2 ∷ 3 ∷ 4096 ∷ []),
      (3 ∷ 1 ∷ 3 ∷ []) ∷ (8 ∷ 2 ∷ 3 ∷ []) ∷ (13 ∷ 0 ∷ 3 ∷ []) ∷ (14 ∷ 3 ∷ []) ∷ (14 ∷ 3 ∷ []) ∷ [],
    )
    -- a log without entries
    ∷ (told (fetch (logged []) 0) ∷ [], (14 ∷ 0 ∷ []) ∷ [])
    -- with 13 none, also for an answer before the entry that is not well, though two headers were read by then
    ∷ (
      told (fetch (logged spoilt) 0) ∷ told (fetch (logged spoilt) 3) ∷ told (fetch (drop 1 (logged three)) 0)
          ∷ (headers_read zoned 3 (logged spoilt) 0 (length (entries_bytes zoned spoilt)) ∷ []) ∷ [],
      (13 ∷ 0 ∷ []) ∷ (13 ∷ 0 ∷ []) ∷ (13 ∷ 0 ∷ []) ∷ (2 ∷ []) ∷ [],
    )
    ∷ []

pub fetched_answers_shown : map (λ (r : Case). r.0) fetched_answers ≡ map (λ (r : Case). r.1) fetched_answers
unfolding fetched_answers computed header_length zone_fits entry_fits entry_ok trailer_ok valid_as length_fits find fetch
fetched_answers_shown = refl
