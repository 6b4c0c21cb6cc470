-- Sessions run in the box ("The foyer box"), computed: at its limits and beyond, beside an exam machine, and which number comes first. One table,
-- one theorem.
use Rattle.std.specs.Prelude.{ℕ, List, [], ◌∷◌, ◌++◌, map, ◌≡◌, refl, drop, set, replicate}
use Rattle.model.specs.Sizes.{card_size, flag_at}
use Rattle.model.specs.Numbers.{bytes_of}
use Rattle.model.specs.Log.{header_length}
use Rattle.model.specs.Session.{Ran, frame, run}
use Rattle.model.specs.Box.{box_refuses, box_run}
use Rattle.tables.specs.Trials.{blank, Case}
use Rattle.tables.specs.Computed.{computed}

-- a card, bytes behind it, and a trailer: a start, a count and the last byte
abbrev session : List ℕ → List ℕ → ℕ → ℕ → ℕ → List ℕ
session card behind start count last = card ++ (behind ++ (bytes_of 4 start ++ (bytes_of 2 count ++ (0x53 ∷ last ∷ []))))

-- n records that read the fuses; n that are counted, and none there; n bytes of text and no record
abbrev recorded : ℕ → List ℕ
recorded n = session (blank 7) (replicate n 8) card_size n 0x45

abbrev counted : ℕ → List ℕ
counted n = session (blank 7) [] card_size n 0x45

abbrev texted : ℕ → List ℕ
texted n = session (blank 7) (replicate n 0x41) card_size 0 0x45

-- a card with a fuse byte and a flag that is neither idle nor ready
abbrev bad : ℕ → List ℕ
bad f = set (blank f) flag_at 0

-- the refusal and the length, in a log space of 4,000 bytes
abbrev told : Ran → List ℕ
told r = r.refusal ∷ r.size ∷ []

abbrev in_box : List ℕ → List ℕ
in_box s = told (box_run s (replicate 4000 0))

abbrev on_machine : List ℕ → List ℕ
on_machine s = told (run s (replicate 4000 0))

unfoldable pub boxed_sessions : List Case
boxed_sessions =
    -- a record is run as on an exam machine; 64 records are, and where 64 are counted and none is there it is 8; 65 are too many
    (
      in_box (recorded 1) ∷ on_machine (recorded 1) ∷ in_box (recorded 64) ∷ in_box (counted 64) ∷ in_box (counted 65) ∷ on_machine (counted 65) ∷ [],
      (0 ∷ 2201 ∷ []) ∷ (0 ∷ 2201 ∷ []) ∷ (0 ∷ 2453 ∷ []) ∷ (8 ∷ 0 ∷ []) ∷ (18 ∷ 0 ∷ []) ∷ (8 ∷ 0 ∷ []) ∷ [],
    )
    -- 4,096 bytes and 4,097; what is left of them is text, so 9
    ∷ (
      in_box (texted 1899) ∷ on_machine (texted 1899) ∷ in_box (texted 1900) ∷ on_machine (texted 1900) ∷ [],
      (9 ∷ 0 ∷ []) ∷ (9 ∷ 0 ∷ []) ∷ (18 ∷ 0 ∷ []) ∷ (9 ∷ 0 ∷ []) ∷ [],
    )
    -- 1, 2, 3, 4, 18, 5, 16, a record's, 9, 10: each where all that come later apply too, as far as one session can have them
    ∷ (
      in_box (drop 1 (session (bad 5) [] 0 4097 0x46)) ∷ in_box (session (bad 5) [] 0 4097 0x46) ∷ in_box (session (bad 5) [] 0 4097 0x45)
          ∷ in_box (session (bad 5) [] card_size 4097 0x45) ∷ in_box (session (bad 5) [] card_size 65 0x45) ∷ in_box (session (bad 5) [] card_size 64 0x45)
          ∷ in_box (session (bad 7) [] card_size 64 0x45) ∷ in_box (session (blank 7) (0 ∷ []) card_size 64 0x45) ∷ in_box (texted 1)
          ∷ told (box_run (recorded 0) []) ∷ [],
      map (λ n. n ∷ 0 ∷ []) (1 ∷ 2 ∷ 3 ∷ 4 ∷ 18 ∷ 5 ∷ 16 ∷ 6 ∷ 9 ∷ 10 ∷ []),
    )
    ∷ []

pub boxed_sessions_shown : map (λ (r : Case). r.0) boxed_sessions ≡ map (λ (r : Case). r.1) boxed_sessions
unfolding boxed_sessions computed header_length frame run box_refuses box_run
boxed_sessions_shown = refl
