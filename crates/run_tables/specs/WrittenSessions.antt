-- Sessions written ("A session writer"), computed: the bytes behind the card, and which number comes first. One table, one theorem.
use Rattle.std.specs.Prelude.{ℕ, List, [], ◌∷◌, map, ◌≡◌, refl, drop, set, replicate}
use Rattle.model.specs.Sizes.{card_size, flag_at}
use Rattle.model.specs.Session.{Ran}
use Rattle.tables.specs.Trials.{blank, Case}
use Rattle.model.specs.Writer.{Parts, parts, parts_refusal, write_session}
use Rattle.tables.specs.Computed.{computed}

-- what a space of n bytes that hold $99 has behind the card at the end; and the refusal with the session's length
abbrev behind_card : ℕ → Parts → List ℕ
behind_card n p = drop card_size (write_session p (replicate n 0x99)).space

abbrev told : Ran → List ℕ
told r = r.refusal ∷ r.size ∷ []

abbrev answered : ℕ → Parts → List ℕ
answered n p = told (write_session p (replicate n 0x99))

-- a card whose flag is neither idle nor ready
abbrev bad : ℕ → List ℕ
bad f = set (blank f) flag_at 0

-- a title that is too long by a byte
abbrev long : List ℕ
long = replicate 256 0x20

unfoldable pub written_sessions : List Case
written_sessions =
    -- title, records, their start, their count, $53 $45; the bytes beyond stay
    (
      behind_card 2204 (parts (blank 7) (0x41 ∷ 0x42 ∷ []) (3 ∷ 5 ∷ 8 ∷ []) 2) ∷ behind_card 2197 (parts (blank 0) [] [] 0) ∷ [],
      (0x41 ∷ 0x42 ∷ 3 ∷ 5 ∷ 8 ∷ 0x8F ∷ 0x08 ∷ 0 ∷ 0 ∷ 2 ∷ 0 ∷ 0x53 ∷ 0x45 ∷ 0x99 ∷ 0x99 ∷ [])
          ∷ (0x8D ∷ 0x08 ∷ 0 ∷ 0 ∷ 0 ∷ 0 ∷ 0x53 ∷ 0x45 ∷ []) ∷ [],
    )
    -- its length; a byte moved from the title into the records is another session
    ∷ (
      answered 2204 (parts (blank 4) (0x41 ∷ 0x42 ∷ []) (3 ∷ 5 ∷ 8 ∷ []) 2) ∷ behind_card 2200 (parts (blank 7) (8 ∷ []) (8 ∷ []) 1)
          ∷ behind_card 2200 (parts (blank 7) [] (8 ∷ 8 ∷ []) 2) ∷ [],
      (0 ∷ 2202 ∷ []) ∷ (8 ∷ 8 ∷ 0x8E ∷ 0x08 ∷ 0 ∷ 0 ∷ 1 ∷ 0 ∷ 0x53 ∷ 0x45 ∷ 0x99 ∷ [])
          ∷ (8 ∷ 8 ∷ 0x8D ∷ 0x08 ∷ 0 ∷ 0 ∷ 2 ∷ 0 ∷ 0x53 ∷ 0x45 ∷ 0x99 ∷ []) ∷ [],
    )
    -- 11, 1, 4, 5, 16, 15, a record's, 9, 10: each where all that come later apply too
    ∷ (
      answered 0 (parts (drop 1 (bad 5)) long (replicate 65536 0) 4097) ∷ answered 0 (parts (bad 5) long (replicate 63084 0) 4097)
          ∷ answered 0 (parts (bad 5) long (0 ∷ []) 4097) ∷ answered 0 (parts (bad 5) long (0 ∷ []) 1)
          ∷ answered 0 (parts (bad 7) long (0 ∷ []) 1) ∷ answered 0 (parts (blank 7) long (0 ∷ []) 1) ∷ answered 0 (parts (blank 7) [] (0 ∷ []) 1)
          ∷ answered 0 (parts (blank 7) [] (8 ∷ 0 ∷ []) 1) ∷ answered 2197 (parts (blank 7) [] (8 ∷ []) 1) ∷ answered 2198 (parts (blank 7) [] (8 ∷ []) 1) ∷ [],
      (11 ∷ 0 ∷ []) ∷ (1 ∷ 0 ∷ []) ∷ (4 ∷ 0 ∷ []) ∷ (5 ∷ 0 ∷ []) ∷ (16 ∷ 0 ∷ []) ∷ (15 ∷ 0 ∷ []) ∷ (6 ∷ 0 ∷ []) ∷ (9 ∷ 0 ∷ []) ∷ (10 ∷ 0 ∷ [])
          ∷ (0 ∷ 2198 ∷ []) ∷ [],
    )
    -- records in turn; a title of 255 bytes
    ∷ (
      answered 2500 (parts (blank 7) [] (3 ∷ 8 ∷ []) 1) ∷ answered 2500 (parts (blank 7) [] (3 ∷ []) 1) ∷ answered 2500 (parts (blank 7) [] (8 ∷ []) 2)
          ∷ answered 2500 (parts (blank 7) [] (3 ∷ 5 ∷ []) 0) ∷ answered 2500 (parts (blank 7) (drop 1 long) (3 ∷ 5 ∷ []) 1) ∷ [],
      (7 ∷ 0 ∷ []) ∷ (8 ∷ 0 ∷ []) ∷ (8 ∷ 0 ∷ []) ∷ (9 ∷ 0 ∷ []) ∷ (0 ∷ 2454 ∷ []) ∷ [],
    )
    ∷ []

pub written_sessions_shown : map (λ (r : Case). r.0) written_sessions ≡ map (λ (r : Case). r.1) written_sessions
unfolding written_sessions computed parts_refusal write_session
written_sessions_shown = refl
