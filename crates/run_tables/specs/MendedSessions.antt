-- Sessions mended ("Mending a lost trailer"), computed: the refusal, the count and the start, the bytes behind the card, and which number comes
-- first. One table, one theorem.
use Rattle.std.specs.Prelude.{ℕ, List, [], ◌∷◌, ◌++◌, map, ◌≡◌, refl, drop, set, replicate}
use Rattle.model.specs.Sizes.{card_size, flag_at}
use Rattle.model.specs.Mender.{Mended, count_from, start_from, untrailed_refusal, mend}
use Rattle.tables.specs.Trials.{blank, Case}
use Rattle.tables.specs.Computed.{computed}

-- a card, bytes behind it, and eight bytes where the trailer was
abbrev lost : List ℕ → List ℕ → List ℕ
lost card behind = card ++ (behind ++ replicate 8 0x99)

abbrev told : Mended → List ℕ
told r = r.refusal ∷ r.count ∷ r.start ∷ []

abbrev answered : List ℕ → List ℕ
answered behind = told (mend (lost (blank 7) behind))

abbrev behind_card : List ℕ → List ℕ
behind_card behind = drop card_size (mend (lost (blank 7) behind)).session

-- a card whose flag is neither idle nor ready
abbrev bad : ℕ → List ℕ
bad f = set (blank f) flag_at 0

unfoldable pub mended_sessions : List Case
mended_sessions =
    -- two records behind the card; a byte of text before one that reads as no record, and one that does: the smallest start takes it in
    (
      answered (3 ∷ 5 ∷ 8 ∷ []) ∷ behind_card (3 ∷ 5 ∷ 8 ∷ []) ∷ answered (0x41 ∷ 8 ∷ []) ∷ behind_card (0x41 ∷ 8 ∷ []) ∷ answered (8 ∷ 8 ∷ []) ∷ [],
      (0 ∷ 2 ∷ 2189 ∷ []) ∷ (3 ∷ 5 ∷ 8 ∷ 0x8D ∷ 0x08 ∷ 0 ∷ 0 ∷ 2 ∷ 0 ∷ 0x53 ∷ 0x45 ∷ []) ∷ (0 ∷ 1 ∷ 2190 ∷ [])
          ∷ (0x41 ∷ 8 ∷ 0x8E ∷ 0x08 ∷ 0 ∷ 0 ∷ 1 ∷ 0 ∷ 0x53 ∷ 0x45 ∷ []) ∷ (0 ∷ 2 ∷ 2189 ∷ []) ∷ [],
    )
    -- a zone out of range, then data that are cut short, then two records; three bytes of which the last two are one; and records that never end there
    ∷ (
      answered (3 ∷ 12 ∷ 1 ∷ 3 ∷ 5 ∷ []) ∷ answered (3 ∷ 3 ∷ 3 ∷ []) ∷ answered (3 ∷ 3 ∷ 9 ∷ 3 ∷ []) ∷ [],
      (0 ∷ 2 ∷ 2191 ∷ []) ∷ (0 ∷ 1 ∷ 2190 ∷ []) ∷ (17 ∷ 0 ∷ 0 ∷ []) ∷ [],
    )
    -- no record, a byte that is none, one cut short behind a whole one: nothing changes
    ∷ (
      answered [] ∷ answered (0 ∷ []) ∷ answered (8 ∷ 3 ∷ []) ∷ behind_card (8 ∷ 3 ∷ []) ∷ [],
      (17 ∷ 0 ∷ 0 ∷ []) ∷ (17 ∷ 0 ∷ 0 ∷ []) ∷ (17 ∷ 0 ∷ 0 ∷ []) ∷ (8 ∷ 3 ∷ replicate 8 0x99) ∷ [],
    )
    -- 1, 5, 16, 17: each where all that come later apply too
    ∷ (
      told (mend (drop 1 (lost (bad 5) []))) ∷ told (mend (lost (bad 5) [])) ∷ told (mend (lost (bad 7) [])) ∷ told (mend (lost (blank 7) [])) ∷ [],
      (1 ∷ 0 ∷ 0 ∷ []) ∷ (5 ∷ 0 ∷ 0 ∷ []) ∷ (16 ∷ 0 ∷ 0 ∷ []) ∷ (17 ∷ 0 ∷ 0 ∷ []) ∷ [],
    )
    ∷ []

pub mended_sessions_shown : map (λ (r : Case). r.0) mended_sessions ≡ map (λ (r : Case). r.1) mended_sessions
unfolding mended_sessions computed count_from start_from untrailed_refusal mend
mended_sessions_shown = refl
