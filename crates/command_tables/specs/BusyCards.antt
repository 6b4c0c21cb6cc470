-- Cards that are busy ("A card that is busy writing"), computed on whole cards with the single command: one table, one theorem.
use Rattle.std.specs.Prelude.{ℕ, List, [], ◌∷◌, map, ◌≡◌, refl, set, replicate}
use Rattle.model.specs.Lists.{at}
use Rattle.model.specs.State.{State}
use Rattle.model.specs.Call.{Reply}
use Rattle.model.specs.At88sc1608.{register_at, counter_at, attempts_at}
use Rattle.model.specs.Single.{replies, final}
use Rattle.tables.specs.Trials.{blank, call, on, Case}
use Rattle.tables.specs.Computed.{computed}

-- what records give back that are sent one right after the other: the busy times, the kinds, the refusals, the first bytes of the spaces
abbrev given : (Reply State → ℕ) → List ℕ → List (List ℕ) → List ℕ
given part c records = map part (replies (map call records) (on c))

abbrev times : List ℕ → List (List ℕ) → List ℕ
times = given (λ r. r.state.busy)

abbrev kinds : List ℕ → List (List ℕ) → List ℕ
kinds = given (λ r. r.kind)

abbrev refusals : List ℕ → List (List ℕ) → List ℕ
refusals = given (λ r. r.refusal)

abbrev answers : List ℕ → List (List ℕ) → List ℕ
answers = given (λ r. at r.space 0)

-- records
abbrev writing : List ℕ
writing = 5 ∷ 0 ∷ 1 ∷ 0x3C ∷ []

abbrev waiting : ℕ → List ℕ
waiting n = 13 ∷ n ∷ []

abbrev polling : List ℕ
polling = 14 ∷ []

abbrev right_seven : List ℕ
right_seven = 10 ∷ 7 ∷ 0xFF ∷ 0xFF ∷ 0xFF ∷ []

abbrev wrong_seven : List ℕ
wrong_seven = 10 ∷ 7 ∷ 1 ∷ 2 ∷ 3 ∷ []

abbrev verdict : ℕ → List ℕ
verdict v = 12 ∷ v ∷ replicate 8 7

unfoldable pub busy_cards : List Case
busy_cards =
    -- 5 and 7 make busy, at F = 7 and on a sealed card where nothing may be written: WPE without its password, $00 of the configuration
    (
      times (blank 7) (writing ∷ []) ∷ times (set (blank 0) (register_at 0) 0x7F) (writing ∷ []) ∷ times (blank 7) ((7 ∷ 0 ∷ 1 ∷ 1 ∷ []) ∷ [])
          ∷ times (blank 0) ((7 ∷ 0 ∷ 1 ∷ 1 ∷ []) ∷ []) ∷ [],
      replicate 4 (10 ∷ []),
    )
    -- 9 does with write password 7, not without it, and not at F = 0
    ∷ (
      times (blank 7) (right_seven ∷ waiting 10 ∷ (9 ∷ []) ∷ []) ∷ times (blank 7) ((9 ∷ []) ∷ [])
          ∷ times (blank 0) (right_seven ∷ waiting 10 ∷ (9 ∷ []) ∷ []) ∷ [],
      (10 ∷ 0 ∷ 10 ∷ []) ∷ (0 ∷ []) ∷ (10 ∷ 0 ∷ 0 ∷ []) ∷ [],
    )
    -- 10 and 11 do, a wrong password as a right one, but not at a counter of $00
    ∷ (
      times (blank 0) (right_seven ∷ []) ∷ times (blank 0) (wrong_seven ∷ []) ∷ times (blank 0) ((11 ∷ []) ∷ []) ∷ [],
      replicate 3 (10 ∷ []),
    )
    ∷ (
      times (set (blank 0) (counter_at 7) 0) (right_seven ∷ wrong_seven ∷ []) ∷ times (set (blank 0) attempts_at 0) ((11 ∷ []) ∷ []) ∷ [],
      (0 ∷ 0 ∷ []) ∷ (0 ∷ []) ∷ [],
    )
    -- 12 does where authentication is begun, with either verdict
    ∷ (
      times (blank 0) (verdict 1 ∷ (11 ∷ []) ∷ waiting 10 ∷ verdict 0 ∷ waiting 10 ∷ (11 ∷ []) ∷ waiting 10 ∷ verdict 1 ∷ []) ∷ [],
      (0 ∷ 10 ∷ 0 ∷ 10 ∷ 0 ∷ 10 ∷ 0 ∷ 10 ∷ []) ∷ [],
    )
    -- no other kind does
    ∷ (
      times (blank 7) ((1 ∷ []) ∷ (2 ∷ []) ∷ (3 ∷ 1 ∷ []) ∷ (4 ∷ 0 ∷ 1 ∷ []) ∷ (6 ∷ 0 ∷ 1 ∷ []) ∷ (8 ∷ []) ∷ waiting 1 ∷ polling ∷ []) ∷ [],
      replicate 8 0 ∷ [],
    )
    -- met while busy: kinds 2 to 12 and 15 are ignored, 13, 14, 16 and 1 act
    ∷ (
      kinds (blank 7)
          (writing ∷ (2 ∷ []) ∷ (3 ∷ 1 ∷ []) ∷ (4 ∷ 0 ∷ 1 ∷ []) ∷ (5 ∷ 0 ∷ 1 ∷ 1 ∷ []) ∷ (6 ∷ 0 ∷ 1 ∷ []) ∷ (7 ∷ 0 ∷ 1 ∷ 1 ∷ [])
          ∷ (8 ∷ []) ∷ (9 ∷ []) ∷ right_seven ∷ (11 ∷ []) ∷ verdict 1 ∷ (15 ∷ 0 ∷ 1 ∷ 1 ∷ []) ∷ waiting 1 ∷ polling
          ∷ (16 ∷ 255 ∷ 0 ∷ []) ∷ (1 ∷ []) ∷ (8 ∷ []) ∷ [])
          ∷ [],
      (5 ∷ 130 ∷ 131 ∷ 132 ∷ 133 ∷ 134 ∷ 135 ∷ 136 ∷ 137 ∷ 138 ∷ 139 ∷ 140 ∷ 143 ∷ 13 ∷ 14 ∷ 16 ∷ 1 ∷ 8 ∷ []) ∷ [],
    )
    -- an ignored write stores nothing and adds no time
    ∷ (
      (at (final (map call (writing ∷ (5 ∷ 0 ∷ 1 ∷ 0x11 ∷ []) ∷ [])) (on (blank 7))).card 0 ∷ [])
          ∷ times (blank 7) (writing ∷ waiting 4 ∷ writing ∷ waiting 5 ∷ writing ∷ []) ∷ [],
      (0x3C ∷ []) ∷ (10 ∷ 6 ∷ 6 ∷ 1 ∷ 1 ∷ []) ∷ [],
    )
    -- polls: ready, busy, after 9 ms still busy, after one more ready; 255 ms leave nothing below 0
    ∷ (
      answers (blank 7) (polling ∷ writing ∷ polling ∷ waiting 9 ∷ polling ∷ waiting 1 ∷ polling ∷ []) ∷ times (blank 7) (writing ∷ waiting 255 ∷ []) ∷ [],
      (0 ∷ 0x99 ∷ 1 ∷ 0x99 ∷ 1 ∷ 0x99 ∷ 0 ∷ []) ∷ (10 ∷ 0 ∷ []) ∷ [],
    )
    -- while busy a bad record is refused as ever, and no space is too short; ready, a read of 16 bytes does not fit into four
    ∷ (
      refusals (blank 7) (writing ∷ (3 ∷ 8 ∷ []) ∷ (17 ∷ []) ∷ (2 ∷ 0 ∷ []) ∷ (13 ∷ []) ∷ waiting 0 ∷ (4 ∷ 0 ∷ 16 ∷ []) ∷ [])
          ∷ refusals (blank 7) ((4 ∷ 0 ∷ 16 ∷ []) ∷ []) ∷ kinds (blank 7) (writing ∷ (3 ∷ 8 ∷ []) ∷ (4 ∷ 0 ∷ 16 ∷ []) ∷ []) ∷ [],
      (0 ∷ 7 ∷ 6 ∷ 9 ∷ 8 ∷ 7 ∷ 0 ∷ []) ∷ (10 ∷ []) ∷ (5 ∷ 0 ∷ 132 ∷ []) ∷ [],
    )
    ∷ []

pub busy_cards_shown : map (λ (r : Case). r.0) busy_cards ≡ map (λ (r : Case). r.1) busy_cards
unfolding busy_cards computed
busy_cards_shown = refl
