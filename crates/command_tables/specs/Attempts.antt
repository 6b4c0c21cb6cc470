-- The tries left that single commands hand out ("Tries left, shown to the candidate"), computed on whole cards: one table, one theorem.
use Rattle.std.specs.Prelude.{ℕ, List, [], ◌∷◌, ◌++◌, map, ◌≡◌, refl, set, replicate}
use Rattle.model.specs.Lists.{at}
use Rattle.model.specs.At88sc1608.{counter_at, attempts_at}
use Rattle.tables.specs.Trials.{blank, tries, left, Case}
use Rattle.tables.specs.Computed.{computed}

-- the read password of set 2, $FF $FF $FF on a blank card, and another
abbrev right : List ℕ
right = 10 ∷ 10 ∷ 0xFF ∷ 0xFF ∷ 0xFF ∷ []

abbrev wrong : List ℕ
wrong = 10 ∷ 10 ∷ 1 ∷ 2 ∷ 3 ∷ []

abbrev begin : List ℕ
begin = 11 ∷ []

-- a sealed card whose counter at a place holds some byte: what a record hands out there, and what the counter then holds
abbrev handed : ℕ → ℕ → List ℕ → List ℕ
handed place byte sent =
    let c : List ℕ = set (blank 0) place byte in
    tries c (sent ∷ []) ++ (at (left c (sent ∷ [])).card place ∷ [])

abbrev presented : ℕ → List ℕ → List ℕ
presented byte sent = handed (counter_at 10) byte sent

abbrev begun : ℕ → List ℕ
begun byte = handed attempts_at byte begin

unfoldable pub attempts : List Case
attempts =
    -- a right password, at a full counter, at another, and at one that is used up
    (presented 0xFF right ∷ presented 0xA5 right ∷ presented 0x00 right ∷ [], (8 ∷ 0xFF ∷ []) ∷ (8 ∷ 0xFF ∷ []) ∷ (0 ∷ 0x00 ∷ []) ∷ [])
    -- a wrong one: the 1 bits of the counter's new value
    ∷ (
      presented 0xFF wrong ∷ presented 0xA5 wrong ∷ presented 0x80 wrong ∷ presented 0x00 wrong ∷ [],
      (7 ∷ 0xFE ∷ []) ∷ (3 ∷ 0xA4 ∷ []) ∷ (0 ∷ 0x00 ∷ []) ∷ (0 ∷ 0x00 ∷ []) ∷ [],
    )
    -- authentication begun, likewise
    ∷ (begun 0xFF ∷ begun 0xA5 ∷ begun 0x80 ∷ begun 0x00 ∷ [], (7 ∷ 0xFE ∷ []) ∷ (3 ∷ 0xA4 ∷ []) ∷ (0 ∷ 0x00 ∷ []) ∷ (0 ∷ 0x00 ∷ []) ∷ [])
    -- eight wrong ones, then the right one; two wrong ones, then the right one
    ∷ (tries (blank 0) (replicate 8 wrong ++ (right ∷ [])) ∷ [], (7 ∷ 6 ∷ 5 ∷ 4 ∷ 3 ∷ 2 ∷ 1 ∷ 0 ∷ 0 ∷ []) ∷ [])
    ∷ (tries (blank 0) (wrong ∷ wrong ∷ right ∷ wrong ∷ []) ∷ [], (7 ∷ 6 ∷ 8 ∷ 7 ∷ []) ∷ [])
    -- begun and denied, begun and accepted: the verdict hands out nothing
    ∷ (
      tries (blank 0) (begin ∷ (12 ∷ 0 ∷ replicate 8 7) ∷ begin ∷ (12 ∷ 1 ∷ replicate 8 7) ∷ begin ∷ []) ∷ [],
      (7 ∷ 0 ∷ 6 ∷ 0 ∷ 7 ∷ []) ∷ [],
    )
    -- every other kind hands out nothing
    ∷ (
      tries (blank 7)
          ((1 ∷ []) ∷ (2 ∷ []) ∷ (3 ∷ 1 ∷ []) ∷ (4 ∷ 0 ∷ 1 ∷ []) ∷ (5 ∷ 0 ∷ 1 ∷ 1 ∷ [])
          ∷ (6 ∷ 0 ∷ 1 ∷ []) ∷ (7 ∷ 0 ∷ 1 ∷ 1 ∷ []) ∷ (8 ∷ []) ∷ (9 ∷ []) ∷ [])
          ∷ [],
      replicate 9 0 ∷ [],
    )
    -- nor does a refusal: a byte too many, a byte too few, selector 16, a byte behind kind 11
    ∷ (
      tries (blank 0) ((right ++ (0 ∷ [])) ∷ (10 ∷ 10 ∷ 0xFF ∷ 0xFF ∷ []) ∷ (10 ∷ 16 ∷ 0xFF ∷ 0xFF ∷ 0xFF ∷ []) ∷ (11 ∷ 0 ∷ []) ∷ []) ∷ [],
      (0 ∷ 0 ∷ 0 ∷ 0 ∷ []) ∷ [],
    )
    ∷ []

pub attempts_shown : map (λ (r : Case). r.0) attempts ≡ map (λ (r : Case). r.1) attempts
unfolding attempts computed
attempts_shown = refl
