-- The six mistakes that the paper names last ("Mistakes a card programmer makes"), each as a trial in which a card that makes it
-- would show: one table, one theorem.
use Rattle.std.specs.Prelude.{ℕ, ◌+◌, List, [], ◌∷◌, ◌++◌, map, ◌≡◌, refl, set, take, drop, replicate}
use Rattle.model.specs.At88sc1608.{register_at, configuration_at}
use Rattle.tables.specs.Trials.{blank, spaces, left, active_number, Case}
use Rattle.tables.specs.Computed.{computed}

-- the active password after some records on a sealed card of $FF bytes, whose passwords are all $FF $FF $FF
abbrev active : List (List ℕ) → ℕ
active records = active_number (left (blank 0) records).state.volatile.active

-- a right write password of set 3, a wrong one of set 5
abbrev right_three : List ℕ
right_three = 10 ∷ 3 ∷ 0xFF ∷ 0xFF ∷ 0xFF ∷ []

abbrev wrong_five : List ℕ
wrong_five = 10 ∷ 5 ∷ 1 ∷ 2 ∷ 3 ∷ []

-- n bytes of what some records leave on a card, from a place on
abbrev leaves : List ℕ → List (List ℕ) → ℕ → ℕ → List ℕ
leaves c records i n = take n (drop i (left c records).card)

-- the first byte of zone 0, at first $F0, after some records and a write of $3C, at a fuse byte and a register of zone 0
abbrev written_after : ℕ → ℕ → List (List ℕ) → List ℕ
written_after f register records = leaves (set (set (blank f) (register_at 0) register) 0 0xF0) (records ++ ((5 ∷ 0 ∷ 1 ∷ 0x3C ∷ []) ∷ [])) 0 1

unfoldable pub mistakes : List Case
mistakes =
    -- a wrong password leaves none active, whichever was: set 3's is, then none
    ((active (right_three ∷ []) ∷ active (right_three ∷ wrong_five ∷ []) ∷ []) ∷ [], (4 ∷ 0 ∷ []) ∷ [])
    -- a read past $FF of zone 0 goes on at its $00, which holds 3, and not at the first byte of zone 1, which holds 9
    ∷ (
      spaces (set (set (set (set (blank 7) 0xFE 1) 0xFF 2) 0x00 3) 0x100 9) ((4 ∷ 0xFE ∷ 3 ∷ []) ∷ []),
      (1 ∷ 2 ∷ 3 ∷ 0x99 ∷ []) ∷ [],
    )
    -- a write at the last byte of a page goes on at the page's first; the page behind it keeps its bytes
    ∷ (
      leaves (blank 7) ((5 ∷ 0x1F ∷ 2 ∷ 1 ∷ 2 ∷ []) ∷ []) 0x10 18 ∷ [],
      (2 ∷ (replicate 14 0xFF ++ (1 ∷ 0xFF ∷ 0xFF ∷ []))) ∷ [],
    )
    -- a write over the page of $30 at F = 6, with no password: its first half is kept, its second half stored
    ∷ (
      leaves (blank 6) ((7 ∷ 0x30 ∷ 16 ∷ replicate 16 0x11) ∷ []) (configuration_at + 0x30) 16 ∷ [],
      (replicate 8 0xFF ++ replicate 8 0x11) ∷ [],
    )
    -- a zone that asks for the passwords of set 3: the read password does not open writing, the write password does
    ∷ (
      written_after 0 0x2F ((10 ∷ 11 ∷ 0xFF ∷ 0xFF ∷ 0xFF ∷ []) ∷ []) ∷ written_after 0 0x2F (right_three ∷ []) ∷ [],
      (0xF0 ∷ []) ∷ (0x3C ∷ []) ∷ [],
    )
    -- MDF closes the zone at F = 0 and not at F = 7
    ∷ (written_after 0 0xFD [] ∷ written_after 7 0xFD [] ∷ [], (0xF0 ∷ []) ∷ (0x3C ∷ []) ∷ [])
    ∷ []

pub mistakes_shown : map (λ (r : Case). r.0) mistakes ≡ map (λ (r : Case). r.1) mistakes
unfolding mistakes computed
mistakes_shown = refl
