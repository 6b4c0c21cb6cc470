-- The paper's cases A to L ("Twelve cards on the examiner's wall"), computed with the single command on whole cards: one table,
-- one theorem.
use Rattle.std.specs.Prelude.{ℕ, Bool, cond, List, [], ◌∷◌, map, ◌≡◌, refl, get_or, set, replicate}
use Rattle.model.specs.Lists.{at}
use Rattle.model.specs.Access.{wpe, rpe, ate, password_set, mdf, pgo}
use Rattle.model.specs.At88sc1608.{register_at, counter_at, configuration_at}
use Rattle.tables.specs.Trials.{blank, spaces, left, active_number, Case}
use Rattle.tables.specs.Computed.{computed}

abbrev flag : Bool → ℕ
flag b = cond b 1 0

-- the write password of set 0 is presented on a sealed card: its counter, as kind 6 then reads it, and the active password
abbrev presented : ℕ → List ℕ → List ℕ
presented pac bytes =
    let c : List ℕ = set (blank 0) (counter_at 0) pac in
    let records : List (List ℕ) = (10 ∷ 0 ∷ bytes) ∷ (6 ∷ 0x40 ∷ 1 ∷ []) ∷ [] in
    active_number (left c records).state.volatile.active ∷ get_or (spaces c records) 1 []

-- the first byte of zone 0 after a write of $3C over $F0, at a fuse byte and a register of zone 0
abbrev written : ℕ → ℕ → ℕ
written f register = at (left (set (set (blank f) (register_at 0) register) 0 0xF0) ((5 ∷ 0 ∷ 1 ∷ 0x3C ∷ []) ∷ [])).card 0

abbrev fields : ℕ → List ℕ
fields r = flag (wpe r) ∷ flag (rpe r) ∷ flag (ate r) ∷ password_set r ∷ flag (mdf r) ∷ flag (pgo r) ∷ []

-- no password active, and a counter
abbrev answered : ℕ → List ℕ
answered pac = 0 ∷ pac ∷ 0x99 ∷ 0x99 ∷ 0x99 ∷ []

unfoldable pub cases : List Case
cases =
    -- A: a wrong password takes the lowest 1 bit, and none is active
    (
      presented 0xFF (1 ∷ 2 ∷ 3 ∷ []) ∷ presented 0xF0 (1 ∷ 2 ∷ 3 ∷ []) ∷ presented 0x80 (1 ∷ 2 ∷ 3 ∷ []) ∷ [],
      answered 0xFE ∷ answered 0xE0 ∷ answered 0x00 ∷ [],
    )
    -- B: the right password at a counter of $00
    ∷ (presented 0x00 (0xFF ∷ 0xFF ∷ 0xFF ∷ []) ∷ [], answered 0x00 ∷ [])
    -- C: a write wraps in its page; the whole card
    ∷ (
      (left (blank 7) ((5 ∷ 0x1E ∷ 4 ∷ 1 ∷ 2 ∷ 3 ∷ 4 ∷ []) ∷ [])).card ∷ [],
      set (set (set (set (blank 7) 0x1E 1) 0x1F 2) 0x10 3) 0x11 4 ∷ [],
    )
    -- D: a read rolls over in its zone; the whole response space
    ∷ (spaces (set (set (set (blank 7) 0xFE 1) 0xFF 2) 0x00 3) ((4 ∷ 0xFE ∷ 3 ∷ []) ∷ []), (1 ∷ 2 ∷ 3 ∷ 0x99 ∷ []) ∷ [])
    -- E: PGO
    ∷ ((written 0 0xFE ∷ []) ∷ [], (0x30 ∷ []) ∷ [])
    -- F, G: no password, before and after PER is blown
    ∷ ((written 6 0xFF ∷ []) ∷ [], (0xF0 ∷ []) ∷ [])
    ∷ ((written 0 0xFF ∷ []) ∷ [], (0x3C ∷ []) ∷ [])
    -- H: closed, then selector 15, then open
    ∷ (
      spaces (set (set (blank 0) (register_at 0) 0xBF) 0 0x5A) ((4 ∷ 0 ∷ 1 ∷ []) ∷ (10 ∷ 15 ∷ 0xFF ∷ 0xFF ∷ 0xFF ∷ []) ∷ (4 ∷ 0 ∷ 1 ∷ []) ∷ []),
      (0x00 ∷ 0x99 ∷ 0x99 ∷ 0x99 ∷ []) ∷ replicate 4 0x99 ∷ (0x5A ∷ 0x99 ∷ 0x99 ∷ 0x99 ∷ []) ∷ [],
    )
    -- I: WPE, RPE, ATE, the set, MDF, PGO
    ∷ (fields 0x57 ∷ [], (1 ∷ 0 ∷ 1 ∷ 5 ∷ 0 ∷ 0 ∷ []) ∷ [])
    -- J: the fuses read, each time after one more write
    ∷ (
      map (λ (l : List ℕ). at l 0 ∷ [])
          (spaces (blank 7)
          ((10 ∷ 7 ∷ 0xFF ∷ 0xFF ∷ 0xFF ∷ [])
          ∷ (8 ∷ []) ∷ (9 ∷ []) ∷ (8 ∷ []) ∷ (9 ∷ []) ∷ (8 ∷ []) ∷ (9 ∷ []) ∷ (8 ∷ []) ∷ (9 ∷ []) ∷ (8 ∷ []) ∷ [])),
      (0x99 ∷ []) ∷ (7 ∷ []) ∷ (0x99 ∷ []) ∷ (6 ∷ []) ∷ (0x99 ∷ []) ∷ (4 ∷ []) ∷ (0x99 ∷ []) ∷ (0 ∷ []) ∷ (0x99 ∷ []) ∷ (0 ∷ []) ∷ [],
    )
    -- K: the answer to reset
    ∷ (spaces (set (blank 0) configuration_at 0x2C) ((2 ∷ []) ∷ []), (0x34 ∷ 0xFF ∷ 0xFF ∷ 0xFF ∷ []) ∷ [])
    -- L: MDF, heeded at F = 0 and not at F = 7
    ∷ ((written 0 0xFD ∷ written 7 0xFD ∷ []) ∷ [], (0xF0 ∷ 0x3C ∷ []) ∷ [])
    ∷ []

pub cases_hold : map (λ (r : Case). r.0) cases ≡ map (λ (r : Case). r.1) cases
unfolding cases computed
cases_hold = refl
