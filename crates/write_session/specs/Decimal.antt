-- The number that decimal digits stand for, up to the most records of a session.
use Rattle.std.specs.Prelude.{ℕ, ◌+◌, ◌-◌, ◌*◌, cond, List, [], ◌∷◌, map, ◌≡◌, refl, ltb}
use Rattle.model.specs.Sizes.{most_records}

-- a number with one more digit, a byte of ASCII; a greater number than the most records is kept
abbrev pub appended : ℕ → ℕ → ℕ
appended n digit = cond (ltb most_records n) n (10 * n + (digit - 48))

-- a number with more digits
abbrev pub decimal : ℕ → List ℕ → ℕ
decimal n [] = n
decimal n (digit ∷ digits) = decimal (appended n digit) digits

-- by example: 0, 4096, 4097, and a number with a zero before it
digits_read : map (decimal 0) ((0x30 ∷ []) ∷ (0x34 ∷ 0x30 ∷ 0x39 ∷ 0x36 ∷ []) ∷ (0x34 ∷ 0x30 ∷ 0x39 ∷ 0x37 ∷ []) ∷ (0x30 ∷ 0x39 ∷ []) ∷ [])
    ≡ 0 ∷ 4096 ∷ 4097 ∷ 9 ∷ []
digits_read = refl
