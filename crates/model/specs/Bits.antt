-- Bytes by their bits: the reversal of a byte, the lowest 1 bit cleared, the 1 bits counted. Each is told bit by bit, from bit 0 up.
use Rattle.std.specs.Prelude.{ℕ, zero, suc, ◌+◌, ◌-◌, ◌*◌, ◌/◌, ◌%◌, ◌^◌, cond, eqb}

-- the n lowest bits of x in the other order
abbrev pub bits_reversed : ℕ → ℕ → ℕ
bits_reversed zero x = 0
bits_reversed (suc n) x = x % 2 * 2 ^ n + bits_reversed n (x / 2)

-- a byte as it leaves with its lowest bit first
unfoldable pub reversed : ℕ → ℕ
reversed x = bits_reversed 8 x

-- x with the lowest 1 among its n lowest bits cleared
abbrev pub lowest_cleared : ℕ → ℕ → ℕ
lowest_cleared zero x = x
lowest_cleared (suc n) x = cond (eqb (x % 2) 1) (x - 1) (lowest_cleared n (x / 2) * 2)

-- an attempts counter after a failed attempt: its lowest 1 bit becomes 0
unfoldable pub spent_counter : ℕ → ℕ
spent_counter x = lowest_cleared 8 x

-- how many of the n lowest bits of x are 1
abbrev pub bit_count : ℕ → ℕ → ℕ
bit_count zero x = 0
bit_count (suc n) x = x % 2 + bit_count n (x / 2)

-- the tries that an attempts counter leaves, 0 to 8: its 1 bits ("Tries left, shown to the candidate")
unfoldable pub tries_left : ℕ → ℕ
tries_left x = bit_count 8 x
