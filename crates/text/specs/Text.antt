-- The text of a listing (the paragraph on the printing program, and "Tries left, shown to the candidate").
use Rattle.std.specs.Prelude.{ℕ, zero, suc, ◌+◌, ◌/◌, ◌%◌, cond, List, [], ◌∷◌, ◌++◌, ltb}
use Rattle.model.specs.Log.{Entry}

-- a space and a byte as two upper-case hexadecimal digits
abbrev pub hex_digit : ℕ → ℕ
hex_digit d = cond (ltb d 10) (0x30 + d) (0x37 + d)

abbrev pub hex : ℕ → List ℕ
hex b = 0x20 ∷ hex_digit (b / 16) ∷ hex_digit (b % 16) ∷ []

abbrev pub hexes : List ℕ → List ℕ
hexes [] = []
hexes (b ∷ bs) = hex b ++ hexes bs

-- a number in decimal, of at most so many digits; none has more digits than itself and one
abbrev pub digits : ℕ → ℕ → List ℕ
digits zero n = []
digits (suc k) n = cond (ltb n 10) ((0x30 + n) ∷ []) (digits k (n / 10) ++ ((0x30 + n % 10) ∷ []))

unfoldable pub decimal : ℕ → List ℕ
decimal n = digits (suc n) n

-- every number so, each behind a space
abbrev pub decimals : List ℕ → List ℕ
decimals [] = []
decimals (n ∷ ns) = (0x20 ∷ decimal n) ++ decimals ns

-- the line of a record: its number, its kind and its response
abbrev pub line : ℕ → ℕ → List ℕ → List ℕ
line number kind response = decimal number ++ (hexes (kind ∷ response) ++ (0x0A ∷ []))

-- numbered from k on
abbrev pub lines : ℕ → List Entry → List ℕ
lines k [] = []
lines k (e ∷ es) = line k e.kind e.response ++ lines (suc k) es

-- "tries" and the tries left
abbrev pub tries_line : List ℕ → List ℕ
tries_line ns = (0x74 ∷ 0x72 ∷ 0x69 ∷ 0x65 ∷ 0x73 ∷ []) ++ (decimals ns ++ (0x0A ∷ []))

-- "fuses" and F
abbrev pub fuses_line : ℕ → List ℕ
fuses_line f = (0x66 ∷ 0x75 ∷ 0x73 ∷ 0x65 ∷ 0x73 ∷ []) ++ (hex f ++ (0x0A ∷ []))

-- "refused" and the number
abbrev pub refused_line : ℕ → List ℕ
refused_line n = (0x72 ∷ 0x65 ∷ 0x66 ∷ 0x75 ∷ 0x73 ∷ 0x65 ∷ 0x64 ∷ 0x20 ∷ []) ++ (decimal n ++ (0x0A ∷ []))
