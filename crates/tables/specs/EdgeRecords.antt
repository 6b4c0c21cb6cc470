-- Records at the edges of their ranges: the number that each is refused with, or 0 ("Sent back with a number", "At the edges"); then what single
-- commands leave of bytes whose writing hangs on a password, on authentication or on a page's end. One table, one theorem.
use Rattle.std.specs.Prelude.{ℕ, ◌+◌, List, [], ◌∷◌, ◌++◌, map, ◌≡◌, refl, length, set, take, drop, replicate}
use Rattle.model.specs.Call.{Decoded, refused, whole}
use Rattle.model.specs.Instruction.{Instruction}
use Rattle.model.specs.State.{power_on}
use Rattle.model.specs.Record.{decode}
use Rattle.model.specs.At88sc1608.{register_at, configuration_at, attempts_at, cryptogram_at}
use Rattle.model.specs.Single.{act}
use Rattle.tables.specs.Trials.{blank, left, Case}
use Rattle.tables.specs.Computed.{computed}

abbrev number_of : Decoded Instruction → ℕ
number_of (refused n) = n
number_of (whole i n) = 0

abbrev numbers : List (List ℕ) → List (List ℕ)
numbers records = map (λ (r : List ℕ). number_of (decode r)) records ∷ []

-- how many bytes a record answers on a blank card
abbrev answered_by : Decoded Instruction → ℕ
answered_by (refused n) = 0
answered_by (whole i n) = length (act (blank 7) power_on i).report.answer

-- n bytes of what some records leave on a card, from a place on
abbrev leaves : List ℕ → List (List ℕ) → ℕ → ℕ → List ℕ
leaves c records i n = take n (drop i (left c records).card)

-- write password 7, $FF $FF $FF on a blank card
abbrev seven : List ℕ
seven = 10 ∷ 7 ∷ 0xFF ∷ 0xFF ∷ 0xFF ∷ []

-- authentication begun; the verdict on it, with eight bytes
abbrev begin : List ℕ
begin = 11 ∷ []

abbrev eight : List ℕ
eight = 1 ∷ 2 ∷ 3 ∷ 4 ∷ 5 ∷ 6 ∷ 7 ∷ 8 ∷ []

abbrev verdict : ℕ → List ℕ
verdict v = 12 ∷ v ∷ eight

-- the counter of authentication and the cryptogram after some records on a sealed card
abbrev authenticated : List (List ℕ) → List ℕ
authenticated records = leaves (blank 0) records attempts_at 1 ++ leaves (blank 0) records cryptogram_at 8

-- the configuration byte at an address after some records and a write of $11, at a fuse byte
abbrev configured : ℕ → ℕ → List (List ℕ) → List ℕ
configured f a records = leaves (blank f) (records ++ ((7 ∷ a ∷ 1 ∷ 0x11 ∷ []) ∷ [])) (configuration_at + a) 1

-- the first byte of a zone that asks for authentication, after some records and a write of $3C, on a sealed card
abbrev granted : List (List ℕ) → List ℕ
granted records = leaves (set (blank 0) (register_at 0) 0xDF) (records ++ ((5 ∷ 0 ∷ 1 ∷ 0x3C ∷ []) ∷ [])) 0 1

unfoldable pub edge_records : List Case
edge_records =
    -- no kind byte; kinds 0, 1, 16 and 17
    (numbers ([] ∷ (0 ∷ []) ∷ (1 ∷ []) ∷ (16 ∷ 0 ∷ 0 ∷ []) ∷ (17 ∷ []) ∷ []), (8 ∷ 6 ∷ 0 ∷ 0 ∷ 6 ∷ []) ∷ [])
    -- select 7 and 8
    ∷ (numbers ((3 ∷ 7 ∷ []) ∷ (3 ∷ 8 ∷ []) ∷ []), (0 ∷ 7 ∷ []) ∷ [])
    -- read zone with n 0, 1 and 255, and how many bytes that answers
    ∷ (numbers ((4 ∷ 0xFF ∷ 0 ∷ []) ∷ (4 ∷ 0xFF ∷ 1 ∷ []) ∷ (4 ∷ 0xFF ∷ 255 ∷ []) ∷ []), (0 ∷ 0 ∷ 0 ∷ []) ∷ [])
    ∷ (
      (answered_by (decode (4 ∷ 0xFF ∷ 0 ∷ [])) ∷ answered_by (decode (4 ∷ 0xFF ∷ 1 ∷ [])) ∷ answered_by (decode (4 ∷ 0xFF ∷ 255 ∷ [])) ∷ []) ∷ [],
      (256 ∷ 1 ∷ 255 ∷ []) ∷ [],
    )
    -- write zone with n 0, 1, 16 and 17
    ∷ (
      numbers ((5 ∷ 0xFF ∷ 0 ∷ []) ∷ (5 ∷ 0xFF ∷ 1 ∷ 1 ∷ []) ∷ (5 ∷ 0xFF ∷ 16 ∷ replicate 16 1) ∷ (5 ∷ 0xFF ∷ 17 ∷ replicate 17 1) ∷ []),
      (7 ∷ 0 ∷ 0 ∷ 7 ∷ []) ∷ [],
    )
    -- read configuration at $7F with n 0, 1 and 2; at $00 with n 128 and 129; at $80
    ∷ (
      numbers ((6 ∷ 0x7F ∷ 0 ∷ []) ∷ (6 ∷ 0x7F ∷ 1 ∷ []) ∷ (6 ∷ 0x7F ∷ 2 ∷ []) ∷ (6 ∷ 0 ∷ 128 ∷ []) ∷ (6 ∷ 0 ∷ 129 ∷ []) ∷ (6 ∷ 0x80 ∷ 1 ∷ []) ∷ []),
      (7 ∷ 0 ∷ 7 ∷ 0 ∷ 7 ∷ 7 ∷ []) ∷ [],
    )
    -- write configuration with n 0, 1, 16 and 17; at $80
    ∷ (
      numbers
          ((7 ∷ 0x7F ∷ 0 ∷ []) ∷ (7 ∷ 0x7F ∷ 1 ∷ 1 ∷ []) ∷ (7 ∷ 0x7F ∷ 16 ∷ replicate 16 1) ∷ (7 ∷ 0x7F ∷ 17 ∷ replicate 17 1) ∷ (7 ∷ 0x80 ∷ 1 ∷ 1 ∷ []) ∷ []),
      (7 ∷ 0 ∷ 0 ∷ 7 ∷ 7 ∷ []) ∷ [],
    )
    -- selectors 15 and 16; verdicts 0, 1 and 2; waits of 0, 1 and 255 ms
    ∷ (numbers ((10 ∷ 15 ∷ 1 ∷ 2 ∷ 3 ∷ []) ∷ (10 ∷ 16 ∷ 1 ∷ 2 ∷ 3 ∷ []) ∷ []), (0 ∷ 7 ∷ []) ∷ [])
    ∷ (numbers (verdict 0 ∷ verdict 1 ∷ verdict 2 ∷ []), (0 ∷ 0 ∷ 7 ∷ []) ∷ [])
    ∷ (numbers ((13 ∷ 0 ∷ []) ∷ (13 ∷ 1 ∷ []) ∷ (13 ∷ 255 ∷ []) ∷ []), (7 ∷ 0 ∷ 0 ∷ []) ∷ [])
    -- staged write with n 0, 1, 8 and 9
    ∷ (
      numbers ((15 ∷ 0xFF ∷ 0 ∷ []) ∷ (15 ∷ 0xFF ∷ 1 ∷ 1 ∷ []) ∷ (15 ∷ 0xFF ∷ 8 ∷ eight) ∷ (15 ∷ 0xFF ∷ 9 ∷ replicate 9 1) ∷ []),
      (7 ∷ 0 ∷ 0 ∷ 7 ∷ []) ∷ [],
    )
    -- cut short in the fields, whose values are then not judged; in the data; both out of range and short of data
    ∷ (numbers ((3 ∷ []) ∷ (5 ∷ 0 ∷ []) ∷ (6 ∷ 0x80 ∷ []) ∷ (16 ∷ 0 ∷ []) ∷ []), replicate 4 8 ∷ [])
    ∷ (numbers ((5 ∷ 0 ∷ 2 ∷ 1 ∷ []) ∷ (10 ∷ 15 ∷ 1 ∷ 2 ∷ []) ∷ (12 ∷ 1 ∷ replicate 7 1) ∷ (15 ∷ 0 ∷ 8 ∷ replicate 7 1) ∷ []), replicate 4 8 ∷ [])
    ∷ (numbers ((5 ∷ 0 ∷ 17 ∷ []) ∷ (10 ∷ 16 ∷ []) ∷ (12 ∷ 2 ∷ []) ∷ (15 ∷ 0 ∷ 9 ∷ []) ∷ []), replicate 4 7 ∷ [])
    -- the verdict 1 after authentication was begun: the eight bytes are the cryptogram and the counter is full; the verdict 0; not begun
    ∷ (
      authenticated (begin ∷ verdict 1 ∷ []) ∷ authenticated (begin ∷ verdict 0 ∷ []) ∷ authenticated (verdict 1 ∷ []) ∷ [],
      (0xFF ∷ eight) ∷ (0xFE ∷ replicate 8 0xFF) ∷ replicate 9 0xFF ∷ [],
    )
    -- $0C and $2F with and without write password 7, at F = 6, 4 and 0
    ∷ (
      configured 6 0x0C [] ∷ configured 6 0x0C (seven ∷ []) ∷ configured 4 0x0C (seven ∷ []) ∷ configured 0 0x0C (seven ∷ []) ∷ [],
      (0xFF ∷ []) ∷ (0x11 ∷ []) ∷ (0xFF ∷ []) ∷ (0xFF ∷ []) ∷ [],
    )
    ∷ (
      configured 6 0x2F [] ∷ configured 6 0x2F (seven ∷ []) ∷ configured 4 0x2F (seven ∷ []) ∷ configured 0 0x2F (seven ∷ []) ∷ [],
      (0xFF ∷ []) ∷ (0x11 ∷ []) ∷ (0x11 ∷ []) ∷ (0xFF ∷ []) ∷ [],
    )
    -- a zone that asks for authentication: begun, denied and granted
    ∷ (
      granted (begin ∷ []) ∷ granted (begin ∷ verdict 0 ∷ []) ∷ granted (begin ∷ verdict 1 ∷ []) ∷ [],
      (0xFF ∷ []) ∷ (0xFF ∷ []) ∷ (0x3C ∷ []) ∷ [],
    )
    -- two bytes written at $7F: the second goes to $70, and the fuse byte behind is kept
    ∷ (
      leaves (blank 7) ((7 ∷ 0x7F ∷ 2 ∷ 1 ∷ 2 ∷ []) ∷ []) (configuration_at + 0x70) 17 ∷ [],
      (2 ∷ (replicate 14 0xFF ++ (1 ∷ 7 ∷ []))) ∷ [],
    )
    ∷ []

pub edge_records_shown : map (λ (r : Case). r.0) edge_records ≡ map (λ (r : Case). r.1) edge_records
unfolding edge_records computed
edge_records_shown = refl
