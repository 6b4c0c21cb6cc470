-- Records ("What each command does", "Sent back with a number"): a kind byte, its fixed fields, its data. The sixteen kinds are one
-- table, from which the decoder and the log's check both read.
use Rattle.std.specs.Prelude.{ℕ, ◌+◌, ◌-◌, Bool, true, cond, not, ◌&&◌, List, [], ◌∷◌, ltb, leb, eqb, length, take, drop, get_or}
use Rattle.model.specs.Lists.{at}
use Rattle.model.specs.Call.{Decoded, refused, whole}
use Rattle.model.specs.Instruction.{reset, select, read_zone, write_zone, read_configuration, write_configuration, read_fuses, write_fuses, verify_password}
use Rattle.model.specs.Instruction.{begin_authentication, verify_authentication, Instruction, power_cycle, issue, wait, poll, write_staged, arm}
use Rattle.model.specs.Refusal.{unknown_kind, field_out_of_range, cut_short}

-- ---- the kinds

-- a row: how many fixed fields of one byte a kind has; which values of them, a and then n, are in range; how many data bytes follow,
-- by n; the instruction that fields and data make; which lengths a response to it may have in a log
pub record Kind : Type 0 where
  pub fixed : ℕ
  pub range : ℕ → ℕ → Bool
  pub follow : ℕ → ℕ
  pub make : ℕ → ℕ → List ℕ → Instruction
  pub answers : ℕ → Bool

abbrev row : ℕ → (ℕ → ℕ → Bool) → (ℕ → ℕ) → (ℕ → ℕ → List ℕ → Instruction) → (ℕ → Bool) → Kind
row fixed range follow make answers = record { fixed = fixed; range = range; follow = follow; make = make; answers = answers }

-- words for the cells
abbrev any : ℕ → ℕ → Bool
any a n = true

abbrev between : ℕ → ℕ → ℕ → Bool
between least most n = leb least n && leb n most

abbrev exactly : ℕ → ℕ → Bool
exactly m n = eqb n m

abbrev none : ℕ → ℕ
none n = 0

unfoldable pub kinds : List Kind
kinds =
    -- 1 power cycle, 2 reset
    row 0 any none (λ a n xs. power_cycle) (exactly 0)
    ∷ row 0 any none (λ a n xs. issue reset) (exactly 4)
    -- 3 select: a zone
    ∷ row 1 (λ a n. leb a 7) none (λ a n xs. issue (select a)) (exactly 0)
    -- 4 read zone: an address and a count, of which 0 stands for 256
    ∷ row 2 any none (λ a n xs. issue (read_zone a (cond (eqb n 0) 256 n))) (between 1 256)
    -- 5 write zone: an address, a count, so many bytes
    ∷ row 2 (λ a n. between 1 16 n) (λ n. n) (λ a n xs. issue (write_zone a xs)) (exactly 0)
    -- 6 read configuration: an address and a count
    ∷ row 2 (λ a n. leb a 127 && (leb 1 n && leb (a + n) 128)) none (λ a n xs. issue (read_configuration a n)) (between 1 128)
    -- 7 write configuration: an address, a count, so many bytes
    ∷ row 2 (λ a n. leb a 127 && between 1 16 n) (λ n. n) (λ a n xs. issue (write_configuration a xs)) (exactly 0)
    -- 8 read fuses, 9 write fuses
    ∷ row 0 any none (λ a n xs. issue read_fuses) (exactly 1)
    ∷ row 0 any none (λ a n xs. issue write_fuses) (exactly 0)
    -- 10 verify password: a selector, three bytes
    ∷ row 1 (λ a n. leb a 15) (λ n. 3) (λ a n xs. issue (verify_password a xs)) (exactly 0)
    -- 11 begin authentication
    ∷ row 0 any none (λ a n xs. issue begin_authentication) (exactly 0)
    -- 12 verify authentication: the verdict, eight bytes
    ∷ row 1 (λ a n. leb a 1) (λ n. 8) (λ a n xs. issue (verify_authentication (eqb a 1) xs)) (exactly 0)
    -- 13 wait: milliseconds
    ∷ row 1 (λ a n. between 1 255 a) none (λ a n xs. wait a) (exactly 0)
    -- 14 poll
    ∷ row 0 any none (λ a n xs. poll) (exactly 1)
    -- 15 staged write: an address, a count, so many bytes
    ∷ row 2 (λ a n. between 1 8 n) (λ n. n) (λ a n xs. write_staged a xs) (exactly 0)
    -- 16 arm: cell writes, a junk byte
    ∷ row 2 any none (λ a n xs. arm a n) (exactly 0)
    ∷ []

abbrev pub known : ℕ → Bool
known kind = not (eqb kind 0) && leb kind 16

-- the row of a known kind; one without fields, data and answer stands for all others
abbrev pub row_of : ℕ → Kind
row_of kind = get_or kinds (kind - 1) (row 0 any none (λ a n xs. power_cycle) (exactly 0))

unfoldable pub fixed_fields : ℕ → ℕ
fixed_fields kind = (row_of kind).fixed

unfoldable pub in_range : ℕ → ℕ → ℕ → Bool
in_range kind a n = (row_of kind).range a n

unfoldable pub data_length : ℕ → ℕ → ℕ
data_length kind n = (row_of kind).follow n

unfoldable pub made : ℕ → ℕ → ℕ → List ℕ → Instruction
made kind a n xs = (row_of kind).make a n xs

unfoldable pub length_fits : ℕ → ℕ → Bool
length_fits kind n = (row_of kind).answers n

-- ---- a record at the front of a part

-- where the data start, and where the record ends
abbrev pub data_at : List ℕ → ℕ
data_at part = 1 + fixed_fields (at part 0)

abbrev pub record_length : List ℕ → ℕ
record_length part = data_at part + data_length (at part 0) (at part 2)

-- The five tests in turn: there is a kind byte, it is known, the fixed fields are all there, they are in range, the data are all there.
unfoldable pub decode : List ℕ → Decoded Instruction
decode part =
    cond (eqb (length part) 0) (refused cut_short)
    (cond (not (known (at part 0))) (refused unknown_kind)
    (cond (ltb (length part) (data_at part)) (refused cut_short)
    (cond (not (in_range (at part 0) (at part 1) (at part 2))) (refused field_out_of_range)
    (cond (ltb (length part) (record_length part)) (refused cut_short)
    (whole
    (made (at part 0) (at part 1) (at part 2) (take (data_length (at part 0) (at part 2)) (drop (data_at part) part)))
    (record_length part))))))
