-- Conditions of refusal ("Sent back with a number"): a number with the test whether it applies, the first of a list that does, and
-- the conditions within one record. A record's are from the bytes of a part that begins with its kind byte.
use Rattle.std.specs.Prelude.{ℕ, Bool, false, cond, not, List, [], ◌∷◌, ◌≡◌, ltb, eqb, length}
use Rattle.model.specs.Lists.{at}
use Rattle.model.specs.Record.{known, in_range, data_at, record_length}
use Rattle.model.specs.Refusal.{unknown_kind, field_out_of_range, cut_short}

-- a refusal's number, and whether it applies
pub record Condition : Type 0 where
  pub number : ℕ
  pub applies : Bool

abbrev pub when : ℕ → Bool → Condition
when n t = record { number = n; applies = t }

-- the first number that applies, or another where none does
abbrev pub first : List Condition → ℕ → ℕ
first [] n = n
first (x ∷ xs) n = cond x.applies x.number (first xs n)

-- none of them applies
abbrev pub NoneApplies : List Condition → Type 0
NoneApplies [] = Unit {0}
NoneApplies (x ∷ xs) = (x.applies ≡ false) × NoneApplies xs

-- within a record: no kind byte, unknown kind, fixed fields absent, a field out of range, data absent
abbrev pub record_conditions : List ℕ → List Condition
record_conditions part =
    when cut_short (eqb (length part) 0)
    ∷ when unknown_kind (not (known (at part 0)))
    ∷ when cut_short (ltb (length part) (data_at part))
    ∷ when field_out_of_range (not (in_range (at part 0) (at part 1) (at part 2)))
    ∷ when cut_short (ltb (length part) (record_length part))
    ∷ []

-- how long the response to a record is that is not ignored: of kinds 2, 4, 6, 8 and 14; of all others 0
abbrev pub response_length : List ℕ → ℕ
response_length part =
    cond (eqb (at part 0) 2) 4
    (cond (eqb (at part 0) 4) (cond (eqb (at part 2) 0) 256 (at part 2))
    (cond (eqb (at part 0) 6) (at part 2) (cond (eqb (at part 0) 8) 1 (cond (eqb (at part 0) 14) 1 0))))
