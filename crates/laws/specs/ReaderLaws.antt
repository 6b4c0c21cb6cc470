-- Laws of the reader: an accepted record lies before the end, and what is left behind it.
use Rattle.std.specs.Prelude.{ℕ, ◌+◌, ◌-◌, ◌≤◌, List, ◌≡◌, length, take, drop}
use Rattle.std.proofs.Common.{sym, ◌∙◌, arith, length-take, length-drop, drop-drop}
use Rattle.model.specs.Call.{whole}
use Rattle.model.specs.Instruction.{Instruction}
use Rattle.laws.specs.ListLaws.{drop_take}
use Rattle.laws.specs.RecordLaws.{decode_within}
use Rattle.model.specs.Reader.{records_end, part_at, next_of}

pub part_length : (s : List ℕ) (i : ℕ) → length (part_at s i) ≡ records_end (length s) - i
part_length s i = simp (length-take, length-drop) (omega arith)

pub part_none : (s : List ℕ) (i : ℕ) → records_end (length s) ≤ i → length (part_at s i) ≡ 0
part_none s i h = part_length s i ∙ (omega arith)

pub next_within : (s : List ℕ) (i : ℕ) (k : Instruction) (n : ℕ) → next_of s i ≡ whole k n → (1 ≤ n) × (i + n ≤ records_end (length s))
next_within s i k n e =
    let w = decode_within (part_at s i) k n e in
    let l = part_length s i in
    omega arith

-- the part from further on
pub part_next : (s : List ℕ) (i m : ℕ) → part_at s (i + m) ≡ drop m (part_at s i)
part_next s i m =
    let e : records_end (length s) - (i + m) ≡ records_end (length s) - i - m = omega arith in
    sym (drop_take m (records_end (length s) - i) (drop i s) ∙ (λ t. take (sym e t) (drop-drop m i s t)))
