-- The record at a place, measured in the part of the session from there up to the end of its records.
use Prim.Native.Nat.{ℕ, ◌+◌, ◌-◌, ◌≤◌}
use mathlib.Core.List.{List}
use mathlib.Core.Path.{◌≡◌, sym, ap, ◌∙◌}
use lib.ListN.{length, take, drop}
use Rattle.model.specs.Call.{refused, whole}
use Rattle.model.specs.Instruction.{Instruction}
use Rattle.model.specs.Reader.{records_end, next_of}
use Rattle.model.specs.Record.{decode}
use Rattle.laws.specs.ReaderLaws.{next_within}
use Rattle.record.specs.DecodedRecord.{measure_of}
use Rattle.record.specs.HeadLaws.{refused_of, whole_of}

module _ (s : List ℕ) (i end : ℕ) (ends : end ≡ records_end (length s)) where
  abbrev part : List ℕ
  part = take (end - i) (drop i s)

  next_is : decode part ≡ next_of s i
  next_is = ap (λ (n : ℕ). decode (take (n - i) (drop i s))) ends

  pub next_refused : (r : ℕ) → refused r ≡ measure_of (decode part) → next_of s i ≡ refused r
  next_refused r e = sym (refused_of r (decode part) e ∙ next_is)

  -- a whole record, with where it ends
  pub record Next (n : ℕ) : Type 0 where
    pub instruction : Instruction
    pub next : next_of s i ≡ whole instruction n
    pub within : i + n ≤ records_end (length s)

  pub next_whole : (l n : ℕ) → whole l n ≡ measure_of (decode part) → Next n
  next_whole l n e =
      let k = whole_of l n (decode part) e in
      let q = sym next_is ∙ k.1 in
      record { instruction = k.0; next = q; within = (next_within s i k.0 n q).1 }
