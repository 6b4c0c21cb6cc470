-- The records that the session writer checks, from what the measure of each finds.
use Prim.Native.Nat.{ℕ, suc, ◌+◌, ◌-◌, ◌≤◌, ◌<◌}
use mathlib.Core.List.{List}
use mathlib.Core.Path.{◌≡◌, ap, ◌∙◌}
use native.Mathlib.Omega.{arith}
use borrow.Author.Tests.{eq-eqb, ne_eqb}
use lib.ListN.{length, take, drop, length-drop}
use lib.Seq.{take_all}
use Rattle.model.specs.Call.{refused, whole}
use Rattle.model.specs.Record.{decode}
use Rattle.model.specs.Refusal.{bytes_left}
use Rattle.model.specs.Writer.{records_refusal}
use Rattle.laws.specs.RecordLaws.{decode_within}
use Rattle.record.specs.DecodedRecord.{measure_of}
use Rattle.record.specs.HeadLaws.{refused_of, whole_of}

-- what is known while records are left: they decide
abbrev pub Listed : List ℕ → ℕ → ℕ → List ℕ → Type 0
Listed records count read rest = records_refusal (count - read) rest ≡ records_refusal count records

module _ (records : List ℕ) (count read : ℕ) (rest : List ℕ) (p : Listed records count read rest) where
  module _ (some : read < count) where
    opened : records_refusal (suc (count - (read + 1))) rest ≡ records_refusal count records
    opened = let e : suc (count - (read + 1)) ≡ count - read = omega arith in ap (λ (m : ℕ). records_refusal m rest) e ∙ p

    pub listed_refused : (n : ℕ) → refused n ≡ measure_of (decode rest) → n ≡ records_refusal count records
    listed_refused n e = rw (← (refused_of n (decode rest) e)) at opened

    module _ (l n : ℕ) (next : whole l n ≡ measure_of (decode rest)) where
      pub listed_within : n ≤ length rest
      listed_within = let k = whole_of l n (decode rest) next in let w = decode_within rest k.0 n k.1 in omega arith

      pub listed_next : Listed records count (read + 1) (take (length rest - n) (drop n rest))
      listed_next =
          let k = whole_of l n (decode rest) next in
          let d = length-drop n rest in
          rw (take_all (length rest - n) (drop n rest) (omega arith)) (rw k.1 at opened)

  module _ (none : count ≤ read) where
    unread : records_refusal 0 rest ≡ records_refusal count records
    unread = let e : 0 ≡ count - read = omega arith in ap (λ (m : ℕ). records_refusal m rest) e ∙ p

    pub listed_left : (length rest ≡ 0 → ⊥) → bytes_left ≡ records_refusal count records
    listed_left n = rw (ne_eqb (length rest) 0 n) at unread

    pub listed_done : length rest ≡ 0 → 0 ≡ records_refusal count records
    listed_done e = rw (eq-eqb (length rest) 0 e) at unread
