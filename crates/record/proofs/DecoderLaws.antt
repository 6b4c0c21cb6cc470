-- The decoder of the model, from what the tests of the code found, in their order.
use Rattle.std.specs.Prelude.{ℕ, ◌+◌, ◌≤◌, ◌<◌, ◌≡◌, refl, Bool, true, false, cond, List, [], ◌∷◌, Some, None, ltb, length, take, drop, slice_get}
use Rattle.std.proofs.Common.{arith, sym, ap, ◌∙◌}
use Rattle.std.proofs.lemmas.Option.{get_or_from_slice_get, slice_get_within}
use borrow.Author.Tests.{lt-ltb, le-ltb, ne_eqb}
use Rattle.kinds.specs.declared.kind.Kind.{Kind}
use Rattle.kinds.specs.KindNumber.{kind_number, kind_known}
use Rattle.model.specs.At88sc1608.{at88sc1608}
use Rattle.model.specs.Call.{refused, whole}
use Rattle.model.specs.Instruction.{Instruction}
use Rattle.model.specs.Lists.{at}
use Rattle.model.specs.Record.{fixed_fields, in_range, data_length, made, known, decode}
use Rattle.laws.specs.BusyLaws.{full_answer}
use Rattle.model.specs.Refusal.{unknown_kind, field_out_of_range, cut_short}
use Rattle.record.specs.declared.decoder.Record.{Record}
use Rattle.record.specs.declared.decoder.Head.{Head}
use Rattle.record.specs.DecodedRecord.{instruction_of, record_of, head_of, measure_of}
use Rattle.record.specs.HeadLaws.{refused_of, whole_of, made_answer, head_instruction}

-- ---- the lengths of a record

pub no_kind : (part : List ℕ) → None ≡ slice_get part 0 → refused cut_short ≡ measure_of (decode part)
unfolding decode
no_kind [] e = refl
no_kind (x ∷ xs) e = cc

pub no_first : (part : List ℕ) → length part ≡ 0 → None ≡ slice_get part 0
no_first [] e = refl
no_first (x ∷ xs) e = cc

-- the first byte of a part
first_at : (part : List ℕ) (k : ℕ) → Some k ≡ slice_get part 0 → k ≡ at part 0
first_at part k e = sym (get_or_from_slice_get part 0 k 0 (sym e))

not_empty : (part : List ℕ) (k : ℕ) → Some k ≡ slice_get part 0 → length part ≡ 0 → ⊥
not_empty part k e empty = let within = slice_get_within part 0 k (sym e) in omega (arith, within, empty)

module _ (part : List ℕ) where
  pub unknown : (k : ℕ) → Some k ≡ slice_get part 0 → known k ≡ false → refused unknown_kind ≡ measure_of (decode part)
  unfolding decode
  unknown k first e = rw (ne_eqb _ _ (not_empty part k first), ← first_at part k first, e)

  module _ (kind : Kind) (first : Some (kind_number kind) ≡ slice_get part 0) where
    abbrev k : ℕ
    k = kind_number kind

    here : k ≡ at part 0
    here = first_at part k first

    nonempty : length part ≡ 0 → ⊥
    nonempty = not_empty part k first

    module _ (s : ℕ) (start : s ≡ fixed_fields k) where
      pub fields_absent : length part < 1 + s → refused cut_short ≡ measure_of (decode part)
      unfolding decode
      fields_absent e = rw (ne_eqb _ _ nonempty, ← here, kind_known kind, ← start, lt-ltb _ _ e)

      module _ (a n : ℕ) (ok' : Bool) (fields : 1 + s ≤ length part) (one : a ≡ at part 1) (two : n ≡ at part 2) (range : ok' ≡ in_range k a n) where
        pub out_of_range : ok' ≡ false → refused field_out_of_range ≡ measure_of (decode part)
        unfolding decode
        out_of_range e = rw (ne_eqb _ _ nonempty, ← here, kind_known kind, ← start, le-ltb _ _ fields, ← one, ← two, ← range, e)

        module _ (m : ℕ) (within : ok' ≡ true) (length_is : m ≡ 1 + fixed_fields k + data_length k n) where
          abbrev bytes : List ℕ
          bytes = take (data_length k n) (drop (1 + s) part)

          -- what is left to be judged
          left : decode part ≡ cond (ltb (length part) m) (refused cut_short) (whole (made k a n bytes) m)
          unfolding decode
          left =
              rw (
                ne_eqb _ _ nonempty,
                ← here,
                ← one,
                ← two,
                ← length_is,
                kind_known kind,
                ← start,
                le-ltb _ _ fields,
                ← range,
                within,
              )

          pub data_absent : length part < m → refused cut_short ≡ measure_of (decode part)
          data_absent e = sym (ap measure_of left ∙ rw (lt-ltb _ _ e))

          pub all_there : (l : ℕ) → m ≤ length part → l ≡ full_answer at88sc1608 (made k 0 n []) → whole l m ≡ measure_of (decode part)
          all_there l e q =
              ap (λ (x : ℕ). whole x m) (q ∙ made_answer a n bytes k (kind_known kind))
              ∙ sym (ap measure_of left ∙ rw (le-ltb _ _ e))

-- ---- the record of a part whose lengths are known

module _ (part : List ℕ) where
  pub decode_refused : (n : ℕ) → refused n ≡ measure_of (decode part) → refused n ≡ decode part
  decode_refused n e = refused_of n (decode part) e

  pub decode_made : (l n : ℕ) (r : Record) (h : Head) → whole l n ≡ measure_of (decode part) → h ≡ head_of part → r ≡ record_of h.kind h.a h.n
      → whole (instruction_of part n r) n ≡ decode part
  decode_made l n r h e head made-is =
      let w = whole_of l n (decode part) e in
      ap (λ (x : Instruction). whole x n)
      (ap (instruction_of part n) made-is ∙ head_instruction part w.0 n w.1 h head)
      ∙ sym w.1
