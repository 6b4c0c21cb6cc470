-- What the lengths and the first three bytes of an accepted record tell of it.
use Rattle.std.specs.Prelude.{ℕ, ◌+◌, ◌≤◌, true, List, [], ◌≡◌}
use Rattle.std.proofs.Math.Path.{refl}
use Rattle.std.proofs.Common.{sym, ap, ◌∙◌}
use Rattle.std.proofs.Math.Nat.{add-sub_cancel_left}
use Rattle.model.specs.Lists.{at}
use Rattle.model.specs.At88sc1608.{at88sc1608}
use Rattle.model.specs.Call.{Decoded, refused, whole}
use Rattle.model.specs.Instruction.{Instruction, kind_of}
use Rattle.model.specs.Record.{kinds, known, fixed_fields, data_length, made, data_at, record_length, decode}
use Rattle.laws.specs.CallLaws.{refused_whole}
use Rattle.laws.specs.BusyLaws.{full_answer}
use Rattle.laws.specs.KindLaws.{each_kind, known_within}
use Rattle.laws.specs.RecordLaws.{data_of, Accepted, accepted, decode_kind}
use Rattle.record.specs.declared.decoder.Head.{Head}
use Rattle.record.specs.DecodedRecord.{between, instruction_of, record_of, head_of, asked_by, measure_of}

-- ---- the lengths

pub refused_of : (n : ℕ) (d : Decoded Instruction) → refused n ≡ measure_of d → refused n ≡ d
refused_of n (refused m) e = let q : n ≡ m = cc in ap refused q
refused_of n (whole k m) e = absurd (refused_whole n (full_answer at88sc1608 k) m e)

pub whole_of : (l n : ℕ) (d : Decoded Instruction) → whole l n ≡ measure_of d → (k : Instruction) × (d ≡ whole k n) × (l ≡ full_answer at88sc1608 k)
whole_of l n (refused m) e = absurd (refused_whole m l n (sym e))
whole_of l n (whole k m) e = let q : n ≡ m = cc in (k, ap (whole k) (sym q), cc)

-- ---- a known kind

module _ (a n : ℕ) (xs : List ℕ) where
  -- the count alone says how long the answer is
  pub made_answer : (kind : ℕ) → known kind ≡ true → full_answer at88sc1608 (made kind 0 n []) ≡ full_answer at88sc1608 (made kind a n xs)
  unfolding kinds made
  made_answer =
      each_kind (λ kind. full_answer at88sc1608 (made kind 0 n []) ≡ full_answer at88sc1608 (made kind a n xs))
      refl refl refl refl refl refl refl refl refl refl refl refl refl refl refl refl

-- the record is the instruction with the data behind its fixed fields
record_made : (part : List ℕ) (m a n kind : ℕ) → known kind ≡ true
    → instruction_of part m (record_of kind a n) ≡ made kind a n (between (1 + fixed_fields kind) m part)
unfolding record_of kinds made fixed_fields
record_made part m a n =
    each_kind (λ kind. instruction_of part m (record_of kind a n) ≡ made kind a n (between (1 + fixed_fields kind) m part))
    refl refl refl refl refl refl refl refl refl refl refl refl refl refl refl refl

-- ---- the first three bytes of an accepted record

module _ (part : List ℕ) (k : Instruction) (n : ℕ) (e : decode part ≡ whole k n) (h : Head) (head : h ≡ head_of part) where
  abbrev is : Accepted part k n
  is = accepted part k n e

  pub head_known : (1 ≤ h.kind) × (h.kind ≤ 16)
  head_known = rw head (known_within (at part 0) is.kind)

  pub head_kind : h.kind ≡ kind_of k
  head_kind = rw head (sym (decode_kind part k n e))

  pub head_answer : full_answer at88sc1608 (made h.kind 0 h.n []) ≡ full_answer at88sc1608 k
  head_answer =
      rw head (made_answer (at part 1) (at part 2) (data_of part) (at part 0) is.kind ∙ ap (full_answer at88sc1608) is.command)

  pub head_size : 1 + fixed_fields h.kind + data_length h.kind h.n ≡ n
  head_size = rw head is.size

  pub head_instruction : asked_by part n h ≡ k
  head_instruction =
      rw head
      (record_made part n (at part 1) (at part 2) (at part 0) is.kind
      ∙ ap (made (at part 0) (at part 1) (at part 2)) (data_is n is.size) ∙ is.command)
    where
      data_is : (m : ℕ) → record_length part ≡ m → between (data_at part) m part ≡ data_of part
      data_is m q = rw (← q, add-sub_cancel_left (data_at part) (data_length (at part 0) (at part 2)))
