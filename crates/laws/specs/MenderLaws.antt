-- Laws of the trailer mender: the count of records, record by record and by how many may be read; and one start more or fewer.
use Prim.Native.Nat.{ℕ, zero, suc, ◌+◌, ◌-◌, ◌<◌}
use Rattle.std.specs.Prelude.{Bool, cond, List, ◌≡◌, ltb, eqb, length}
use Rattle.std.proofs.Math.Bool.{true, false}
use Rattle.std.proofs.Math.Path.{refl, ap}
use Rattle.std.proofs.Common.{sym, ◌∙◌, arith}
use borrow.Author.Tests.{lt-ltb, le-ltb, ltb-true, ltb-false, eq-eqb, ne_eqb}
use Rattle.model.specs.Sizes.{most_records}
use Rattle.model.specs.Call.{Decoded, refused, whole}
use Rattle.model.specs.Instruction.{Instruction}
use Rattle.model.specs.Reader.{records_end, next_of}
use Rattle.model.specs.Session.{on_decoded}
use Rattle.model.specs.Mender.{another, count_from, found, sooner, start_from}

-- ---- counts

-- some records before others; where there are none of those, none
abbrev pub before : ℕ → ℕ → ℕ
before c zero = 0
before c (suc k) = c + suc k

pub before_none : (k : ℕ) → before 0 k ≡ k
before_none zero = refl
before_none (suc k) = omega arith

pub before_another : (c k : ℕ) → before c (another k) ≡ before (c + 1) k
before_another c zero = refl
before_another c (suc k) = omega arith

-- a count where at most n are wanted
abbrev pub within : ℕ → ℕ → ℕ
within n zero = 0
within n (suc k) = cond (ltb n (suc k)) 0 (suc k)

another_within : (n k : ℕ) → another (within n k) ≡ within (suc n) (another k)
another_within n zero = refl
another_within n (suc k) = go (ltb n (suc k)) refl
  where
    go : (t : Bool) → ltb n (suc k) ≡ t → another (cond t 0 (suc k)) ≡ within (suc n) (suc (suc k))
    go true e = let h = ltb-true n (suc k) e in rw (lt-ltb (suc n) (suc (suc k)) (omega arith))
    go false e = let h = ltb-false n (suc k) e in rw (le-ltb (suc n) (suc (suc k)) (omega arith))

-- ---- the count from a place on

module _ (s : List ℕ) where
  pub count_refused : (n i r : ℕ) → next_of s i ≡ refused r → count_from n s i ≡ 0
  unfolding count_from
  count_refused zero i r e = refl
  count_refused (suc n) i r e = rw e

  module _ (i : ℕ) (k : Instruction) (m : ℕ) (next : next_of s i ≡ whole k m) where
    pub count_last : (n : ℕ) → i + m ≡ records_end (length s) → count_from (suc n) s i ≡ 1
    unfolding count_from
    count_last n e = rw (next, eq-eqb _ _ e)

    pub count_next : (n : ℕ) → (i + m ≡ records_end (length s) → ⊥) → count_from (suc n) s i ≡ another (count_from n s (i + m))
    unfolding count_from
    count_next n e = rw (next, ne_eqb _ _ e)

  -- with a record fewer allowed, only the longest is lost
  pub count_within : (n i : ℕ) → count_from n s i ≡ within n (count_from (suc n) s i)
  unfolding count_from
  count_within zero i = go (next_of s i)
    where
      on_end : (t : Bool) → 0 ≡ within 0 (cond t 1 0)
      on_end true = refl
      on_end false = refl

      go : (d : Decoded Instruction) → 0 ≡ within 0 (on_decoded d (λ r. 0) (λ k m. cond (eqb (i + m) (records_end (length s))) 1 0))
      go (refused r) = refl
      go (whole k m) = on_end (eqb (i + m) (records_end (length s)))
  count_within (suc n) i = go (λ j. count_within n j) (next_of s i)
    where
      on_end : (t : Bool) (a b : ℕ) → a ≡ within n b → cond t 1 (another a) ≡ within (suc n) (cond t 1 (another b))
      on_end true a b e = rw (le-ltb (suc n) 1 (omega arith))
      on_end false a b e = ap another e ∙ another_within n b

      go : ((j : ℕ) → count_from n s j ≡ within n (count_from (suc n) s j)) → (d : Decoded Instruction)
          → on_decoded d (λ r. 0) (λ k m. cond (eqb (i + m) (records_end (length s))) 1 (another (count_from n s (i + m))))
          ≡ within (suc n) (on_decoded d (λ r. 0) (λ k m. cond (eqb (i + m) (records_end (length s))) 1 (another (count_from (suc n) s (i + m)))))
      go ih (refused r) = refl
      go ih (whole k m) = on_end (eqb (i + m) (records_end (length s))) (count_from n s (i + m)) (count_from (suc n) s (i + m)) (ih (i + m))

  -- ---- the starts

  module _ (i : ℕ) (some : i < records_end (length s)) where
    fewer : records_end (length s) - i ≡ suc (records_end (length s) - (i + 1))
    fewer = omega arith

    -- one start more
    pub start_sooner : start_from (records_end (length s) - i) s i
        ≡ sooner i (count_from most_records s i) (start_from (records_end (length s) - (i + 1)) s (i + 1))
    unfolding start_from
    start_sooner = ap (λ (n : ℕ). start_from n s i) fewer

    pub start_here : (k : ℕ) → suc k ≡ count_from most_records s i → found i (suc k) ≡ start_from (records_end (length s) - i) s i
    start_here k e = sym (start_sooner ∙ ap (λ (c : ℕ). sooner i c (start_from (records_end (length s) - (i + 1)) s (i + 1))) (sym e))

    pub start_later : 0 ≡ count_from most_records s i → start_from (records_end (length s) - (i + 1)) s (i + 1) ≡ start_from (records_end (length s) - i) s i
    start_later e = sym (start_sooner ∙ ap (λ (c : ℕ). sooner i c (start_from (records_end (length s) - (i + 1)) s (i + 1))) (sym e))
