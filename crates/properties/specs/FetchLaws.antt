-- Of fetching an answer: how many headers a pass over the entries reads, and that logs with the same entries give the same.
use Rattle.std.specs.Prelude.{ℕ, zero, suc, ◌≤◌, Bool, not, List, ltb, length}
use Rattle.std.proofs.Math.Bool.{true, false, cond}
use Rattle.std.proofs.Math.Path.{◌≡◌, refl}
use Rattle.std.proofs.Common.{sym, ap, ◌∙◌, ltb-true, ltb-false}
use native.Mathlib.Omega.{arith}
use Rattle.model.specs.Sizes.{most_records}
use Rattle.laws.specs.BoolLaws.{and_left, and_right}
use Rattle.model.specs.Log.{Ending, zoned, Entry, LaidOut}
use Rattle.model.specs.LogCheck.{missing, located, response_at, length_at, next_entry, entry_ok, entries_ok, headers_read, count_of, offset_of}
use Rattle.model.specs.LogCheck.{trailer_ok, valid_as, valid, place_of, find, fetch, answer_in}
use Rattle.model.specs.Refusal.{not_a_log, no_such_answer}
use Rattle.properties.specs.LogLaws.{trailed}
use Rattle.properties.specs.Written.{count_is, written_valid, written_found, written_none, written_answer}

-- ---- the headers that are read

module _ (E : Ending) where
  -- of entries that are all well, each one
  pub all_read : (n : ℕ) (l : List ℕ) (i end : ℕ) → entries_ok E n l i end ≡ true → headers_read E n l i end ≡ n
  all_read zero l i end e = refl
  all_read (suc n) l i end e =
      rw (and_left (entry_ok E l i end) _ e) (ap suc (all_read n l (next_entry E l i) end (and_right (entry_ok E l i end) _ e)))

module _ (l : List ℕ) (k : ℕ) where
  pub found_same : (fetch l k).found ≡ find l k
  unfolding fetch
  found_same = refl

  valid_entries : valid l ≡ true → entries_ok zoned (count_of l) l 0 (offset_of l) ≡ true
  unfolding valid_as
  valid_entries v = and_right (trailer_ok zoned l) _ v

  valid_few : valid l ≡ true → count_of l ≤ most_records
  unfolding valid_as
  valid_few v = (trailed zoned l (and_left (trailer_ok zoned l) _ v)).few

  pub valid_headers : valid l ≡ true → (fetch l k).headers ≡ count_of l
  unfolding fetch
  valid_headers v = rw v (all_read zoned (count_of l) l 0 (offset_of l) (valid_entries v))

  invalid_headers : valid l ≡ false → (fetch l k).headers ≡ 0
  unfolding fetch
  invalid_headers v = rw v

  -- 14 comes of a log that is accepted, and 13 of none
  pub none_such_valid : find l k ≡ missing no_such_answer → valid l ≡ true
  unfolding find
  none_such_valid e = go (valid l) e
    where
      go : (v : Bool) → cond (not v) (missing not_a_log) (cond (not (ltb k (count_of l))) (missing no_such_answer)
          (located (response_at zoned l (place_of l k)) (length_at l (place_of l k)))) ≡ missing no_such_answer → v ≡ true
      go true e = refl
      go false e = absurd (let z : not_a_log ≡ no_such_answer = cc in let w : ⊥ = omega arith in w)

  no_log_invalid : find l k ≡ missing not_a_log → valid l ≡ false
  unfolding find
  no_log_invalid e = go (valid l) (ltb k (count_of l)) e
    where
      go : (v u : Bool) → cond (not v) (missing not_a_log) (cond (not u) (missing no_such_answer)
          (located (response_at zoned l (place_of l k)) (length_at l (place_of l k)))) ≡ missing not_a_log → v ≡ false
      go false u e = refl
      go true true e = absurd (let z : ◌≡◌ {A = ℕ} 0 1 = cc in let w : ⊥ = omega arith in w)
      go true false e = absurd (let z : no_such_answer ≡ not_a_log = cc in let w : ⊥ = omega arith in w)

  pub no_log_headers : find l k ≡ missing not_a_log → (fetch l k).headers ≡ 0
  no_log_headers e = invalid_headers (no_log_invalid e)

  pub few_headers : (fetch l k).headers ≤ most_records
  few_headers = go (valid l) refl
    where
      go : (v : Bool) → valid l ≡ v → (fetch l k).headers ≤ most_records
      go true v = let h = valid_headers v in let f = valid_few v in omega arith
      go false v = let h = invalid_headers v in omega arith

-- ---- logs with the same entries

module _ (es : List Entry) (c₁ c₂ l₁ l₂ : List ℕ) (w₁ : LaidOut zoned es c₁ l₁) (w₂ : LaidOut zoned es c₂ l₂) (k : ℕ) where
  same_found : find l₁ k ≡ find l₂ k
  same_found = go (ltb k (length es)) refl
    where
      go : (t : Bool) → ltb k (length es) ≡ t → find l₁ k ≡ find l₂ k
      go true e = written_found es c₁ l₁ w₁ k (ltb-true _ _ e) ∙ sym (written_found es c₂ l₂ w₂ k (ltb-true _ _ e))
      go false e = written_none es c₁ l₁ w₁ k (ltb-false _ _ e) ∙ sym (written_none es c₂ l₂ w₂ k (ltb-false _ _ e))

  same_headers : (fetch l₁ k).headers ≡ (fetch l₂ k).headers
  same_headers =
      valid_headers l₁ k (written_valid es c₁ l₁ w₁) ∙ count_is zoned es c₁ l₁ w₁
      ∙ sym (valid_headers l₂ k (written_valid es c₂ l₂ w₂) ∙ count_is zoned es c₂ l₂ w₂)

  pub same_fetched : fetch l₁ k ≡ fetch l₂ k
  same_fetched = λ i. record { found = (found_same l₁ k ∙ same_found ∙ sym (found_same l₂ k)) i; headers = same_headers i }

  pub same_answer : answer_in l₁ (find l₁ k) ≡ answer_in l₂ (find l₂ k)
  same_answer = go (ltb k (length es)) refl
    where
      go : (t : Bool) → ltb k (length es) ≡ t → answer_in l₁ (find l₁ k) ≡ answer_in l₂ (find l₂ k)
      go true e = written_answer es c₁ l₁ w₁ k (ltb-true _ _ e) ∙ sym (written_answer es c₂ l₂ w₂ k (ltb-true _ _ e))
      go false e = rw (written_none es c₁ l₁ w₁ k (ltb-false _ _ e), written_none es c₂ l₂ w₂ k (ltb-false _ _ e))
