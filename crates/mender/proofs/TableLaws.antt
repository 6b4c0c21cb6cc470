-- The table of counts, from the end downward.
use Prim.Native.Nat.{ℕ, zero, suc, ◌+◌, ◌-◌, ◌%◌, ◌≤◌, ◌<◌}
use mathlib.Core.Bool.{Bool, true, false, cond}
use Rattle.std.specs.Prelude.{List, Option, None, Some, ◌≡◌, min, get_or}
use Rattle.std.proofs.Common.{refl, sym, ap, ◌∙◌, arith}
use Rattle.std.specs.Option.{option_and_then}
use borrow.Author.Tests.{lt-ltb, le-ltb, ltb-true, ltb-false, eq-eqb, ne_eqb, eqb-true, eqb-false}
use lib.Dec.{ltb, eqb}
use lib.ListN.{length, set, length-set}
use lib.Seq.{get_or-set_same, get_or-set_other}
use Rattle.model.specs.Sizes.{card_size, most_records}
use Rattle.model.specs.Call.{Decoded, refused, whole}
use Rattle.model.specs.Instruction.{Instruction}
use Rattle.model.specs.Reader.{records_end, part_at, next_of}
use Rattle.model.specs.Session.{on_decoded}
use Rattle.model.specs.Mender.{another, count_from, Search, nowhere, found, sooner, start_from, smallest_start}
use Rattle.laws.specs.MenderLaws.{within, count_refused, count_last, count_next, count_within, start_sooner}
use Rattle.laws.specs.ReaderLaws.{next_within}
use Rattle.laws.specs.RecordLaws.{decode_short}
use Rattle.mender.specs.Mending.{counted, followed, window, tabled}

-- ---- one count

module _ (s : List ℕ) (counts : List (Option ℕ)) (i : ℕ) where
  pub tabled_refused : (r : ℕ) → refused r ≡ next_of s i → None ≡ tabled s counts i
  unfolding tabled
  tabled_refused r e = rw (← e)

  module _ (k : Instruction) (m : ℕ) (next : next_of s i ≡ whole k m) where
    pub tabled_last : i + m ≡ records_end (length s) → Some 1 ≡ tabled s counts i
    unfolding tabled
    tabled_last e = rw (next, eq-eqb _ _ e)

    module _ (before : i + m ≡ records_end (length s) → ⊥) where
      pub tabled_none : get_or counts ((i + m) % window) None ≡ None → None ≡ tabled s counts i
      unfolding tabled
      tabled_none e = rw (next, ne_eqb _ _ before, e)

      pub tabled_more : (n : ℕ) → get_or counts ((i + m) % window) None ≡ Some n → followed n ≡ tabled s counts i
      unfolding tabled
      tabled_more n e = rw (next, ne_eqb _ _ before, e)

-- ---- the table

-- a record more before a count of at most so many
followed_within : (k : ℕ) → option_and_then followed (counted k) ≡ counted (another (within 4095 k))
followed_within zero = refl
followed_within (suc k) = go (ltb 4095 (suc k)) refl
  where
    go : (t : Bool) → ltb 4095 (suc k) ≡ t → followed (suc k) ≡ counted (another (cond t 0 (suc k)))
    go true e = let h = ltb-true 4095 (suc k) e in rw (le-ltb (suc k) most_records (omega arith))
    go false e =
        let h = ltb-false 4095 (suc k) e in
        let q : suc k + 1 ≡ suc (suc k) = omega arith in
        rw (lt-ltb (suc k) most_records (omega arith)) (ap Some q)

-- places that are nearer than that have other remainders
apart : (i j : ℕ) → i < j → j < i + window → j % window ≡ i % window → ⊥
apart i j h g e = omega arith

-- what is known between two turns: the counts from a place on stand in the table, and what the starts from there on give is found
pub record Filled (s : List ℕ) (counts : List (Option ℕ)) (place : ℕ) (got : Search) : Type 0 where
  pub low : min card_size (records_end (length s)) ≤ place
  pub high : place ≤ records_end (length s)
  pub long : length counts ≡ window
  pub kept : (p : ℕ) → place ≤ p → p < records_end (length s) → p < place + window
      → get_or counts (p % window) None ≡ counted (count_from most_records s p)
  pub rest : got ≡ start_from (records_end (length s) - place) s place

module _ (s : List ℕ) (counts : List (Option ℕ)) where
  pub filled_start : (place : ℕ) → place ≡ records_end (length s) → length counts ≡ window → Filled s counts place nowhere
  unfolding start_from
  filled_start place e l =
      let z : 0 ≡ records_end (length s) - place = omega arith in
      record {
        low = omega arith;
        high = omega arith;
        long = l;
        kept = λ p a b d. absurd (let w : ⊥ = omega arith in w);
        rest = ap (λ (n : ℕ). start_from n s place) z;
      }

  -- the count that the table gives for the place before
  pub tabled_count : (place : ℕ)
      → ((p : ℕ) → place + 1 ≤ p → p < records_end (length s) → p < place + 1 + window
      → get_or counts (p % window) None ≡ counted (count_from most_records s p))
      → tabled s counts place ≡ counted (count_from most_records s place)
  unfolding tabled
  tabled_count place kept = go (next_of s place) refl
    where
      later : (k : Instruction) (m : ℕ) → next_of s place ≡ whole k m → (t : Bool) → eqb (place + m) (records_end (length s)) ≡ t
          → cond t (Some 1) (option_and_then followed (get_or counts ((place + m) % window) None)) ≡ counted (count_from most_records s place)
      later k m e true q = ap counted (sym (count_last s place k m e 4095 (eqb-true _ _ q)))
      later k m e false q =
          let w = next_within s place k m e in
          let n = eqb-false (place + m) (records_end (length s)) q in
          let h = decode_short (part_at s place) k m e in
          ap (option_and_then followed) (kept (place + m) (omega arith) (omega arith) (omega arith))
          ∙ followed_within (count_from most_records s (place + m))
          ∙ ap (λ (j : ℕ). counted (another j)) (sym (count_within s 4095 (place + m)))
          ∙ ap counted (sym (count_next s place k m e 4095 n))

      go : (d : Decoded Instruction) → next_of s place ≡ d
          → on_decoded d (λ r. None)
          (λ k m. cond (eqb (place + m) (records_end (length s))) (Some 1) (option_and_then followed (get_or counts ((place + m) % window) None)))
          ≡ counted (count_from most_records s place)
      go (refused r) e = ap counted (sym (count_refused s most_records place r e))
      go (whole k m) e = later k m e (eqb (place + m) (records_end (length s))) refl

  module _ (place : ℕ) (got : Search) (p : Filled s counts place got) (count : Option ℕ) (more : card_size < place)
      (gives : count ≡ tabled s counts (place - 1)) where
    known : count ≡ counted (count_from most_records s (place - 1))
    known = gives ∙ tabled_count (place - 1) (λ q a b d. p.kept q (omega arith) b (omega arith))

    filled_next : (got' : Search) → got' ≡ sooner (place - 1) (count_from most_records s (place - 1)) got
        → Filled s (set counts ((place - 1) % window) count) (place - 1) got'
    filled_next got' e =
        let high = p.high in
        let z : place - 1 + 1 ≡ place = omega arith in
        record {
          low = omega arith;
          high = omega arith;
          long = length-set counts ((place - 1) % window) count ∙ p.long;
          kept = λ q a b d. entry q (eqb q (place - 1)) refl a b d;
          rest = e
              ∙ ap (sooner (place - 1) (count_from most_records s (place - 1)))
              (p.rest ∙ ap (λ (i : ℕ). start_from (records_end (length s) - i) s i) (sym z))
              ∙ sym (start_sooner s (place - 1) (omega arith));
        }
      where
        entry : (q : ℕ) (t : Bool) → eqb q (place - 1) ≡ t → place - 1 ≤ q → q < records_end (length s) → q < place - 1 + window
            → get_or (set counts ((place - 1) % window) count) (q % window) None ≡ counted (count_from most_records s q)
        entry q true t a b d =
            let l = p.long in
            let e = eqb-true q (place - 1) t in
            let w : (place - 1) % window < length counts = omega arith in
            rw e (get_or-set_same counts ((place - 1) % window) count None w ∙ known)
        entry q false t a b d =
            let n = eqb-false q (place - 1) t in
            get_or-set_other counts ((place - 1) % window) (q % window) count None (apart (place - 1) q (omega arith) d)
            ∙ p.kept q (omega arith) b (omega arith)

    pub filled_none : count ≡ None → Filled s (set counts ((place - 1) % window) count) (place - 1) got
    filled_none e = filled_next got (go (count_from most_records s (place - 1)) (sym known ∙ e))
      where
        go : (k : ℕ) → counted k ≡ None → got ≡ sooner (place - 1) k got
        go zero q = refl
        go (suc k) q = cc

    pub filled_some : (n : ℕ) → count ≡ Some n → Filled s (set counts ((place - 1) % window) count) (place - 1) (found (place - 1) n)
    filled_some n e = filled_next (found (place - 1) n) (go (count_from most_records s (place - 1)) (sym known ∙ e))
      where
        go : (k : ℕ) → counted k ≡ Some n → found (place - 1) n ≡ sooner (place - 1) k got
        go zero q = cc
        go (suc k) q = let z : n ≡ suc k = cc in ap (found (place - 1)) z

  pub filled_done : (place : ℕ) (got : Search) → Filled s counts place got → place ≤ card_size → got ≡ smallest_start s
  unfolding start_from
  filled_done place got p h = p.rest ∙ go (ltb (records_end (length s)) card_size) refl
    where
      go : (t : Bool) → ltb (records_end (length s)) card_size ≡ t → start_from (records_end (length s) - place) s place ≡ smallest_start s
      go true e =
          let l = p.low in
          let b = ltb-true (records_end (length s)) card_size e in
          let z : records_end (length s) - place ≡ 0 = omega arith in
          let z' : records_end (length s) - card_size ≡ 0 = omega arith in
          rw (z, z')
      go false e =
          let l = p.low in
          let b = ltb-false (records_end (length s)) card_size e in
          let z : place ≡ card_size = omega arith in
          ap (λ (i : ℕ). start_from (records_end (length s) - i) s i) z
