-- Laws of the check of a log: where the entries of an accepted log lie.
use Rattle.std.specs.Prelude.{ℕ, zero, suc, ◌+◌, ◌-◌, ◌≤◌, ◌<◌, Bool, true, false, cond, not, List, ◌≡◌, refl, ltb, leb, eqb, length, drop}
use Rattle.std.proofs.Common.{le_of_suc-le-suc, arith}
use borrow.Author.Tests.{ltb-true, leb-true, eqb-true, le-leb, eq-eqb}
use Rattle.model.specs.Sizes.{fuse_at, least_log, most_records}
use Rattle.model.specs.Lists.{at}
use Rattle.laws.specs.BoolLaws.{and_left, and_right}
use Rattle.model.specs.Log.{Ending, zoned, entry_fits, zone_fits}
use Rattle.model.specs.LogCheck.{length_at, response_at, next_entry, entry_ok, entries_ok, entry_place, count_of, offset_of, trailer_ok, valid_as, valid, place_of, find}
use Rattle.model.specs.LogCheck.{located, missing}
use Rattle.model.specs.Refusal.{not_a_log, no_such_answer}
use Rattle.model.specs.Single.{is_fuse_byte, staging_fits}

-- ---- under any ending

module _ (E : Ending) where
  -- an entry that is well
  pub record Entered (l : List ℕ) (i end : ℕ) : Type 0 where
    pub header : i + 3 ≤ end
    pub fits : entry_fits (at l i) (length_at l i) ≡ true
    pub zone : zone_fits E (at l i) (at l (i + 3)) ≡ true
    pub next : next_entry E l i ≤ end

  pub entered : (l : List ℕ) (i end : ℕ) → entry_ok E l i end ≡ true → Entered l i end
  unfolding entry_ok
  entered l i end e =
      let p = and_right (leb (i + 3) end) _ e in
      let q = and_right (entry_fits (at l i) (length_at l i)) _ p in
      record {
        header = leb-true _ _ (and_left (leb (i + 3) end) _ e);
        fits = and_left (entry_fits (at l i) (length_at l i)) _ p;
        zone = and_left (zone_fits E (at l i) (at l (i + 3))) _ q;
        next = leb-true _ _ (and_right (zone_fits E (at l i) (at l (i + 3))) _ q);
      }

  -- every entry ends by the end of them all
  pub entry_ends : (n : ℕ) (l : List ℕ) (i end : ℕ) → entries_ok E n l i end ≡ true → (k : ℕ) → k < n → next_entry E l (entry_place E k l i) ≤ end
  entry_ends zero l i end e k h = absurd (let z : ⊥ = omega arith in z)
  entry_ends (suc n) l i end e zero h = (entered l i end (and_left (entry_ok E l i end) _ e)).next
  entry_ends (suc n) l i end e (suc k) h = entry_ends n l (next_entry E l i) end (and_right (entry_ok E l i end) _ e) k (le_of_suc-le-suc h)

  -- a trailer that is well
  pub record Trailed (l : List ℕ) : Type 0 where
    pub long : least_log ≤ length l
    pub first : at l (length l - 2) ≡ 0x4C
    pub second : at l (length l - 1) ≡ E.last
    pub few : count_of l ≤ most_records
    pub meets : offset_of l + least_log ≡ length l
    pub stage : is_fuse_byte (at l (offset_of l + fuse_at)) ≡ true
    pub staging : staging_fits (drop (offset_of l) l) ≡ true

  pub trailed : (l : List ℕ) → trailer_ok E l ≡ true → Trailed l
  unfolding trailer_ok
  trailed l e =
      let p₁ = and_right (leb least_log (length l)) _ e in
      let p₂ = and_right (eqb (at l (length l - 2)) 0x4C) _ p₁ in
      let p₃ = and_right (eqb (at l (length l - 1)) E.last) _ p₂ in
      let p₄ = and_right (leb (count_of l) most_records) _ p₃ in
      record {
        long = leb-true _ _ (and_left (leb least_log (length l)) _ e);
        first = eqb-true _ _ (and_left (eqb (at l (length l - 2)) 0x4C) _ p₁);
        second = eqb-true _ _ (and_left (eqb (at l (length l - 1)) E.last) _ p₂);
        few = leb-true _ _ (and_left (leb (count_of l) most_records) _ p₃);
        meets = eqb-true _ _ (and_left (eqb (offset_of l + least_log) (length l)) _ p₄);
        stage = and_left (is_fuse_byte (at l (offset_of l + fuse_at))) _ (and_right (eqb (offset_of l + least_log) (length l)) _ p₄);
        staging = and_right (is_fuse_byte (at l (offset_of l + fuse_at))) _ (and_right (eqb (offset_of l + least_log) (length l)) _ p₄);
      }

  -- and both the other way round
  pub entry_well : (l : List ℕ) (i end : ℕ) → Entered l i end → entry_ok E l i end ≡ true
  unfolding entry_ok
  entry_well l i end w = rw (le-leb _ _ w.header, w.fits, w.zone, le-leb _ _ w.next)

  pub trailer_well : (l : List ℕ) → Trailed l → trailer_ok E l ≡ true
  unfolding trailer_ok
  trailer_well l w =
      rw (
        le-leb _ _ w.long,
        eq-eqb _ _ w.first,
        eq-eqb _ _ w.second,
        le-leb _ _ w.few,
        eq-eqb _ _ w.meets,
        w.stage,
        w.staging,
      )

-- ---- under the ending of every log

-- an answer that was found
pub record Answered (l : List ℕ) (k from n : ℕ) : Type 0 where
  pub accepted : valid l ≡ true
  pub counted : k < count_of l
  pub start : from ≡ response_at zoned l (place_of l k)
  pub size : n ≡ length_at l (place_of l k)

pub answered : (l : List ℕ) (k from n : ℕ) → find l k ≡ located from n → Answered l k from n
unfolding find
answered l k from n e = go (valid l) (ltb k (count_of l)) refl refl e
  where
    go : (v u : Bool) → valid l ≡ v → ltb k (count_of l) ≡ u
        → cond (not v) (missing not_a_log) (cond (not u) (missing no_such_answer) (located (response_at zoned l (place_of l k)) (length_at l (place_of l k))))
        ≡ located from n → Answered l k from n
    go true true p q e = record { accepted = p; counted = ltb-true _ _ q; start = cc; size = cc }
    go true false p q e = absurd (let z : ◌≡◌ {A = ℕ} 0 1 = cc in let w : ⊥ = omega arith in w)
    go false u p q e = absurd (let z : ◌≡◌ {A = ℕ} 0 1 = cc in let w : ⊥ = omega arith in w)

-- it lies within the log
pub answer_within : (l : List ℕ) (k from n : ℕ) → find l k ≡ located from n → from + n ≤ length l
unfolding valid_as
answer_within l k from n e =
    let E : Ending = zoned in
    let a = answered l k from n e in
    let t = trailed E l (and_left (trailer_ok E l) _ a.accepted) in
    let w = entry_ends E (count_of l) l 0 (offset_of l) (and_right (trailer_ok E l) _ a.accepted) k a.counted in
    let m = t.meets in
    let s = a.start in
    let z = a.size in
    omega arith
