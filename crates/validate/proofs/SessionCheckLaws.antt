-- The check of a session, from what the tests of the code found, in their order.
use Prim.Native.Nat.{ℕ, suc, ◌+◌, ◌-◌, ◌*◌, ◌≤◌, ◌<◌}
use mathlib.Core.Bool.{Bool, true, false, cond, not, ◌&&◌}
use mathlib.Core.List.{List, [], ◌∷◌}
use mathlib.Core.Path.{◌≡◌, refl, sym, ap, ◌∙◌}
use native.Mathlib.Omega.{arith}
use borrow.Author.Tests.{lt-ltb, le-ltb, le-leb, eq-eqb, ne_eqb, eqb-true}
use Rattle.std.proofs.lemmas.Bool.{eqb-false}
use lib.Dec.{eqb, leb}
use lib.ListN.{length, drop, drop_of_length-le}
use lib.Pointwise.{pointwise}
use lib.Seq.{get_or-take, get_or-drop, drop-cons}
use Rattle.model.specs.Sizes.{card_size, fuse_at, trailer_size, least_session, greatest_session, most_records}
use Rattle.model.specs.Lists.{at}
use Rattle.model.specs.Lists as lists
use Rattle.model.specs.At88sc1608.{at88sc1608}
use Rattle.model.specs.Log.{zoned, header_length}
use Rattle.model.specs.Call.{refused, whole}
use Rattle.model.specs.Instruction.{Instruction, kind_of}
use Rattle.laws.specs.BusyLaws.{full_answer}
use Rattle.laws.specs.EntryLaws.{header_short, full_entry}
use Rattle.laws.specs.ReaderLaws.{next_within}
use Rattle.laws.specs.RecordLaws.{decode_kind}
use Rattle.properties.specs.SessionLaws.{full_total}
use Rattle.model.specs.Reader.{records_end, part_at, next_of}
use Rattle.model.specs.Refusal.{session_length, session_trailer, start_out_of_range, too_many_records, fuse_byte, staging_bytes, bytes_left}
use Rattle.model.specs.Session.{start_of, count_of, wrong_staging, frame, Read, stopped, all, more, read_from}
use Rattle.model.specs.Single.{is_fuse_byte, staging_fits}
use Rattle.record.specs.RefusalNumber.{refusal_number, number_some}
use Rattle.record.specs.declared.refusal.Refusal.{Refusal}
use Rattle.validate.specs.Check.{Sized, unfit, sized, sized_of, plus, check_of}

-- ---- the frame

-- `ends_with` compares its bytes with the session's, the model the session's with 83 and 69
turn : (a b : ℕ) → eqb a b ≡ eqb b a
turn a b = go (eqb a b) refl
  where
    go : (t : Bool) → eqb a b ≡ t → eqb a b ≡ eqb b a
    go true e = e ∙ sym (eq-eqb b a (sym (eqb-true a b e)))
    go false e = e ∙ sym (ne_eqb b a (λ q. eqb-false a b e (sym q)))

both : (x y : ℕ) → (eqb 83 x && (eqb 69 y && true)) ≡ (eqb x 83 && eqb y 69)
both x y = (λ i. turn 83 x i && (turn 69 y i && true)) ∙ ap (λ (t : Bool). eqb x 83 && t) (go (eqb y 69))
  where
    go : (t : Bool) → (t && true) ≡ t
    go true = refl
    go false = refl

module _ (s : List ℕ) where
  pub bad_length : (within : Bool) → within ≡ (leb least_session (length s) && leb (length s) greatest_session) → within ≡ false → session_length ≡ frame s
  unfolding frame
  bad_length within e f = rw (sym e ∙ f)

  module _ (long : least_session ≤ length s) (short : length s ≤ greatest_session) where
    last_two : drop (length s - 2) s ≡ at s (length s - 2) ∷ at s (length s - 1) ∷ []
    last_two =
        let n : suc (length s - 2) ≡ length s - 1 = omega arith in
        drop-cons s (length s - 2) 0 (omega arith)
        ∙ ap (λ (l : List ℕ). at s (length s - 2) ∷ l)
        (ap (λ (k : ℕ). drop k s) n ∙ drop-cons s (length s - 1) 0 (omega arith)
        ∙ ap (λ (l : List ℕ). at s (length s - 1) ∷ l) (drop_of_length-le s (let h : length s ≤ suc (length s - 1) = omega arith in h)))

    module _ (se : Bool) (tested : se ≡ pointwise eqb (83 ∷ 69 ∷ []) (drop (length s - 2) s)) where
      ended : se ≡ (eqb (at s (length s - 2)) 83 && eqb (at s (length s - 1)) 69)
      ended = tested ∙ ap (pointwise eqb (83 ∷ 69 ∷ [])) last_two ∙ both (at s (length s - 2)) (at s (length s - 1))

      pub bad_trailer : se ≡ false → session_trailer ≡ frame s
      unfolding frame
      bad_trailer e = rw (le-leb _ _ long, le-leb _ _ short, sym ended ∙ e)

      module _ (start : ℕ) (well_ended : se ≡ true) (starts : start ≡ start_of s) where
        pub bad_start : (within : Bool) → within ≡ (leb card_size start && leb start (length s - trailer_size)) → within ≡ false
            → start_out_of_range ≡ frame s
        unfolding frame
        bad_start within e f = rw (le-leb _ _ long, le-leb _ _ short, sym ended ∙ well_ended, ← starts, sym e ∙ f)

        module _ (count : ℕ) (low : card_size ≤ start) (high : start ≤ length s - trailer_size) (counts : count ≡ count_of s) where
          pub many : most_records < count → too_many_records ≡ frame s
          unfolding frame
          many h =
              rw (le-leb _ _ long, le-leb _ _ short, sym ended ∙ well_ended, ← starts, le-leb _ _ low, le-leb _ _ high, ← counts, lt-ltb _ _ h)

          module _ (ok : Bool) (few : count ≤ most_records) (fuses : ok ≡ is_fuse_byte (at s fuse_at)) where
            -- what is left to be judged
            behind : frame s ≡ cond (not ok) fuse_byte (cond (wrong_staging s) staging_bytes 0)
            unfolding frame
            behind =
                rw (
                  le-leb _ _ long,
                  le-leb _ _ short,
                  sym ended ∙ well_ended,
                  ← starts,
                  le-leb _ _ low,
                  le-leb _ _ high,
                  ← counts,
                  le-ltb _ _ few,
                  ← fuses,
                )

            pub bad_fuses : not ok ≡ true → fuse_byte ≡ frame s
            bad_fuses t = rw (behind, t)

            module _ (ok' : Bool) (fine : not ok ≡ false) (staging : ok' ≡ staging_fits s) where
              pub bad_staging : not ok' ≡ true → staging_bytes ≡ frame s
              bad_staging t = rw (behind, fine, ← staging, t)

              pub well : not ok' ≡ false → 0 ≡ frame s
              well t = rw (behind, fine, ← staging, t)

-- ---- the records

plus_zero : (x : Sized) → plus 0 x ≡ x
plus_zero (unfit n) = refl
plus_zero (sized n) = ap sized (let e : 0 + n ≡ n = omega arith in e)

plus_more : (end t : ℕ) (k : Instruction) (r : Read) → plus t (sized_of end (more k r)) ≡ plus (t + full_entry k) (sized_of end r)
plus_more end t k (stopped n) = refl
plus_more end t k (all ks i) = go (eqb i end)
  where
    go : (b : Bool) → plus t (cond (not b) (unfit bytes_left) (sized (full_entry k + full_total ks)))
        ≡ plus (t + full_entry k) (cond (not b) (unfit bytes_left) (sized (full_total ks)))
    go true =
        ap sized (let e : t + (full_entry k + full_total ks) ≡ t + full_entry k + full_total ks = omega arith in e)
    go false = refl

-- what is known when some of the records are done: the rest decides, with the entries so far
pub record Checking (s : List ℕ) (start count at entries done : ℕ) : Type 0 where
  pub small : entries ≤ 65540 * done
  pub rest : plus entries (sized_of (records_end (length s)) (read_from (count - done) s at)) ≡ sized_of (records_end (length s)) (read_from count s start)

pub checking_start : (s : List ℕ) (start count : ℕ) → Checking s start count start 0 0
checking_start s start count =
    record {
      small = omega arith;
      rest = plus_zero _ ∙ (let e : count - 0 ≡ count = omega arith in ap (λ (n : ℕ). sized_of (records_end (length s)) (read_from n s start)) e);
    }

module _ (s : List ℕ) (start count at entries done : ℕ) (p : Checking s start count at entries done) where
  module _ (some : done < count) where
    one_fewer : count - done ≡ suc (count - (done + 1))
    one_fewer = omega arith

    pub checking_refused : (n : ℕ) → refused n ≡ next_of s at → unfit n ≡ sized_of (records_end (length s)) (read_from count s start)
    checking_refused n e =
        sym (ap (λ (m : ℕ). plus entries (sized_of (records_end (length s)) (read_from m s at))) one_fewer ∙ rw (← e)) ∙ p.rest

    -- a record's kind byte stands at its place
    module _ (k : Instruction) (n : ℕ) (next : next_of s at ≡ whole k n) where
      pub kind_within : at < length s
      kind_within = let w = next_within s at k n next in omega arith

      kind_at : lists.at s at ≡ kind_of k
      kind_at =
          let w = next_within s at k n next in
          let z : at + 0 ≡ at = omega arith in
          sym (decode_kind (part_at s at) k n next
          ∙ get_or-take (records_end (length s) - at) (drop at s) 0 0 (omega arith) ∙ get_or-drop at s 0 0 ∙ ap (lists.at s) z)

    pub checking_next : (k : Instruction) (n h a : ℕ) → whole k n ≡ next_of s at → h ≡ header_length zoned (lists.at s at)
        → a ≡ full_answer at88sc1608 k → a < 65536 → Checking s start count (at + n) (entries + (h + a)) (done + 1)
    checking_next k n h a next header answers small =
        let m = p.small in
        let w = header_short zoned (lists.at s at) h header in
        let entry : h + a ≡ full_entry k = λ i. (header ∙ ap (header_length zoned) (kind_at k n (sym next))) i + answers i in
        record {
          small = omega arith;
          rest =
              ap (λ (x : ℕ). plus (entries + x) (sized_of (records_end (length s)) (read_from (count - (done + 1)) s (at + n)))) entry
              ∙ sym (plus_more (records_end (length s)) entries k (read_from (count - (done + 1)) s (at + n)))
              ∙ sym (ap (λ (m : ℕ). plus entries (sized_of (records_end (length s)) (read_from m s at))) one_fewer ∙ rw (← next)) ∙ p.rest;
        }

  module _ (none : count ≤ done) where
    at_end : plus entries (sized_of (records_end (length s)) (read_from 0 s at)) ≡ sized_of (records_end (length s)) (read_from count s start)
    at_end = let z : 0 ≡ count - done = omega arith in ap (λ (m : ℕ). plus entries (sized_of (records_end (length s)) (read_from m s at))) z ∙ p.rest

    pub checking_left : (end : ℕ) → end ≡ records_end (length s) → (at ≡ end → ⊥)
        → unfit bytes_left ≡ sized_of (records_end (length s)) (read_from count s start)
    checking_left end e n = rw (ne_eqb at (records_end (length s)) (λ q. n (q ∙ sym e))) at at_end

    pub checking_done : (end : ℕ) → end ≡ records_end (length s) → at ≡ end → sized entries ≡ sized_of (records_end (length s)) (read_from count s start)
    checking_done end e q =
        ap sized (let z : entries ≡ entries + 0 = omega arith in z) ∙ rw (eq-eqb at (records_end (length s)) (q ∙ e)) at at_end

-- ---- the session

module _ (s : List ℕ) where
  pub frame_refused : (why : Refusal) → refusal_number why ≡ frame s → unfit (refusal_number why) ≡ check_of s
  frame_refused why e = rw (← e, (number_some why).1)

  pub records_checked : (start count : ℕ) (x : Sized) → 0 ≡ frame s → start ≡ start_of s → count ≡ count_of s
      → x ≡ sized_of (records_end (length s)) (read_from count s start) → x ≡ check_of s
  records_checked start count x f p q e = e ∙ rw (← f, p, q)
