-- Of the check of a log: a log that is accepted under an ending is the writing, with that ending, of some entries within the limits, a
-- card and the trailer. The other direction is Written's.
use Rattle.std.specs.Prelude.{ℕ, zero, suc, ◌+◌, ◌-◌, ◌≤◌, ◌<◌, Bool, ◌↔◌, ◌≡◌, leb, eqb, length, drop}
use Rattle.std.proofs.Math.Bool.{true, false, cond}
use mathlib.Core.List.{List, [], ◌∷◌, ◌++◌}
use Rattle.std.proofs.Math.Path.{refl, ap}
use Rattle.std.proofs.Common.{sym, ◌∙◌, add-one, eqb-true, ne_eqb, length-drop, take-append-drop, drop-cons, drop-drop, take-add, length-take-le, get_or-take, get_or-drop, take_all}
use native.Mathlib.Omega.{arith}
use Rattle.std.proofs.Math.ListN.{take}
use Rattle.model.specs.Sizes.{card_size, fuse_at, trailer_size, least_log}
use Rattle.model.specs.Lists.{at, Bytes}
use Rattle.laws.specs.BoolLaws.{and_left, and_right, and_false}
use Rattle.model.specs.Numbers.{bytes_of}
use Rattle.laws.specs.NumberLaws.{bytes_number}
use Rattle.model.specs.At88sc1608.{at88sc1608}
use Rattle.laws.specs.StagingLaws.{staging_same}
use Rattle.model.specs.Refusal.{not_a_log}
use Rattle.model.specs.Log.{Ending, zoned, Entry, header_bytes, header_length, entry_bytes, entries_bytes, log_trailer, AllFit, LaidOut}
use Rattle.model.specs.LogCheck.{count_of, offset_of, length_at, response_at, next_entry, entry_ok, entries_ok, trailer_ok, valid_as, valid, find, missing}
use Rattle.properties.specs.LogLaws.{Entered, entered, Trailed, trailed}
use Rattle.properties.specs.Written.{written_well}

-- two runs of bytes side by side
side_by_side : (l : List ℕ) (i m n : ℕ) → take m (drop i l) ++ take n (drop (i + m) l) ≡ take (m + n) (drop i l)
side_by_side l i m n = sym (take-add m n (drop i l) ∙ ap (λ (k : List ℕ). take m (drop i l) ++ take n k) (drop-drop m i l))

cons_take : (l : List ℕ) (i m : ℕ) → i < length l → at l i ∷ take m (drop (i + 1) l) ≡ take (suc m) (drop i l)
cons_take l i m h = rw (add-one i) (ap (take (suc m)) (sym (drop-cons l i 0 h)))

-- a zone byte, or none
zone_taken : (l : List ℕ) (i : ℕ) (t : Bool) → i < length l → cond t (at l i ∷ []) [] ≡ take (cond t 1 0) (drop i l)
zone_taken l i true h = cons_take l i 0 h
zone_taken l i false h = refl

module _ (E : Ending) where
  -- the entry at a place, and n entries from a place on
  abbrev entry_at : List ℕ → ℕ → Entry
  entry_at l i = record { kind = at l i; zone = at l (i + 3); response = take (length_at l i) (drop (response_at E l i) l) }

  abbrev parsed : ℕ → List ℕ → ℕ → List Entry
  parsed zero l i = []
  parsed (suc n) l i = entry_at l i ∷ parsed n l (next_entry E l i)

  parsed_length : (n : ℕ) (l : List ℕ) (i : ℕ) → length (parsed n l i) ≡ n
  parsed_length zero l i = refl
  parsed_length (suc n) l i = ap suc (parsed_length n l (next_entry E l i))

  module _ (l : List ℕ) (bytes : Bytes l) where
    response_length_lem : (i end : ℕ) → end ≤ length l → Entered E l i end → length (entry_at l i).response ≡ length_at l i
    response_length_lem i end h w =
        length-take-le (length_at l i) (drop (response_at E l i) l) (let n = w.next in let d = length-drop (response_at E l i) l in omega arith)

    -- the bytes of a header, and of an entry, are those of the log
    header_bytes_lem : (i : ℕ) → i + 3 < length l → header_bytes E (at l i) (length_at l i) (at l (i + 3)) ≡ take (header_length E (at l i)) (drop i l)
    unfolding header_length
    header_bytes_lem i h = go (E.names (at l i))
      where
        go : (t : Bool) → at l i ∷ (bytes_of 2 (length_at l i) ++ cond t (at l (i + 3) ∷ []) []) ≡ take (cond t 4 3) (drop i l)
        go t =
            let e : i + 3 ≡ i + 1 + 2 = omega arith in
            (λ j. at l i ∷ (bytes_number 2 l (i + 1) bytes (omega arith) j ++ zone_taken l (i + 3) t h j))
            ∙ ap (λ (k : ℕ). at l i ∷ (take 2 (drop (i + 1) l) ++ take (cond t 1 0) (drop k l))) e
            ∙ ap (λ (k : List ℕ). at l i ∷ k) (side_by_side l (i + 1) 2 (cond t 1 0))
            ∙ cons_take l i (2 + cond t 1 0) (omega arith) ∙ sizes t
          where
            sizes : (t : Bool) → take (suc (2 + cond t 1 0)) (drop i l) ≡ take (cond t 4 3) (drop i l)
            sizes true = refl
            sizes false = refl

    entry_bytes_lem : (i end : ℕ) → end + 1 ≤ length l → Entered E l i end
        → entry_bytes E (entry_at l i) ≡ take (header_length E (at l i) + length_at l i) (drop i l)
    entry_bytes_lem i end h w =
        let g = w.header in
        ap (λ (m : ℕ). header_bytes E (at l i) m (at l (i + 3)) ++ (entry_at l i).response) (response_length_lem i end (omega arith) w)
        ∙ ap (λ (k : List ℕ). k ++ (entry_at l i).response) (header_bytes_lem i (omega arith))
        ∙ side_by_side l i (header_length E (at l i)) (length_at l i)

    entries_bytes_lem : (n i end : ℕ) → end + 1 ≤ length l → entries_ok E n l i end ≡ true
        → (i ≤ end) × (entries_bytes E (parsed n l i) ≡ take (end - i) (drop i l))
    entries_bytes_lem zero i end h e =
        let q = eqb-true i end e in
        let z : 0 ≡ end - i = omega arith in
        (omega arith, ap (λ (k : ℕ). take k (drop i l)) z)
    entries_bytes_lem (suc n) i end h e =
        let w = entered E l i end (and_left (entry_ok E l i end) _ e) in
        let m : ℕ = header_length E (at l i) + length_at l i in
        let ih = entries_bytes_lem n (next_entry E l i) end h (and_right (entry_ok E l i end) _ e) in
        let p : next_entry E l i ≡ i + m = omega arith in
        let q : m + (end - next_entry E l i) ≡ end - i = let g = ih.0 in omega arith in (
          let g = w.header in omega arith,
          (λ j. entry_bytes_lem i end h w j ++ ih.1 j) ∙ ap (λ (k : ℕ). take m (drop i l) ++ take (end - next_entry E l i) (drop k l)) p
              ∙ side_by_side l i m (end - next_entry E l i) ∙ ap (λ (k : ℕ). take k (drop i l)) q,
        )

    all_fit : (n i end : ℕ) → end ≤ length l → entries_ok E n l i end ≡ true → AllFit E (parsed n l i)
    all_fit zero i end h e = tt
    all_fit (suc n) i end h e =
        let w = entered E l i end (and_left (entry_ok E l i end) _ e) in (
          record { response_fits = rw (response_length_lem i end h w) w.fits; zone_fits_lem = w.zone },
          all_fit n (next_entry E l i) end h (and_right (entry_ok E l i end) _ e),
        )

    -- ---- the whole log

    module _ (accepted : valid_as E l ≡ true) where
      trailer_is : Trailed E l
      unfolding valid_as
      trailer_is = trailed E l (and_left (trailer_ok E l) _ accepted)

      entries_are : entries_ok E (count_of l) l 0 (offset_of l) ≡ true
      unfolding valid_as
      entries_are = and_right (trailer_ok E l) _ accepted

      abbrev pub entries_of : List Entry
      entries_of = parsed (count_of l) l 0

      abbrev pub card_of : List ℕ
      card_of = take card_size (drop (offset_of l) l)

      front_bytes : entries_bytes E entries_of ≡ take (offset_of l) l
      front_bytes =
          let m = trailer_is.meets in
          let z : offset_of l - 0 ≡ offset_of l = omega arith in
          (entries_bytes_lem (count_of l) 0 (offset_of l) (omega arith) entries_are).1 ∙ ap (λ (k : ℕ). take k l) z

      -- the last eight bytes
      trailer_bytes_lem : log_trailer E (offset_of l) (count_of l) ≡ drop (offset_of l + card_size) l
      trailer_bytes_lem =
          let t = trailer_is in
          let m = t.meets in
          let a : ℕ = offset_of l + card_size in
          let e₈ : length l - trailer_size ≡ a = omega arith in
          let e₄ : length l - 4 ≡ a + 4 = omega arith in
          let e₂ : length l - 2 ≡ a + 4 + 2 = omega arith in
          let e₁ : length l - 1 ≡ a + 4 + 2 + 1 = omega arith in
          let four : bytes_of 4 (offset_of l) ≡ take 4 (drop a l) =
          bytes_number 4 l (length l - trailer_size) bytes (omega arith) ∙ ap (λ (k : ℕ). take 4 (drop k l)) e₈ in
          let two : bytes_of 2 (count_of l) ≡ take 2 (drop (a + 4) l) =
          bytes_number 2 l (length l - 4) bytes (omega arith) ∙ ap (λ (k : ℕ). take 2 (drop k l)) e₄ in
          let end₁ : E.last ∷ [] ≡ take 1 (drop (a + 4 + 2 + 1) l) =
          ap (λ (x : ℕ). x ∷ []) (sym t.second ∙ ap (at l) e₁) ∙ cons_take l (a + 4 + 2 + 1) 0 (omega arith) in
          let end₂ : 0x4C ∷ E.last ∷ [] ≡ take 2 (drop (a + 4 + 2) l) =
          (λ i. (sym t.first ∙ ap (at l) e₂) i ∷ end₁ i) ∙ cons_take l (a + 4 + 2) 1 (omega arith) in
          let d : length (drop a l) ≤ 8 = let g = length-drop a l in omega arith in
          (λ i. four i ++ (two i ++ end₂ i))
          ∙ ap (λ (k : List ℕ). take 4 (drop a l) ++ k) (side_by_side l (a + 4) 2 2) ∙ side_by_side l a 4 4 ∙ take_all 8 (drop a l) d

      pub laid_out : LaidOut E entries_of card_of l
      laid_out =
          let t = trailer_is in
          let m = t.meets in
          let o : ℕ = offset_of l in
          let n : length entries_of ≡ count_of l = parsed_length (count_of l) l 0 in
          let e : length (entries_bytes E entries_of) ≡ o = ap length front_bytes ∙ length-take-le o l (omega arith) in
          let d : drop card_size (drop o l) ≡ log_trailer E (length (entries_bytes E entries_of)) (length entries_of) =
          drop-drop card_size o l ∙ sym trailer_bytes_lem ∙ (λ i. log_trailer E (sym e i) (sym n i)) in
          record {
            few = rw n t.few;
            fit = all_fit (count_of l) 0 o (omega arith) entries_are;
            long = length-take-le card_size (drop o l) (let g = length-drop o l in omega arith);
            stage = rw (get_or-take card_size (drop o l) fuse_at 0 (omega arith), get_or-drop o l fuse_at 0) t.stage;
            staging = staging_same at88sc1608 (drop o l) card_of (λ j p q. get_or-take card_size (drop o l) j 0 (omega arith)) ∙ t.staging;
            same =
                sym (take-append-drop o l) ∙ ap (λ (k : List ℕ). take o l ++ k) (sym (take-append-drop card_size (drop o l)))
                ∙ (λ i. sym front_bytes i ++ (card_of ++ d i));
          }

-- under any ending, and under that of every log
pub exactly_as : (E : Ending) (l : List ℕ) → Bytes l → (valid_as E l ≡ true) ↔ ((es : List Entry) × (card : List ℕ) × LaidOut E es card l)
exactly_as E l b = (λ v. (entries_of E l b v, card_of E l b v, laid_out E l b v), λ w. written_well E w.0 w.1 l w.2)

pub exactly : (l : List ℕ) → Bytes l → (valid l ≡ true) ↔ ((es : List Entry) × (card : List ℕ) × LaidOut zoned es card l)
exactly = exactly_as zoned

-- bytes that are laid out in no way are no log
pub not_laid : (l : List ℕ) → Bytes l → ((es : List Entry) (card : List ℕ) → LaidOut zoned es card l → ⊥) → (k : ℕ) → find l k ≡ missing not_a_log
unfolding find
not_laid l b none k = go (valid l) refl
  where
    go : (t : Bool) → valid l ≡ t → find l k ≡ missing not_a_log
    go true e = let w = (exactly l b).0 e in absurd (none w.0 w.1 w.2)
    go false e = rw e

-- no other last byte is taken
pub ending_other : (l : List ℕ) (k : ℕ) → (at l (length l - 1) ≡ 0x50 → ⊥) → find l k ≡ missing not_a_log
unfolding find valid_as trailer_ok
ending_other l k ne = rw (ne_eqb (at l (length l - 1)) 0x50 ne, and_false (eqb (at l (length l - 2)) 0x4C), and_false (leb least_log (length l)))
