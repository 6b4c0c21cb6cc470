-- The check of a log, from what the tests of the code found, in their order.
use Prim.Native.Nat.{ℕ, zero, suc, ◌+◌, ◌-◌, ◌≤◌, ◌<◌}
use mathlib.Core.Bool.{Bool, true, false, cond, ◌&&◌, ◌||◌, true≢false}
use mathlib.Core.List.{List}
use mathlib.Core.Path.{◌≡◌, refl, sym, ap, ◌∙◌}
use native.Mathlib.Omega.{arith}
use borrow.Author.Tests.{le-leb, lt-leb, lt-ltb, le-ltb, ltb-true, ltb-false, eq-eqb, ne_eqb}
use lib.Dec.{ltb, leb, eqb}
use lib.ListN.{length, drop}
use Rattle.model.specs.Sizes.{fuse_at, least_log, most_records}
use Rattle.model.specs.Lists.{at}
use Rattle.laws.specs.Tables.{tests_at}
use Rattle.model.specs.Log.{zoned, names_zone, ignored_kind, entry_fits, zone_fits}
use Rattle.model.specs.LogCheck.{length_at, response_at, next_entry, entry_ok, entries_ok, headers_read, entry_place, count_of, offset_of, trailer_ok}
use Rattle.laws.specs.EntryLaws.{header_least, header_four, header_three}
use Rattle.properties.specs.LogLaws.{Entered, entered, entry_well}
use Rattle.model.specs.Record.{known, length_fits}
use Rattle.model.specs.Single.{is_fuse_byte, staging_fits}
use Rattle.laws.specs.KindLaws.{known_within}
use Rattle.session_log.specs.Scan.{response_of, HeaderRead, Scanned}
use Rattle.session_log.specs.declared.check.Place.{Place}
use Rattle.std.specs.Prelude.{Option, Some, None, Ok, Err}

-- ---- the kind byte and the response's length of an entry

pub ignored_range : (k : ℕ) → k < 256 → (leb 130 k && leb k 143) ≡ ignored_kind k
ignored_range k h = tests_at (λ n. leb 130 n && leb n 143) ignored_kind 256 refl k h

or_false : (t : Bool) → (t || false) ≡ t
or_false true = refl
or_false false = refl

module _ (k n : ℕ) (ok : Bool) (test : ok ≡ known k) where
  pub fits_known : (fits : Bool) → ok ≡ true → fits ≡ length_fits k n → fits ≡ entry_fits k n
  unfolding entry_fits
  fits_known fits t e =
      let w = known_within k (sym test ∙ t) in
      rw (← test, t, lt-leb 128 k (omega arith)) (e ∙ sym (or_false (length_fits k n)))

  pub fits_ignored : (ignored fits : Bool) → ok ≡ false → ignored ≡ ignored_kind k → fits ≡ (ignored && eqb n 0) → fits ≡ entry_fits k n
  unfolding entry_fits
  fits_ignored ignored fits t e q = rw (← test, t) (q ∙ ap (λ (t : Bool). t && eqb n 0) e)

-- ---- a header

-- the zone that is named is one of the eight, and the response begins behind three bytes, or four where it is named
pub record Begun (l : List ℕ) (i from : ℕ) : Type 0 where
  pub zone : zone_fits zoned (at l i) (at l (i + 3)) ≡ true
  pub begins : from ≡ response_at zoned l i

module _ (l : List ℕ) (i last : ℕ) where
  none_read : (Entered zoned l i last → ⊥) → HeaderRead l i last None
  none_read bad = record { well = go (entry_ok zoned l i last) refl; place = tt }
    where
      go : (t : Bool) → entry_ok zoned l i last ≡ t → false ≡ t
      go true e = absurd (bad (entered zoned l i last e))
      go false e = refl

  module _ (named : Bool) (names : named ≡ names_zone (at l i)) where
    module _ (t : named ≡ true) where
      zone_is : zone_fits zoned (at l i) (at l (i + 3)) ≡ leb (at l (i + 3)) 7
      unfolding zone_fits
      zone_is = rw (sym names ∙ t)

      pub bad_zone : 7 < at l (i + 3) → HeaderRead l i last None
      bad_zone h = none_read (λ w. true≢false (sym w.zone ∙ zone_is ∙ lt-leb _ _ h))

      pub begun_named : at l (i + 3) ≤ 7 → (from : ℕ) → from ≡ i + 4 → Begun l i from
      begun_named h from e = record { zone = zone_is ∙ le-leb _ _ h; begins = e ∙ ap (λ (n : ℕ). i + n) (header_four zoned (at l i) named names t) }

    module _ (t : named ≡ false) where
      unnamed_fits : zone_fits zoned (at l i) (at l (i + 3)) ≡ true
      unfolding zone_fits
      unnamed_fits = rw (sym names ∙ t)

      pub begun_unnamed : (from : ℕ) → from ≡ i + 3 → Begun l i from
      begun_unnamed from e = record { zone = unnamed_fits; begins = e ∙ ap (λ (n : ℕ). i + n) (header_three zoned (at l i) named names t) }

  module _ (n from : ℕ) (long : n ≡ length_at l i) (b : Begun l i from) where
    pub beyond : last < from + n → HeaderRead l i last None
    beyond h = none_read (λ w. let e = b.begins in let m = w.next in let z : ⊥ = omega arith in z)

    module _ (ok : Bool) (fits : ok ≡ entry_fits (at l i) n) where
      fits_is : ok ≡ entry_fits (at l i) (length_at l i)
      fits_is = fits ∙ ap (entry_fits (at l i)) long

      pub misfit : ok ≡ false → HeaderRead l i last None
      misfit t = none_read (λ w. true≢false (sym w.fits ∙ sym fits_is ∙ t))

      pub well_read : from + n ≤ last → ok ≡ true → HeaderRead l i last (Some (record { from = from; length = n }))
      well_read h t =
          let e = b.begins in
          let m = header_least zoned (at l i) in
          record {
            well = sym (entry_well zoned l i last (record { header = omega arith; fits = sym fits_is ∙ t; zone = b.zone; next = omega arith }));
            place = λ j. record { from = b.begins j; length = long j };
          }

-- ---- the walk over the entries

-- the place of one entry more
place_next : (k : ℕ) (l : List ℕ) (i : ℕ) → entry_place zoned (suc k) l i ≡ next_entry zoned l (entry_place zoned k l i)
place_next zero l i = refl
place_next (suc k) l i = place_next k l (next_entry zoned l i)

-- where the response of the entry with a number lies, once as many entries are passed
abbrev pub kept_of : List ℕ → ℕ → ℕ → Option Place
kept_of l number i = cond (ltb number i) (Some (response_of l (entry_place zoned number l 0))) None

-- what is known before entry i of count: the rest decides, each header so far was counted, and the response asked for is kept once it is passed
pub record Walking (l : List ℕ) (count end number i place headers : ℕ) (kept : Option Place) : Type 0 where
  pub few : i ≤ count
  pub within : place ≤ end
  pub rest : entries_ok zoned (count - i) l place end ≡ entries_ok zoned count l 0 end
  pub each : headers ≡ i
  pub counted : headers + headers_read zoned (count - i) l place end ≡ headers_read zoned count l 0 end
  pub here : place ≡ entry_place zoned i l 0
  pub keeps : kept ≡ kept_of l number i

pub walking_start : (l : List ℕ) (count end number : ℕ) → Walking l count end number 0 0 0 None
walking_start l count end number =
    let z : count - 0 ≡ count = omega arith in
    record {
      few = omega arith;
      within = omega arith;
      rest = ap (λ (n : ℕ). entries_ok zoned n l 0 end) z;
      each = refl;
      counted = ap (λ (n : ℕ). 0 + headers_read zoned n l 0 end) z ∙ (omega arith);
      here = refl;
      keeps = rw (le-ltb number 0 (omega arith));
    }

module _ (l : List ℕ) (count end number i place headers : ℕ) (kept : Option Place) (p : Walking l count end number i place headers kept)
    (less : i < count) where
  one_fewer : count - i ≡ suc (count - (i + 1))
  one_fewer = omega arith

  rest_is : entries_ok zoned count l 0 end ≡ (entry_ok zoned l place end && entries_ok zoned (count - (i + 1)) l (next_entry zoned l place) end)
  rest_is = sym p.rest ∙ ap (λ (n : ℕ). entries_ok zoned n l place end) one_fewer

  counted_is : headers_read zoned count l 0 end
      ≡ headers + suc (cond (entry_ok zoned l place end) (headers_read zoned (count - (i + 1)) l (next_entry zoned l place) end) 0)
  counted_is = sym p.counted ∙ ap (λ (n : ℕ). headers + headers_read zoned n l place end) one_fewer

  module _ (from n : ℕ) (read : HeaderRead l place end (Some (record { from = from; length = n }))) where
    past : from + n ≡ next_entry zoned l place
    past = ap (λ (q : Place). q.from + q.length) read.place

    pub entry_within : from + n ≤ end
    entry_within = rw past (entered zoned l place end (sym read.well)).next

    others : headers_read zoned (count - (i + 1)) l (from + n) end ≡ headers_read zoned (count - (i + 1)) l (next_entry zoned l place) end
    others = ap (λ (m : ℕ). headers_read zoned (count - (i + 1)) l m end) past

    total : headers_read zoned count l 0 end ≡ headers + suc (headers_read zoned (count - (i + 1)) l (next_entry zoned l place) end)
    total = counted_is ∙ rw (sym read.well)

    walking_next : (kept' : Option Place) → kept' ≡ kept_of l number (i + 1) → Walking l count end number (i + 1) (from + n) (headers + 1) kept'
    walking_next kept' k =
        let s : suc i ≡ i + 1 = omega arith in
        let o = others in
        let t = total in
        record {
          few = omega arith;
          within = entry_within;
          rest = ap (λ (m : ℕ). entries_ok zoned (count - (i + 1)) l m end) past ∙ sym (rest_is ∙ rw (sym read.well));
          each = let e = p.each in omega arith;
          counted = omega arith;
          here = past ∙ ap (next_entry zoned l) p.here ∙ sym (place_next i l 0) ∙ ap (λ (m : ℕ). entry_place zoned m l 0) s;
          keeps = k;
        }

    pub walking_found : i ≡ number → Walking l count end number (i + 1) (from + n) (headers + 1) (Some (record { from = from; length = n }))
    walking_found e =
        walking_next _
        (ap Some (read.place ∙ ap (response_of l) (p.here ∙ ap (λ (m : ℕ). entry_place zoned m l 0) e)) ∙ rw (lt-ltb number (i + 1) (omega arith)))

    pub walking_on : (i ≡ number → ⊥) → Walking l count end number (i + 1) (from + n) (headers + 1) kept
    walking_on e = walking_next kept (p.keeps ∙ ap (λ (t : Bool). cond t (Some (response_of l (entry_place zoned number l 0))) None) same)
      where
        go : (t : Bool) → ltb number i ≡ t → t ≡ ltb number (i + 1)
        go true q = sym (lt-ltb number (i + 1) (let h = ltb-true number i q in omega arith))
        go false q = sym (le-ltb number (i + 1) (let h = ltb-false number i q in omega arith))

        same : ltb number i ≡ ltb number (i + 1)
        same = go (ltb number i) refl

  module _ (read : HeaderRead l place end None) where
    pub walking_bad : Scanned l count end number (Err (record { headers = headers + 1 }))
    walking_bad =
        let total : headers_read zoned count l 0 end ≡ headers + suc 0 = counted_is ∙ rw (sym read.well) in
        record { all = sym (rest_is ∙ rw (sym read.well)); counted = omega arith; place = tt }

module _ (l : List ℕ) (count end number i place headers : ℕ) (kept : Option Place) (p : Walking l count end number i place headers kept) (h : count ≤ i) where
  none_left : 0 ≡ count - i
  none_left = omega arith

  all_is : eqb place end ≡ entries_ok zoned count l 0 end
  all_is = ap (λ (n : ℕ). entries_ok zoned n l place end) none_left ∙ p.rest

  counted_all : headers ≡ headers_read zoned count l 0 end
  counted_all = (let q : headers ≡ headers + 0 = omega arith in q) ∙ ap (λ (n : ℕ). headers + headers_read zoned n l place end) none_left ∙ p.counted

  pub walking_short : (place ≡ end → ⊥) → Scanned l count end number (Err (record { headers = headers }))
  walking_short e = record { all = sym (ne_eqb _ _ e) ∙ all_is; counted = counted_all; place = tt }

  pub walking_done : place ≡ end → Scanned l count end number (Ok (record { headers = headers; place = kept }))
  walking_done e =
      let q : i ≡ count = let f = p.few in omega arith in
      record { all = sym (eq-eqb _ _ e) ∙ all_is; counted = counted_all; place = p.keeps ∙ ap (kept_of l number) q }

-- ---- the trailer

module _ (l : List ℕ) where
  pub too_short : length l < least_log → false ≡ trailer_ok zoned l
  unfolding trailer_ok
  too_short h = rw (lt-leb _ _ h)

  module _ (long : least_log ≤ length l) where
    pub no_4_c : (at l (length l - 2) ≡ 76 → ⊥) → false ≡ trailer_ok zoned l
    unfolding trailer_ok
    no_4_c n = rw (le-leb _ _ long, ne_eqb _ _ n)

    module _ (first : at l (length l - 2) ≡ 76) where
      pub no_50 : (at l (length l - 1) ≡ 80 → ⊥) → false ≡ trailer_ok zoned l
      unfolding trailer_ok
      no_50 n = rw (le-leb _ _ long, eq-eqb _ _ first, ne_eqb _ _ n)

      module _ (count : ℕ) (second : at l (length l - 1) ≡ 80) (counted : count ≡ count_of l) where
        pub many : most_records < count → false ≡ trailer_ok zoned l
        unfolding trailer_ok
        many h = rw (le-leb _ _ long, eq-eqb _ _ first, eq-eqb _ _ second, ← counted, lt-leb _ _ h)

        module _ (offset : ℕ) (few : count ≤ most_records) (points : offset ≡ offset_of l) where
          pub no_meeting : (offset + least_log ≡ length l → ⊥) → false ≡ trailer_ok zoned l
          unfolding trailer_ok
          no_meeting n = rw (le-leb _ _ long, eq-eqb _ _ first, eq-eqb _ _ second, ← counted, le-leb _ _ few, ← points, ne_eqb _ _ n)

          module _ (stage : Bool) (meets : offset + least_log ≡ length l) (fuses : stage ≡ is_fuse_byte (at l (offset + fuse_at))) where
            -- what is left to be judged
            behind : trailer_ok zoned l ≡ (stage && staging_fits (drop offset l))
            unfolding trailer_ok
            behind =
                rw (le-leb _ _ long, eq-eqb _ _ first, eq-eqb _ _ second, ← counted, le-leb _ _ few, ← points, eq-eqb _ _ meets, ← fuses)

            pub no_stage : stage ≡ false → stage ≡ trailer_ok zoned l
            no_stage t = rw (behind, t)

            pub staging_decides : (staging : Bool) → stage ≡ true → staging ≡ staging_fits (drop offset l) → staging ≡ trailer_ok zoned l
            staging_decides staging t e = rw (behind, t) e
