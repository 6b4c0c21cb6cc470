-- The mender's search in the session reader's words: a count is that of records that are read, and what is found is the smallest start.
use Prim.Native.Nat.{ℕ, zero, suc, ◌+◌, ◌-◌, ◌≤◌, ◌<◌}
use Rattle.std.specs.Prelude.{Bool, cond, List, [], ◌∷◌, ltb, length}
use Rattle.std.proofs.Math.Bool.{true, false}
use Rattle.std.proofs.Math.Path.{◌≡◌, refl}
use Rattle.std.proofs.Common.{sym, ap, ◌∙◌}
use native.Mathlib.Omega.{arith}
use borrow.Author.Tests.{eqb-true, eqb-false, ltb-true, ltb-false}
use Rattle.std.proofs.Math.Dec.{eqb}
use Rattle.model.specs.Sizes.{card_size, most_records}
use Rattle.model.specs.Instruction.{Instruction}
use Rattle.model.specs.Call.{Decoded, refused, whole}
use Rattle.model.specs.Reader.{records_end, next_of}
use Rattle.model.specs.Session.{all, on_decoded, more, read_from}
use Rattle.model.specs.Mender.{another, count_from, Search, nowhere, found, sooner, start_from, smallest_start}
use Rattle.laws.specs.MenderLaws.{count_last, count_next}
use Rattle.laws.specs.ReaderLaws.{next_within}
use Rattle.properties.specs.SessionLaws.{read_first, read_none}
use Rattle.properties.specs.MenderConditions.{Parses, Smallest, NoStart}

module _ (s : List ℕ) where
  abbrev end : ℕ
  end = records_end (length s)

  -- ---- counts and records that are read

  record Counted (n i k : ℕ) : Type 0 where
    few : k ≤ n
    instructions : List Instruction
    reads : read_from k s i ≡ all instructions end

  count_reads : (n i k : ℕ) → count_from n s i ≡ suc k → Counted n i (suc k)
  unfolding count_from
  count_reads zero i k e = absurd (let z : ⊥ = omega arith in z)
  count_reads (suc n) i k e = go (λ j l q. count_reads n j l q) (next_of s i) refl e
    where
      behind : (c : Instruction) (m l : ℕ) → next_of s i ≡ whole c m → Counted n (i + m) l → Counted (suc n) i (suc l)
      behind c m l q r =
          record { few = let h = r.few in omega arith; instructions = c ∷ r.instructions; reads = rw q (ap (more c) r.reads) }

      on_count : ((j l : ℕ) → count_from n s j ≡ suc l → Counted n j (suc l)) → (c : Instruction) (m x : ℕ) → next_of s i ≡ whole c m
          → count_from n s (i + m) ≡ x → another x ≡ suc k → Counted (suc n) i (suc k)
      on_count ih c m zero q p e = absurd (let z : ⊥ = omega arith in z)
      on_count ih c m (suc l) q p e =
          let w : suc l ≡ k = omega arith in
          rw (← w) (behind c m (suc l) q (ih (i + m) l p))

      on_end : ((j l : ℕ) → count_from n s j ≡ suc l → Counted n j (suc l)) → (c : Instruction) (m : ℕ) → next_of s i ≡ whole c m
          → (t : Bool) → eqb (i + m) end ≡ t → cond t 1 (another (count_from n s (i + m))) ≡ suc k → Counted (suc n) i (suc k)
      on_end ih c m q true t e =
          let w : 0 ≡ k = omega arith in
          rw (← w) (record { few = omega arith; instructions = c ∷ []; reads = rw q (ap (all (c ∷ [])) (eqb-true _ _ t)) })
      on_end ih c m q false t e = on_count ih c m (count_from n s (i + m)) q refl e

      go : ((j l : ℕ) → count_from n s j ≡ suc l → Counted n j (suc l)) → (d : Decoded Instruction) → next_of s i ≡ d
          → on_decoded d (λ r. 0) (λ k m. cond (eqb (i + m) end) 1 (another (count_from n s (i + m)))) ≡ suc k → Counted (suc n) i (suc k)
      go ih (refused r) q e = absurd (let z : ⊥ = omega arith in z)
      go ih (whole c m) q e = on_end ih c m q (eqb (i + m) end) refl e

  reads_count : (k i : ℕ) (ks : List Instruction) → read_from (suc k) s i ≡ all ks end → (n : ℕ) → k ≤ n → count_from (suc n) s i ≡ suc k
  reads_count zero i ks e n h =
      let f = read_first 0 s i ks end e in
      count_last s i f.command f.size f.next n (read_none s (i + f.size) f.others end f.rest).1
  reads_count (suc k) i ks e zero h = absurd (let z : ⊥ = omega arith in z)
  reads_count (suc k) i ks e (suc n) h =
      let f = read_first (suc k) s i ks end e in
      let g = read_first k s (i + f.size) f.others end f.rest in
      let w = next_within s (i + f.size) g.command g.size g.next in
      count_next s i f.command f.size f.next (suc n) (λ q. let z : ⊥ = omega arith in z)
      ∙ ap another (reads_count k (i + f.size) f.others f.rest n (omega arith))

  -- ---- what parses

  pub count_parses : (i k : ℕ) → count_from most_records s i ≡ suc k → Parses s i (suc k)
  count_parses i k e =
      let c = count_reads most_records i k e in
      record { some = omega arith; few = c.few; instructions = c.instructions; reads = c.reads }

  pub parses_count : (i k : ℕ) → Parses s i k → count_from most_records s i ≡ k
  parses_count i zero p = absurd (let h = p.some in let z : ⊥ = omega arith in z)
  parses_count i (suc k) p = let h = p.few in reads_count k i p.instructions p.reads 4095 (omega arith)

  -- a start that parses lies before the trailer
  pub parses_below : (i k : ℕ) → Parses s i k → i < end
  parses_below i zero p = absurd (let h = p.some in let z : ⊥ = omega arith in z)
  parses_below i (suc k) p =
      let f = read_first k s i p.instructions end p.reads in
      let w = next_within s i f.command f.size f.next in
      omega arith

  -- ---- the search

  record First (n i j k : ℕ) : Type 0 where
    from : i ≤ j
    parses : Parses s j k
    least : (p l : ℕ) → i ≤ p → p < j → Parses s p l → ⊥

  unparsed : (i l : ℕ) → count_from most_records s i ≡ 0 → Parses s i l → ⊥
  unparsed i l e p = let c = parses_count i l p in let h = p.some in omega arith

  start_first : (n i j k : ℕ) → start_from n s i ≡ found j k → First n i j k
  unfolding start_from
  start_first zero i j k e = absurd (let z : ◌≡◌ {A = ℕ} 0 1 = cc in let w : ⊥ = omega arith in w)
  start_first (suc n) i j k e = go (λ q. start_first n (i + 1) j k q) (count_from most_records s i) refl e
    where
      go : (start_from n s (i + 1) ≡ found j k → First n (i + 1) j k) → (c : ℕ) → count_from most_records s i ≡ c
          → sooner i c (start_from n s (i + 1)) ≡ found j k → First (suc n) i j k
      go ih zero q e =
          let f = ih e in
          let h = f.from in
          record { from = omega arith; parses = f.parses; least = λ p l a b r. on_first f p l (eqb p i) refl a b r }
        where
          on_first : First n (i + 1) j k → (p l : ℕ) (t : Bool) → eqb p i ≡ t → i ≤ p → p < j → Parses s p l → ⊥
          on_first f p l true t a b r = unparsed p l (ap (count_from most_records s) (eqb-true p i t) ∙ q) r
          on_first f p l false t a b r = let w = eqb-false p i t in f.least p l (omega arith) b r
      go ih (suc c) q e =
          let a : i ≡ j = cc in
          let b : suc c ≡ k = cc in
          rw (← a, ← b) (record { from = omega arith; parses = count_parses i c q; least = λ p l x y r. let z : ⊥ = omega arith in z })

  start_none : (n i : ℕ) → start_from n s i ≡ nowhere → (p l : ℕ) → i ≤ p → p < i + n → Parses s p l → ⊥
  unfolding start_from
  start_none zero i e p l a b r = let z : ⊥ = omega arith in z
  start_none (suc n) i e p l a b r = go (λ q x y. start_none n (i + 1) q p l x y r) (count_from most_records s i) refl e
    where
      on_first : (start_from n s (i + 1) ≡ nowhere → i + 1 ≤ p → p < i + 1 + n → ⊥) → count_from most_records s i ≡ 0 → start_from n s (i + 1) ≡ nowhere
          → (t : Bool) → eqb p i ≡ t → ⊥
      on_first ih q e true t = unparsed p l (ap (count_from most_records s) (eqb-true p i t) ∙ q) r
      on_first ih q e false t = let w = eqb-false p i t in ih e (omega arith) (omega arith)

      go : (start_from n s (i + 1) ≡ nowhere → i + 1 ≤ p → p < i + 1 + n → ⊥) → (c : ℕ) → count_from most_records s i ≡ c
          → sooner i c (start_from n s (i + 1)) ≡ nowhere → ⊥
      go ih zero q e = on_first ih q e (eqb p i) refl
      go ih (suc c) q e = let z : ◌≡◌ {A = ℕ} 0 1 = cc in omega arith

  pub search_smallest : (i k : ℕ) → smallest_start s ≡ found i k → Smallest s i k
  search_smallest i k e =
      let f = start_first (end - card_size) card_size i k e in
      record { low = f.from; parses = f.parses; least = f.least }

  pub search_none : smallest_start s ≡ nowhere → NoStart s
  search_none e i k h p = let b = parses_below i k p in start_none (end - card_size) card_size e i k h (omega arith) p

  -- there is one smallest start, and one count
  pub one_smallest : (i k j l : ℕ) → Smallest s i k → Smallest s j l → (i ≡ j) × (k ≡ l)
  one_smallest i k j l a b = go (ltb i j) refl (ltb j i) refl
    where
      go : (t : Bool) → ltb i j ≡ t → (u : Bool) → ltb j i ≡ u → (i ≡ j) × (k ≡ l)
      go true p u q = absurd (b.least i k a.low (ltb-true i j p) a.parses)
      go false p true q = absurd (a.least j l b.low (ltb-true j i q) b.parses)
      go false p false q =
          let h = ltb-false i j p in
          let g = ltb-false j i q in
          let e : i ≡ j = omega arith in
          (e, sym (parses_count i k a.parses) ∙ ap (count_from most_records s) e ∙ parses_count j l b.parses)

  pub smallest_found : (i k : ℕ) → Smallest s i k → smallest_start s ≡ found i k
  smallest_found i k a = go (smallest_start s) refl
    where
      go : (x : Search) → smallest_start s ≡ x → x ≡ found i k
      go nowhere e = absurd (search_none e i k a.low a.parses)
      go (found j l) e = let o = one_smallest j l i k (search_smallest j l e) a in λ t. found (o.0 t) (o.1 t)
