-- Laws of reading a session's records and of running them.
use Rattle.std.specs.Prelude.{ℕ, zero, suc, ◌+◌, ◌-◌, ◌≤◌, ◌<◌, Bool, true, false, cond, not, ◌&&◌, ◌||◌, List, [], ◌∷◌, ◌≡◌, refl, ltb, leb, eqb, length, take, drop}
use Rattle.std.proofs.Common.{sym, ap, ◌∙◌, arith, leb-true, le-leb, length-append}
use Rattle.std.proofs.lemmas.Bool.{eqb-false}
use Rattle.model.specs.Lists.{at, Bytes}
use Rattle.laws.specs.BoolLaws.{and_left, and_right}
use Rattle.model.specs.State.{State}
use Rattle.model.specs.Busy.{ignores}
use Rattle.model.specs.Instruction.{Instruction, kind_of}
use Rattle.model.specs.Call.{Powered, Decoded, refused, whole}
use Rattle.model.specs.At88sc1608.{at88sc1608}
use Rattle.laws.specs.BusyLaws.{full_answer, full_answer_lem, given_answer, given_answer_lem, given_most, ignored_acts}
use Rattle.laws.specs.EntryLaws.{full_entry, answered_header}
use Rattle.model.specs.Log.{zoned, names_zone, header_length, entry_bytes, entries_bytes, entry_fits, zone_fits, AllFit}
use Rattle.model.specs.Reader.{records_end, next_of}
use Rattle.laws.specs.ReaderLaws.{next_within}
use Rattle.model.specs.Record.{kinds, known, in_range, data_length, made, data_at, record_length, decode, length_fits}
use Rattle.laws.specs.KindLaws.{each_kind}
use Rattle.laws.specs.RecordLaws.{accepted, Ranged}
use Rattle.laws.specs.Sane.{Good, act_length, good_after, zone_below}
use Rattle.model.specs.Single.{answered_kind}
use Rattle.model.specs.Session.{Read, stopped, all, on_decoded, more, read_from, logged, after, entries_of, end_of, full_entries}
use Rattle.properties.specs.AcceptedSession.{Every}
use Rattle.properties.specs.Written.{length_entry}

-- ---- one record

-- a decoder's refusal is not 0
pub refusal_nonzero : (part : List ℕ) (n : ℕ) → decode part ≡ refused n → n ≡ 0 → ⊥
unfolding decode
refusal_nonzero part n e z =
    go (eqb (length part) 0) (not (known (at part 0))) (ltb (length part) (data_at part))
    (not (in_range (at part 0) (at part 1) (at part 2))) (ltb (length part) (record_length part)) _ _ e
  where
    go : (a b c d f : Bool) (k : Instruction) (m : ℕ)
        → cond a (refused 8) (cond b (refused 6) (cond c (refused 8) (cond d (refused 7) (cond f (refused 8) (whole k m))))) ≡ refused n → ⊥
    go true b c d f k m e = let q : 8 ≡ n = cc in omega arith
    go false true c d f k m e = let q : 6 ≡ n = cc in omega arith
    go false false true d f k m e = let q : 8 ≡ n = cc in omega arith
    go false false false true f k m e = let q : 7 ≡ n = cc in omega arith
    go false false false false true k m e = let q : 8 ≡ n = cc in omega arith
    go false false false false false k m e = let q : ◌≡◌ {A = ℕ} 0 1 = cc in omega arith

-- an answer in full is as long as the log takes for its kind
abbrev pub Logs : Instruction → Type 0
Logs k = (known (kind_of k) ≡ true) × (length_fits (kind_of k) (full_answer at88sc1608 k) ≡ true)

made_logs : (a n : ℕ) (xs : List ℕ) → n < 256 → (kind : ℕ) → known kind ≡ true → in_range kind a n ≡ true → Logs (made kind a n xs)
unfolding kinds in_range made length_fits
made_logs a n xs h =
    each_kind (λ kind. in_range kind a n ≡ true → Logs (made kind a n xs))
    (λ r. (refl, refl))
    (λ r. (refl, refl))
    (λ r. (refl, refl))
    (λ r. (refl, read_count (eqb n 0) refl))
    (λ r. (refl, refl))
    (λ r. (refl, read_configuration_count r))
    (λ r. (refl, refl))
    (λ r. (refl, refl))
    (λ r. (refl, refl))
    (λ r. (refl, refl))
    (λ r. (refl, refl))
    (λ r. (refl, refl))
    (λ r. (refl, refl))
    (λ r. (refl, refl))
    (λ r. (refl, refl))
    (λ r. (refl, refl))
  where
    read_configuration_count : (leb a 127 && (leb 1 n && leb (a + n) 128)) ≡ true → (leb 1 n && leb n 128) ≡ true
    read_configuration_count r =
        let s = and_right (leb a 127) _ r in
        let w = leb-true (a + n) 128 (and_right (leb 1 n) _ s) in
        rw (and_left (leb 1 n) _ s, le-leb n 128 (omega arith))

    read_count : (t : Bool) → eqb n 0 ≡ t → (leb 1 (cond t 256 n) && leb (cond t 256 n) 256) ≡ true
    read_count true e = refl
    read_count false e = let ne = eqb-false n 0 e in rw (le-leb 1 n (omega arith), le-leb n 256 (omega arith))

pub decode_logs : (part : List ℕ) → Bytes part → (k : Instruction) (n : ℕ) → decode part ≡ whole k n → Logs k
decode_logs part b k n e =
    let a = accepted part k n e in
    let xs : List ℕ = take (data_length (at part 0) (at part 2)) (drop (data_at part) part) in
    rw a.command at (made_logs (at part 1) (at part 2) xs (b 2) (at part 0) a.kind a.fields)

-- and what is logged is taken, of an ignored record too
or_true : (t : Bool) → (t || true) ≡ true
or_true true = refl
or_true false = refl

logged_fits : (c : List ℕ) (s : State) (k : Instruction) → Logs k → entry_fits (answered_kind c s k) (given_answer at88sc1608 c s k) ≡ true
unfolding entry_fits
logged_fits c s k l = go (ignores at88sc1608 c s k) refl
  where
    marked : kind_of k + 128 - 128 ≡ kind_of k
    marked = omega arith

    go : (t : Bool) → ignores at88sc1608 c s k ≡ t → entry_fits (cond t (kind_of k + 128) (kind_of k)) (cond t 0 (full_answer at88sc1608 k)) ≡ true
    go true e =
        rw (le-leb 128 (kind_of k + 128) (omega arith), marked, l.0, ignored_acts at88sc1608 c s k e)
        (or_true (known (kind_of k + 128) && length_fits (kind_of k + 128) 0))
    go false e = rw (l.0, l.1)

-- a zone that can be selected is taken
selected_fits : (kind z : ℕ) → z < 8 → zone_fits zoned kind z ≡ true
unfolding zone_fits
selected_fits kind z h = rw (le-leb z 7 (omega arith)) (or_true (not (names_zone kind)))

-- ---- the records of a session

-- the first of them, and the others behind it
pub record First (n : ℕ) (s : List ℕ) (i : ℕ) (ks : List Instruction) (j : ℕ) : Type 0 where
  pub command : Instruction
  pub size : ℕ
  pub others : List Instruction
  pub next : next_of s i ≡ whole command size
  pub list : ks ≡ command ∷ others
  pub rest : read_from n s (i + size) ≡ all others j

pub read_first : (n : ℕ) (s : List ℕ) (i : ℕ) (ks : List Instruction) (j : ℕ) → read_from (suc n) s i ≡ all ks j → First n s i ks j
read_first n s i ks j e = go (next_of s i) refl e
  where
    go₂ : (k : Instruction) (m : ℕ) (r : Read) → next_of s i ≡ whole k m → read_from n s (i + m) ≡ r → more k r ≡ all ks j → First n s i ks j
    go₂ k m (stopped x) q p e = absurd (let z : ◌≡◌ {A = ℕ} 0 1 = cc in let w : ⊥ = omega arith in w)
    go₂ k m (all ls x) q p e =
        let a : k ∷ ls ≡ ks = cc in
        let b : x ≡ j = cc in
        record { command = k; size = m; others = ls; next = q; list = sym a; rest = p ∙ ap (all ls) b }

    go : (d : Decoded Instruction) → next_of s i ≡ d → on_decoded d stopped (λ k m. more k (read_from n s (i + m))) ≡ all ks j → First n s i ks j
    go (refused r) q e = absurd (let z : ◌≡◌ {A = ℕ} 0 1 = cc in let w : ⊥ = omega arith in w)
    go (whole k m) q e = go₂ k m (read_from n s (i + m)) q refl e

pub read_none : (s : List ℕ) (i : ℕ) (ks : List Instruction) (j : ℕ) → read_from 0 s i ≡ all ks j → (ks ≡ []) × (i ≡ j)
read_none s i ks j e = (cc, cc)

pub read_count : (n : ℕ) (s : List ℕ) (i : ℕ) (ks : List Instruction) (j : ℕ) → read_from n s i ≡ all ks j → length ks ≡ n
read_count zero s i ks j e = rw (read_none s i ks j e).0
read_count (suc n) s i ks j e =
    let f = read_first n s i ks j e in
    rw f.list (ap suc (read_count n s (i + f.size) f.others j f.rest))

pub record Readings (P : Instruction → Type 0) (n : ℕ) (s : List ℕ) (ks : List Instruction) (j : ℕ) : Type 0 where
  pub number : length ks ≡ n
  pub within : j ≤ records_end (length s)
  pub every : Every P ks

-- what every decoded record has, all records that were read have
pub readings : (P : Instruction → Type 0) (s : List ℕ) → ((i : ℕ) (k : Instruction) (m : ℕ) → next_of s i ≡ whole k m → P k)
    → (n i : ℕ) (ks : List Instruction) (j : ℕ) → i ≤ records_end (length s) → read_from n s i ≡ all ks j → Readings P n s ks j
readings P s h zero i ks j l e =
    let q = read_none s i ks j e in
    rw q.0 (record { number = refl; within = let b = q.1 in omega arith; every = tt })
readings P s h (suc n) i ks j l e =
    let f = read_first n s i ks j e in
    let w = next_within s i f.command f.size f.next in
    let r = readings P s h n (i + f.size) f.others j w.1 f.rest in
    rw f.list (record { number = ap suc r.number; within = r.within; every = (h i f.command f.size f.next, r.every) })

-- ---- the run

-- what a good card and state become under instructions with fields in range
pub end_good : (ks : List Instruction) (m : Powered State) → Every Ranged ks → Good m.card m.state → Good (end_of ks m).card (end_of ks m).state
end_good [] m f g = g
end_good (k ∷ ks) m f g = end_good ks (after m k) f.1 (good_after m.card m.state k f.0 g)

pub entries_length : (ks : List Instruction) (m : Powered State) → length (entries_of ks m) ≡ length ks
entries_length [] m = refl
entries_length (k ∷ ks) m = ap suc (entries_length ks (after m k))

pub entries_fit : (ks : List Instruction) (m : Powered State) → Every Logs ks → Every Ranged ks → Good m.card m.state → AllFit zoned (entries_of ks m)
entries_fit [] m f r g = tt
entries_fit (k ∷ ks) m f r g = (
  record {
    response_fits = rw (given_answer_lem at88sc1608 m.card m.state k) (logged_fits m.card m.state k f.0);
    zone_fits_lem = selected_fits (answered_kind m.card m.state k) m.state.volatile.zone (zone_below m.card m.state g);
  },
  entries_fit ks (after m k) f.1 r.1 (good_after m.card m.state k r.0 g),
)

-- ---- lengths

pub end_length : (ks : List Instruction) (m : Powered State) → length (end_of ks m).card ≡ length m.card
end_length [] m = refl
end_length (k ∷ ks) m = end_length ks (after m k) ∙ act_length m.card m.state k

-- an entry is as long as its header, which ignoring does not change, and its instruction's answer
pub entry_length : (m : Powered State) (k : Instruction)
    → length (entry_bytes zoned (logged m k)) ≡ header_length zoned (kind_of k) + given_answer at88sc1608 m.card m.state k
entry_length m k =
    length_entry zoned (logged m k) ∙ (λ i. answered_header m.card m.state k i + given_answer_lem at88sc1608 m.card m.state k i)

-- the entries in full: their length depends on the instructions alone, and those that are written are not longer
abbrev pub full_total : List Instruction → ℕ
full_total [] = 0
full_total (k ∷ ks) = full_entry k + full_total ks

pub full_total_lem : (ks : List Instruction) (m : Powered State) → full_entries ks m ≡ full_total ks
full_total_lem [] m = refl
full_total_lem (k ∷ ks) m = λ i. header_length zoned (kind_of k) + full_answer_lem at88sc1608 m.card m.state k i + full_total_lem ks (after m k) i

pub entries_most : (ks : List Instruction) (m : Powered State) → length (entries_bytes zoned (entries_of ks m)) ≤ full_total ks
entries_most [] m = omega arith
entries_most (k ∷ ks) m =
    let a = length-append (entry_bytes zoned (logged m k)) (entries_bytes zoned (entries_of ks (after m k))) in
    let e = entry_length m k in
    let g = given_most at88sc1608 m.card m.state k in
    let r = entries_most ks (after m k) in
    omega arith
