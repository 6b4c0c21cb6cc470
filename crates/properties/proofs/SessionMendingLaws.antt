-- Of mended sessions: which refusal comes first, what an accepted call had and leaves, that a mended session passes its check, and what mending
-- depends on.
use Prim.Native.Nat.{ℕ, zero, suc, ◌+◌, ◌-◌, ◌≤◌, ◌<◌}
use Rattle.std.specs.Prelude.{Bool, true, false, not, ◌&&◌, ◌↔◌, ◌≡◌, ltb, length, take, drop, replicate}
use Rattle.std.proofs.Math.Bool.{cond}
use mathlib.Core.List.{List, [], ◌∷◌, ◌++◌}
use Rattle.std.proofs.Math.Path.{refl, ap}
use Rattle.std.proofs.Common.{sym, ◌∙◌, arith, leb-true, le-leb, le-ltb, ltb-true, ltb-false, length-append, take-append-drop, length-take-le, get_or-take, get_or-append-add, take_at, drop-drop, drop-cons}
use Rattle.std.proofs.lemmas.Bool.{not-false}
use Rattle.std.proofs.Math.Dec.{leb}
use Rattle.std.proofs.lemmas.List.{length-replicate}
use Rattle.std.proofs.Math.ListN.{get_or-append}
use Rattle.std.proofs.Math.Seq.{drop-length}
use Rattle.model.specs.Sizes.{card_size, fuse_at, least_session, greatest_session, most_records}
use Rattle.model.specs.Lists.{at, Bytes}
use Rattle.model.specs.Numbers.{bytes_of, number_at}
use Rattle.laws.specs.BoolLaws.{and_left, and_right}
use Rattle.laws.specs.NumberLaws.{bytes_number}
use Rattle.laws.specs.CallLaws.{clear}
use Rattle.model.specs.At88sc1608.{at88sc1608}
use Rattle.laws.specs.StagingLaws.{staging_same}
use Rattle.model.specs.Instruction.{Instruction}
use Rattle.model.specs.Reader.{records_end}
use Rattle.model.specs.Refusal.{session_length, fuse_byte, staging_bytes, no_start, no_space}
use Rattle.model.specs.Session.{start_of, count_of, wrong_length, wrong_fuses, wrong_staging, frame, run}
use Rattle.model.specs.Single.{is_fuse_byte, staging_fits}
use Rattle.model.specs.Writer.{Parts, trailer_bytes, session_bytes}
use Rattle.laws.specs.WriterLaws.{Writable}
use Rattle.model.specs.Mender.{Search, nowhere, found, smallest_start, Mended, mended_by, untrailed_refusal, searched, mend}
use Rattle.secrecy.specs.Secret.{in_zone, in_zone_or_passwords, AgreeOutside}
use Rattle.secrecy.specs.ReadPassword as read
use Rattle.secrecy.specs.Authentication as authentication
use Rattle.properties.specs.AcceptedSession.{Accepts}
use Rattle.properties.specs.Alike.{same_body}
use Rattle.properties.specs.AcceptedSessionLaws.{Framed, framed_well, well_framed, accepted_commands}
use Rattle.properties.specs.Conditions.{first}
use Rattle.properties.specs.ConditionsLaws.{Numbered, some}
use Rattle.properties.specs.MenderConditions.{NoneBelow, Smallest, NoStart, is_nowhere, mend_conditions, Passes, SameMending, MendedAlike}
use Rattle.properties.specs.MenderSearchLaws.{parses_below, search_smallest, search_none, smallest_found}
use Rattle.properties.specs.SameRecords.{SameBody, read_same, search_same}
use Rattle.properties.specs.SessionConditions.{log_length}
use Rattle.properties.specs.SessionPartsLaws.{ended_length, ended_start, ended_count, ended_first, ended_second, framed_passes}
use Rattle.properties.specs.SessionPartsLaws as parts_laws

-- ---- the refusals

pub mend_first : (s : List ℕ) → (mend s).refusal ≡ first (mend_conditions s) 0
unfolding mend untrailed_refusal
mend_first s = go (wrong_length s) (wrong_fuses s) (wrong_staging s)
  where
    on_search : (x : Search) → (mended_by s x).refusal ≡ cond (is_nowhere x) no_start 0
    on_search nowhere = refl
    on_search (found i k) = refl

    go : (a b c : Bool) → (searched s (cond a 1 (cond b 5 (cond c 16 0)))).refusal
        ≡ cond a 1 (cond b 5 (cond c 16 (cond (is_nowhere (smallest_start s)) no_start 0)))
    go true b c = refl
    go false true c = refl
    go false false true = refl
    go false false false = on_search (smallest_start s)

pub mend_refusal_small : (s : List ℕ) → (mend s).refusal ≤ no_start
mend_refusal_small s = rw (mend_first s) (go (wrong_length s) (wrong_fuses s) (wrong_staging s) (is_nowhere (smallest_start s)))
  where
    go : (a b c d : Bool) → cond a 1 (cond b 5 (cond c 16 (cond d no_start 0))) ≤ no_start
    go true b c d = omega arith
    go false true c d = omega arith
    go false false true d = omega arith
    go false false false true = omega arith
    go false false false false = omega arith

pub mend_numbered : (s : List ℕ) → Numbered (mend_conditions s)
mend_numbered s = (some _, (some _, (some _, (some _, tt))))

-- ---- what an accepted call had

-- a card and a length that are not refused
pub record Untrailed (s : List ℕ) : Type 0 where
  pub long : least_session ≤ length s
  pub short : length s ≤ greatest_session
  pub stage : is_fuse_byte (at s fuse_at) ≡ true
  pub staging : staging_fits s ≡ true

untrailed : (s : List ℕ) → untrailed_refusal s ≡ 0 → Untrailed s
unfolding untrailed_refusal
untrailed s e =
    let p₁ = clear (wrong_length s) 0 _ e in
    let p₂ = clear (wrong_fuses s) 4 _ p₁.1 in
    let p₃ = clear (wrong_staging s) 15 0 p₂.1 in
    let q = not-false _ p₁.0 in
    record {
      long = leb-true _ _ (and_left (leb least_session (length s)) _ q);
      short = leb-true _ _ (and_right (leb least_session (length s)) _ q);
      stage = not-false _ p₂.0;
      staging = not-false _ p₃.0;
    }

untrailed_none : (s : List ℕ) → Untrailed s → untrailed_refusal s ≡ 0
unfolding untrailed_refusal
untrailed_none s u = rw (le-leb _ _ u.long, le-leb _ _ u.short, u.stage, u.staging)

-- where nothing comes before it, the search decides
pub mend_found : (s : List ℕ) → untrailed_refusal s ≡ 0 → mend s ≡ mended_by s (smallest_start s)
unfolding mend
mend_found s e = rw e

pub record Accepted (s : List ℕ) : Type 0 where
  pub checked : untrailed_refusal s ≡ 0
  pub start : ℕ
  pub count : ℕ
  pub search : smallest_start s ≡ found start count
  pub whole : mend s ≡ mended_by s (found start count)

pub accepted : (s : List ℕ) → (mend s).refusal ≡ 0 → Accepted s
unfolding mend
accepted s e = on_checks (untrailed_refusal s) refl e
  where
    on_search : untrailed_refusal s ≡ 0 → (x : Search) → smallest_start s ≡ x → (mended_by s x).refusal ≡ 0 → Accepted s
    on_search c nowhere q e = absurd (let z : ⊥ = omega arith in z)
    on_search c (found i k) q e =
        record { checked = c; start = i; count = k; search = q; whole = mend_found s c ∙ ap (mended_by s) q }

    on_checks : (n : ℕ) → untrailed_refusal s ≡ n → (searched s n).refusal ≡ 0 → Accepted s
    on_checks zero c e = on_search c (smallest_start s) refl e
    on_checks (suc n) c e = absurd (let z : ⊥ = omega arith in z)

pub smallest : (s : List ℕ) → (mend s).refusal ≡ 0 → Smallest s (mend s).start (mend s).count
smallest s e =
    let a = accepted s e in
    rw a.whole (search_smallest s a.start a.count a.search)

pub smallest_is : (s : List ℕ) (i k : ℕ) → untrailed_refusal s ≡ 0 → Smallest s i k → mend s ≡ mended_by s (found i k)
smallest_is s i k c a = mend_found s c ∙ ap (mended_by s) (smallest_found s i k a)

-- 17 exactly where no start parses
pub nowhere_iff : (s : List ℕ) → untrailed_refusal s ≡ 0 → ((mend s).refusal ≡ no_start) ↔ NoStart s
nowhere_iff s c = (onward (smallest_start s) refl, back (smallest_start s) refl)
  where
    onward : (x : Search) → smallest_start s ≡ x → (mend s).refusal ≡ no_start → NoStart s
    onward nowhere q e = search_none s q
    onward (found i k) q e =
        let m = ap (λ (r : Mended). r.refusal) (mend_found s c ∙ ap (mended_by s) q) in
        absurd (let z : ⊥ = omega arith in z)

    back : (x : Search) → smallest_start s ≡ x → NoStart s → (mend s).refusal ≡ no_start
    back nowhere q none = ap (λ (r : Mended). r.refusal) (mend_found s c ∙ ap (mended_by s) q)
    back (found i k) q none = let a = search_smallest s i k q in absurd (none i k a.low a.parses)

-- how large the numbers can be
pub mend_within : (s : List ℕ) → ((mend s).count ≤ most_records) × ((mend s).start ≤ greatest_session)
unfolding mend
mend_within s = on_checks (untrailed_refusal s) refl
  where
    on_search : length s ≤ greatest_session → (x : Search) → smallest_start s ≡ x → ((mended_by s x).count ≤ most_records) × ((mended_by s x).start ≤ greatest_session)
    on_search h nowhere q = (omega arith, omega arith)
    on_search h (found i k) q =
        let p = (search_smallest s i k q).parses in
        let b = parses_below s i k p in
        (p.few, omega arith)

    on_checks : (n : ℕ) → untrailed_refusal s ≡ n → ((searched s n).count ≤ most_records) × ((searched s n).start ≤ greatest_session)
    on_checks zero c = on_search (untrailed s c).short (smallest_start s) refl
    on_checks (suc n) c = (omega arith, omega arith)

-- ---- what it leaves

pub mended_is : (s : List ℕ) → (mend s).refusal ≡ 0 → (mend s).session ≡ take (records_end (length s)) s ++ trailer_bytes (mend s).start (mend s).count
mended_is s e = let a = accepted s e in rw a.whole

-- the bytes before the trailer, and how many there are in all
pub kept : (s : List ℕ) → (take (records_end (length s)) (mend s).session ≡ take (records_end (length s)) s) × (length (mend s).session ≡ length s)
unfolding mend
kept s = on_checks (untrailed_refusal s) refl
  where
    Kept : Mended → Type 0
    Kept r = (take (records_end (length s)) r.session ≡ take (records_end (length s)) s) × (length r.session ≡ length s)

    on_search : least_session ≤ length s → (x : Search) → Kept (mended_by s x)
    on_search h nowhere = (refl, refl)
    on_search h (found i k) =
        let l = length-take-le (records_end (length s)) s (omega arith) in
        let a = length-append (take (records_end (length s)) s) (trailer_bytes i k) in
        (take_at (take (records_end (length s)) s) (trailer_bytes i k) (records_end (length s)) l, omega arith)

    on_checks : (n : ℕ) → untrailed_refusal s ≡ n → Kept (searched s n)
    on_checks zero e = on_search (untrailed s e).long (smallest_start s)
    on_checks (suc n) e = (refl, refl)

-- ---- a mended session

-- bytes that are the same up to the trailer
front_body : (s₁ s₂ : List ℕ) → length s₁ ≡ length s₂ → take (records_end (length s₁)) s₁ ≡ take (records_end (length s₁)) s₂ → SameBody s₁ s₂
front_body s₁ s₂ l e =
    record {
      long = l;
      same = λ i h b. sym (get_or-take (records_end (length s₁)) s₁ i 0 b) ∙ ap (λ (x : List ℕ). at x i) e ∙ get_or-take (records_end (length s₁)) s₂ i 0 b;
    }

module _ (s : List ℕ) (u : Untrailed s) (i k : ℕ) (a : Smallest s i k) where
  abbrev front : List ℕ
  front = take (records_end (length s)) s

  abbrev mended : List ℕ
  mended = front ++ trailer_bytes i k

  front_length : length front ≡ records_end (length s)
  front_length = let h = u.long in length-take-le (records_end (length s)) s (omega arith)

  mended_length : length mended ≡ length s
  mended_length = let h = u.long in let l = front_length in ended_length front i k ∙ (omega arith)

  body : SameBody s mended
  body = front_body s mended (sym mended_length) (sym (take_at front (trailer_bytes i k) (records_end (length s)) front_length))

  high : i < records_end (length s)
  high = let p = a.parses in parses_below s i k p

  start_is : start_of mended ≡ i
  start_is = let h = high in let g = u.short in ended_start front i k (omega arith)

  count_is : count_of mended ≡ k
  count_is = let h = a.parses.few in ended_count front i k (omega arith)

  mended_framed : frame mended ≡ 0
  mended_framed =
      let l = mended_length in
      let h = u.long in
      well_framed mended
      (record {
        long = omega arith;
        short = rw l u.short;
        first = ended_first front i k;
        second = ended_second front i k;
        low = rw start_is a.low;
        high = rw (start_is, l) (let b = high in omega arith);
        few = rw count_is a.parses.few;
        stage = rw (sym (body.same fuse_at (omega arith) (omega arith))) u.stage;
        staging = staging_same at88sc1608 s mended (λ j p q. sym (body.same j (omega arith) (omega arith))) ∙ u.staging;
      })

  pub mended_passes : Passes mended
  mended_passes =
      framed_passes mended mended_framed a.parses.instructions
      (rw (count_is, start_is, mended_length)
      (sym (read_same s mended body k i (let l = a.low in omega arith)) ∙ a.parses.reads))

pub passing : (s : List ℕ) → (mend s).refusal ≡ 0 → Passes (mend s).session
passing s e =
    let a = accepted s e in
    rw a.whole (mended_passes s (untrailed s a.checked) a.start a.count (search_smallest s a.start a.count a.search))

-- ---- what mending depends on

module _ (s₁ s₂ : List ℕ) (b : SameBody s₁ s₂) where
  checks_same : untrailed_refusal s₁ ≡ untrailed_refusal s₂
  unfolding untrailed_refusal
  checks_same =
      go (wrong_length s₁) refl
      ∙ ap (λ (n : ℕ). cond (not (leb least_session n && leb n greatest_session)) session_length (rest s₂)) b.long
    where
      rest : List ℕ → ℕ
      rest s = cond (wrong_fuses s) fuse_byte (cond (wrong_staging s) staging_bytes 0)

      go : (t : Bool) → wrong_length s₁ ≡ t → cond t session_length (rest s₁) ≡ cond t session_length (rest s₂)
      go true e = refl
      go false e =
          let h : least_session ≤ length s₁ = leb-true _ _ (and_left (leb least_session (length s₁)) _ (not-false _ e)) in
          rw (
            b.same fuse_at (omega arith) (omega arith),
            staging_same at88sc1608 s₂ s₁ (λ j p q. b.same j (omega arith) (omega arith)),
          )

  pub mended_same : SameMending (mend s₁) (mend s₂)
  unfolding mend
  mended_same = rw checks_same (on_checks (untrailed_refusal s₂))
    where
      on_search : (x : Search) → SameMending (mended_by s₁ x) (mended_by s₂ x)
      on_search nowhere = record { refusal = refl; start = refl; count = refl }
      on_search (found i k) = record { refusal = refl; start = refl; count = refl }

      on_checks : (n : ℕ) → SameMending (searched s₁ n) (searched s₂ n)
      on_checks zero = rw (search_same s₁ s₂ b) (on_search (smallest_start s₂))
      on_checks (suc n) = record { refusal = refl; start = refl; count = refl }

-- the old trailer plays no part
module _ (s₁ s₂ : List ℕ) (long : length s₁ ≡ length s₂) (same : take (records_end (length s₁)) s₁ ≡ take (records_end (length s₁)) s₂) where
  alike_body : SameBody s₁ s₂
  alike_body = front_body s₁ s₂ long same

  pub unheeded_refusal : (mend s₁).refusal ≡ (mend s₂).refusal
  unheeded_refusal = (mended_same s₁ s₂ alike_body).refusal

  pub unheeded : (mend s₁).refusal ≡ 0 → mend s₁ ≡ mend s₂
  unheeded e =
      let a = accepted s₁ e in
      a.whole
      ∙ (λ t. record {
        refusal = 0;
        start = a.start;
        count = a.count;
        session = (same ∙ ap (λ (n : ℕ). take (records_end n) s₂) long) t ++ trailer_bytes a.start a.count;
      })
      ∙ sym (mend_found s₂ (sym (checks_same s₁ s₂ alike_body) ∙ a.checked) ∙ ap (mended_by s₂) (sym (search_same s₁ s₂ alike_body) ∙ a.search))

-- ---- a trailer restored

-- a number's bytes, before those behind it
number_front : (w i : ℕ) (s : List ℕ) → Bytes s → i + w ≤ length s → bytes_of w (number_at s i w) ++ drop (i + w) s ≡ drop i s
number_front w i s b h =
    (λ t. bytes_number w s i b h t ++ sym (drop-drop w i s) t) ∙ take-append-drop w (drop i s)

module _ (s : List ℕ) (passes : Passes s) (records : 1 ≤ count_of s) (bytes : Bytes s) (alone : NoneBelow s (start_of s)) where
  abbrev room : List ℕ
  room = replicate (log_length s) 0

  roomy : (run s room).refusal ≡ 0
  roomy =
      let l : length room ≡ log_length s = length-replicate (log_length s) 0 in
      passes room ∙ ap (λ (t : Bool). cond t no_space 0) (le-ltb (length room) (log_length s) (omega arith))

  ran : (ks : List Instruction) × Accepts s room ks
  ran = accepted_commands s room roomy

  good : Framed s
  good = framed_well s ran.1.frames

  own : Smallest s (start_of s) (count_of s)
  own =
      record {
        low = good.low;
        parses = record { some = records; few = good.few; instructions = ran.0; reads = ran.1.reads };
        least = alone;
      }

  marks : 0x53 ∷ 0x45 ∷ [] ≡ drop (length s - 4 + 2) s
  marks =
      let h = good.long in
      let e : length s - 4 + 2 ≡ length s - 2 = omega arith in
      let f : suc (length s - 2) ≡ length s - 1 = omega arith in
      let g : suc (length s - 1) ≡ length s = omega arith in
      sym (ap (λ (i : ℕ). drop i s) e ∙ drop-cons s (length s - 2) 0 (omega arith)
      ∙ (λ t. good.first t ∷ (ap (λ (i : ℕ). drop i s) f ∙ drop-cons s (length s - 1) 0 (omega arith)
      ∙ (λ u. good.second u ∷ (ap (λ (i : ℕ). drop i s) g ∙ drop-length s) u)) t))

  tail_is : trailer_bytes (start_of s) (count_of s) ≡ drop (records_end (length s)) s
  tail_is =
      let h = good.long in
      let e : length s - 4 ≡ records_end (length s) + 4 = omega arith in
      ap (λ (x : List ℕ). bytes_of 4 (start_of s) ++ (bytes_of 2 (count_of s) ++ x)) marks
      ∙ ap (λ (x : List ℕ). bytes_of 4 (start_of s) ++ x) (number_front 2 (length s - 4) s bytes (omega arith) ∙ ap (λ (i : ℕ). drop i s) e)
      ∙ number_front 4 (records_end (length s)) s bytes (omega arith)

  pub restored : mend s ≡ record { refusal = 0; start = start_of s; count = count_of s; session = s }
  restored =
      let g = good in
      smallest_is s (start_of s) (count_of s)
      (untrailed_none s (record { long = g.long; short = g.short; stage = g.stage; staging = g.staging })) own
      ∙ (λ t. record {
        refusal = 0;
        start = start_of s;
        count = count_of s;
        session = (ap (λ (x : List ℕ). take (records_end (length s)) s ++ x) tail_is ∙ take-append-drop (records_end (length s)) s) t;
      })

-- a session that was written without a title has no earlier start
module _ (p : Parts) (w : Writable p) (untitled : length p.title ≡ 0) (records : 1 ≤ p.count) (bytes : Bytes (session_bytes p)) where
  first_start : start_of (session_bytes p) ≡ card_size
  first_start = parts_laws.start_is p w ∙ (let l = w.long in omega arith)

  same_count : count_of (session_bytes p) ≡ p.count
  same_count = parts_laws.count_is p w

  pub untitled_mended : mend (session_bytes p) ≡ record { refusal = 0; start = card_size; count = p.count; session = session_bytes p }
  untitled_mended =
      restored (session_bytes p) (parts_laws.only_room p w) (rw same_count records) bytes
      (λ j k l h q. let e = first_start in let z : ⊥ = omega arith in z)
      ∙ (λ t. record { refusal = 0; start = first_start t; count = same_count t; session = session_bytes p })

-- ---- secret places

module _ (hidden : ℕ → Bool) (s₁ s₂ : List ℕ) (agree : AgreeOutside hidden s₁ s₂) where
  -- the fronts of two lists that agree, before the same bytes
  fronts_agree : (n : ℕ) (t : List ℕ) → n ≤ length s₁ → AgreeOutside hidden (take n s₁ ++ t) (take n s₂ ++ t)
  fronts_agree n t h =
      record {
        long = length-append (take n s₁) t ∙ ap (λ (m : ℕ). m + length t) (first_long ∙ sym second_long) ∙ sym (length-append (take n s₂) t);
        same = λ i o. go i (ltb i n) refl o;
      }
    where
      first_long : length (take n s₁) ≡ n
      first_long = length-take-le n s₁ h

      second_long : length (take n s₂) ≡ n
      second_long = let l = agree.long in length-take-le n s₂ (omega arith)

      behind : (s : List ℕ) (i : ℕ) → length (take n s) ≡ n → n ≤ i → at (take n s ++ t) i ≡ at t (i - n)
      behind s i l g =
          let e : i ≡ length (take n s) + (i - n) = omega arith in
          ap (at (take n s ++ t)) e ∙ get_or-append-add (take n s) t (i - n) 0

      before : (s : List ℕ) (i : ℕ) → length (take n s) ≡ n → i < n → at (take n s ++ t) i ≡ at s i
      before s i l g = get_or-append (take n s) t 0 i (omega arith) ∙ get_or-take n s i 0 g

      go : (i : ℕ) (x : Bool) → ltb i n ≡ x → hidden i ≡ false → at (take n s₁ ++ t) i ≡ at (take n s₂ ++ t) i
      go i true q o =
          let b = ltb-true i n q in
          before s₁ i first_long b ∙ agree.same i o ∙ sym (before s₂ i second_long b)
      go i false q o =
          let b = ltb-false i n q in
          behind s₁ i first_long b ∙ sym (behind s₂ i second_long b)

  module _ (in-card : (i : ℕ) → fuse_at ≤ i → hidden i ≡ false) where
    abbrev hidden_body : SameBody s₁ s₂
    hidden_body = same_body hidden in-card s₁ s₂ agree

    pub mended_alike : MendedAlike hidden (mend s₁) (mend s₂)
    unfolding mend
    mended_alike = record { numbers = mended_same s₁ s₂ hidden_body; sessions = agreeing }
      where
        on_search : (x : Search) → AgreeOutside hidden (mended_by s₁ x).session (mended_by s₂ x).session
        on_search nowhere = agree
        on_search (found i k) =
            rw (← agree.long) (fronts_agree (records_end (length s₁)) (trailer_bytes i k) (omega arith))

        on_checks : (n : ℕ) → AgreeOutside hidden (searched s₁ n).session (searched s₂ n).session
        on_checks zero = rw (search_same s₁ s₂ hidden_body) (on_search (smallest_start s₂))
        on_checks (suc n) = agree

        agreeing : AgreeOutside hidden (mend s₁).session (mend s₂).session
        agreeing = rw (checks_same s₁ s₂ hidden_body) (on_checks (untrailed_refusal s₂))

-- those of a zone, with or without two passwords of a set
pub zone_alike : (z : ℕ) → z < 8 → (s₁ s₂ : List ℕ) → AgreeOutside (in_zone z) s₁ s₂ → MendedAlike (in_zone z) (mend s₁) (mend s₂)
zone_alike z zl s₁ s₂ agree = mended_alike (in_zone z) s₁ s₂ agree (λ i h. authentication.not_hidden z i zl (omega arith))

pub passwords_alike : (z p : ℕ) → z < 8 → p < 8 → (s₁ s₂ : List ℕ) → AgreeOutside (in_zone_or_passwords z p) s₁ s₂
    → MendedAlike (in_zone_or_passwords z p) (mend s₁) (mend s₂)
passwords_alike z p zl pl s₁ s₂ agree =
    mended_alike (in_zone_or_passwords z p) s₁ s₂ agree (λ i h. read.not_hidden z p zl pl i (omega arith) (λ k n q e. omega arith))
