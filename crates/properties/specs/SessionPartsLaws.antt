-- Of written sessions: what an accepted call leaves, that the parts are read back, and that the session passes its check.
use Rattle.std.specs.Prelude.{ℕ, zero, suc, ◌+◌, ◌-◌, ◌^◌, ◌≤◌, ◌<◌, Bool, true, false, cond, List, [], ◌∷◌, ◌++◌, ◌≡◌, refl, ltb, eqb, length, take, drop}
use Rattle.std.proofs.Common.{append_assoc, sym, ap, ◌∙◌, arith, eqb-true, eq-eqb, length-append, get_or-append-add, take_at, drop_at}
use Rattle.std.proofs.Math.ListN.{get_or-append}
use Rattle.std.proofs.Math.Seq.{take-append_seam, drop-append_seam, drop-append-add}
use Rattle.model.specs.At88sc1608.{at88sc1608}
use Rattle.laws.specs.StagingLaws.{staging_same}
use Rattle.model.specs.Sizes.{card_size, fuse_at, trailer_size, least_log}
use Rattle.model.specs.Lists.{at}
use Rattle.model.specs.Numbers.{bytes_of, number_at}
use Rattle.laws.specs.NumberLaws.{number_append, number_bytes}
use Rattle.model.specs.Call.{Decoded, refused, whole}
use Rattle.model.specs.Instruction.{Instruction}
use Rattle.model.specs.Reader.{records_end, part_at, next_of}
use Rattle.laws.specs.ReaderLaws.{part_length, part_next, next_within}
use Rattle.laws.specs.WriterLaws.{session_length_lem, Writable}
use Rattle.model.specs.Refusal.{bytes_left, no_space}
use Rattle.model.specs.Session.{card_of, start_of, count_of, frame, all, stopped, on_decoded, more, read_from, initial, log_of, full_entries, rejected, run}
use Rattle.model.specs.Writer.{Parts, parts, trailer_bytes, session_bytes, records_refusal, parts_refusal, placed, write_session}
use Rattle.properties.specs.AcceptedSession.{accepting}
use Rattle.properties.specs.AcceptedSessionLaws.{well_framed}
use Rattle.properties.specs.SessionLaws.{refusal_nonzero}
use Rattle.properties.specs.SessionConditions.{log_length}
use Rattle.properties.specs.SessionConditionsLaws.{full_length_lem}
use Rattle.properties.specs.SessionParts.{session_in, title_of, parts_of}

-- ---- the call

-- what an accepted call had, and what it leaves
pub accepted_parts : (p : Parts) (space : List ℕ) → (write_session p space).refusal ≡ 0
    → (parts_refusal p ≡ 0) × (write_session p space ≡ accepting (session_bytes p) space)
unfolding write_session
accepted_parts p space e = on_checks (parts_refusal p) refl e
  where
    on_room : (t : Bool) → (cond t (rejected no_space space) (accepting (session_bytes p) space)).refusal ≡ 0
        → cond t (rejected no_space space) (accepting (session_bytes p) space) ≡ accepting (session_bytes p) space
    on_room true e = absurd (let z : ⊥ = omega arith in z)
    on_room false e = refl

    on_checks : (n : ℕ) → parts_refusal p ≡ n → (placed p space n).refusal ≡ 0
        → (parts_refusal p ≡ 0) × (placed p space n ≡ accepting (session_bytes p) space)
    on_checks zero q e = (q, on_room (ltb (length space) (length (session_bytes p))) e)
    on_checks (suc n) q e = absurd (let z : ⊥ = omega arith in z)

pub session_in_lem : (p : Parts) (space : List ℕ) → (write_session p space).refusal ≡ 0 → session_in (write_session p space) ≡ session_bytes p
session_in_lem p space e =
    ap session_in (accepted_parts p space e).1 ∙ take-append_seam (session_bytes p) (drop (length (session_bytes p)) space)

-- ---- a trailer at the end of any bytes

module _ (front : List ℕ) (start count : ℕ) where
  abbrev ended : List ℕ
  ended = front ++ trailer_bytes start count

  pub ended_length : length ended ≡ length front + 8
  ended_length = length-append front (trailer_bytes start count)

  pub ended_start : start < 256 ^ 4 → start_of ended ≡ start
  ended_start h =
      let l = ended_length in
      let e : length ended - trailer_size ≡ length front + 0 = omega arith in
      ap (λ (i : ℕ). number_at ended i 4) e ∙ number_append front (trailer_bytes start count) 0 4 ∙ number_bytes 4 start (bytes_of 2 count ++ (0x53 ∷ 0x45 ∷ [])) h

  pub ended_count : count < 256 ^ 2 → count_of ended ≡ count
  ended_count h =
      let l = ended_length in
      let e : length ended - 4 ≡ length front + 4 = omega arith in
      ap (λ (i : ℕ). number_at ended i 2) e ∙ number_append front (trailer_bytes start count) 4 2
      ∙ number_append (bytes_of 4 start) (bytes_of 2 count ++ (0x53 ∷ 0x45 ∷ [])) 0 2 ∙ number_bytes 2 count (0x53 ∷ 0x45 ∷ []) h

  pub ended_first : at ended (length ended - 2) ≡ 0x53
  ended_first =
      let l = ended_length in
      let e : length ended - 2 ≡ length front + 6 = omega arith in
      ap (at ended) e ∙ get_or-append-add front (trailer_bytes start count) 6 0

  pub ended_second : at ended (length ended - 1) ≡ 0x45
  ended_second =
      let l = ended_length in
      let e : length ended - 1 ≡ length front + 7 = omega arith in
      ap (at ended) e ∙ get_or-append-add front (trailer_bytes start count) 7 0

-- ---- records laid end to end are read in the session

pub records_read : (n : ℕ) (s : List ℕ) (i : ℕ) → i ≤ records_end (length s) → records_refusal n (part_at s i) ≡ 0
    → (ks : List Instruction) × (read_from n s i ≡ all ks (records_end (length s)))
records_read zero s i h e = ([], ap (all []) (go (eqb (length (part_at s i)) 0) refl e))
  where
    go : (t : Bool) → eqb (length (part_at s i)) 0 ≡ t → cond t 0 bytes_left ≡ 0 → i ≡ records_end (length s)
    go true q e = let z = eqb-true (length (part_at s i)) 0 q in let l = part_length s i in omega arith
    go false q e = absurd (let z : ⊥ = omega arith in z)
records_read (suc n) s i h e = go (λ m w q. records_read n s (i + m) w q) (next_of s i) refl e
  where
    go : ((m : ℕ) → i + m ≤ records_end (length s) → records_refusal n (part_at s (i + m)) ≡ 0
        → (ks : List Instruction) × (read_from n s (i + m) ≡ all ks (records_end (length s))))
        → (x : Decoded Instruction) → next_of s i ≡ x → on_decoded x (λ r. r) (λ k m. records_refusal n (drop m (part_at s i))) ≡ 0
        → (ks : List Instruction) × (on_decoded x stopped (λ k m. more k (read_from n s (i + m))) ≡ all ks (records_end (length s)))
    go ih (refused r) q e = absurd (refusal_nonzero (part_at s i) r q e)
    go ih (whole k m) q e =
        let r = ih m (next_within s i k m q).1 (rw (part_next s i m) e) in
        (k ∷ r.0, ap (more k) r.1)

-- ---- a session whose frame is well and whose records end at the trailer is refused for want of log space alone

pub framed_passes : (s : List ℕ) → frame s ≡ 0 → (ks : List Instruction) → read_from (count_of s) s (start_of s) ≡ all ks (records_end (length s))
    → (log : List ℕ) → (run s log).refusal ≡ cond (ltb (length log) (log_length s)) no_space 0
unfolding run
framed_passes s f ks r log =
    rw (f, r, eq-eqb (records_end (length s)) _ refl)
    (go (ltb (length log) (full_entries ks (initial s) + least_log)) ∙ ap (λ (n : ℕ). cond (ltb (length log) n) no_space 0) (full_length_lem s ks _ r))
  where
    go : (t : Bool) → (cond t (rejected no_space log) (accepting (log_of s ks) log)).refusal ≡ cond t no_space 0
    go true = refl
    go false = refl

-- ---- the session

module _ (p : Parts) (w : Writable p) where
  abbrev s : List ℕ
  s = session_bytes p

  abbrev start : ℕ
  start = length p.card + length p.title

  abbrev tail : List ℕ
  tail = trailer_bytes start p.count

  -- the trailer stands at its end
  abbrev front : List ℕ
  front = (p.card ++ p.title) ++ p.records

  at_end : s ≡ front ++ tail
  at_end = sym (append_assoc (p.card ++ p.title) p.records tail ∙ append_assoc p.card p.title (p.records ++ tail))

  start_small : start < 256 ^ 4
  start_small = let l = session_length_lem p in let h = w.short in omega arith

  pub start_is : start_of s ≡ start
  start_is = ap start_of at_end ∙ ended_start front start p.count start_small

  pub count_is : count_of s ≡ p.count
  count_is = ap count_of at_end ∙ ended_count front start p.count (let h = w.few in omega arith)

  card_is : card_of s ≡ p.card
  card_is = take_at p.card (p.title ++ (p.records ++ tail)) card_size w.long

  title_is : title_of s ≡ p.title
  title_is =
      (λ t. take (start_is t - card_size) (drop_at p.card (p.title ++ (p.records ++ tail)) card_size w.long t))
      ∙ take_at p.title (p.records ++ tail) (start - card_size) (let l = w.long in omega arith)

  part_is : part_at s start ≡ p.records
  part_is =
      ap (take (records_end (length s) - start))
      (drop-append-add p.card (p.title ++ (p.records ++ tail)) (length p.title) ∙ drop-append_seam p.title (p.records ++ tail))
      ∙ take_at p.records tail (records_end (length s) - start) (let l = session_length_lem p in omega arith)

  pub parts_back : parts_of s ≡ p
  parts_back = λ t. parts (card_is t) (title_is t) ((ap (part_at s) start_is ∙ part_is) t) (count_is t)

  session_framed : frame s ≡ 0
  session_framed =
      well_framed s
      (record {
        long = let l = session_length_lem p in let c = w.long in omega arith;
        short = w.short;
        first = rw at_end (ended_first front start p.count);
        second = rw at_end (ended_second front start p.count);
        low = rw start_is (let c = w.long in omega arith);
        high = rw start_is (let l = session_length_lem p in omega arith);
        few = rw count_is w.few;
        stage = rw (get_or-append p.card (p.title ++ (p.records ++ tail)) 0 fuse_at (let c = w.long in omega arith)) w.stage;
        staging =
            staging_same at88sc1608 p.card s
            (λ j l h. get_or-append p.card (p.title ++ (p.records ++ tail)) 0 j (let c = w.long in omega arith)) ∙ w.staging;
      })

  session_read : (ks : List Instruction) × (read_from (count_of s) s (start_of s) ≡ all ks (records_end (length s)))
  session_read =
      rw (count_is, start_is)
      (records_read p.count s start (let l = session_length_lem p in omega arith) (rw part_is w.well))

  pub only_room : (log : List ℕ) → (run s log).refusal ≡ cond (ltb (length log) (log_length s)) no_space 0
  only_room = framed_passes s session_framed session_read.0 session_read.1
