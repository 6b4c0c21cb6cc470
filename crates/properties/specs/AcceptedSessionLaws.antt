-- Of accepted sessions: what a well frame says of the bytes, that an accepted session has instructions, and what it leaves.
use Rattle.std.specs.Prelude.{ℕ, zero, suc, ◌+◌, ◌-◌, ◌≤◌, Bool, true, false, cond, not, List, ◌≡◌, refl, ltb, leb, eqb, length}
use Rattle.std.proofs.Common.{ap, ◌∙◌, arith, eqb-true, leb-true, ltb-false, eq-eqb, le-ltb, le-leb, length-append, length-take-le, get_or-take}
use Rattle.std.proofs.lemmas.Bool.{not-false}
use Rattle.model.specs.Sizes.{card_size, fuse_at, trailer_size, least_session, greatest_session, least_log, most_records}
use Rattle.model.specs.Lists.{at}
use Rattle.laws.specs.BoolLaws.{and_left, and_right}
use Rattle.model.specs.State.{power_on}
use Rattle.model.specs.Instruction.{Instruction}
use Rattle.model.specs.Call.{Decoded, refused, whole}
use Rattle.laws.specs.CallLaws.{clear}
use Rattle.model.specs.Reader.{records_end, part_at, next_of}
use Rattle.model.specs.Refusal.{bytes_left, no_space}
use Rattle.model.specs.At88sc1608.{at88sc1608}
use Rattle.laws.specs.StagingLaws.{staging_same}
use Rattle.laws.specs.Sane.{Good}
use Rattle.model.specs.Session.{card_of, start_of, count_of, wrong_length, wrong_trailer, wrong_start, wrong_count, wrong_fuses, wrong_staging, frame, framed, run}
use Rattle.model.specs.Session.{Read, stopped, all, on_decoded, more, read_from, log_of, initial, full_entries, rejected, written, ended}
use Rattle.model.specs.Single.{is_fuse_byte, staging_fits}
use Rattle.properties.specs.SessionLaws.{refusal_nonzero, end_length, full_total_lem, entries_most}
use Rattle.properties.specs.AcceptedSession.{Accepts, accepting}

-- ---- the frame

pub record Framed (s : List ℕ) : Type 0 where
  pub long : least_session ≤ length s
  pub short : length s ≤ greatest_session
  pub first : at s (length s - 2) ≡ 0x53
  pub second : at s (length s - 1) ≡ 0x45
  pub low : card_size ≤ start_of s
  pub high : start_of s ≤ length s - trailer_size
  pub few : count_of s ≤ most_records
  pub stage : is_fuse_byte (at s fuse_at) ≡ true
  pub staging : staging_fits s ≡ true

pub framed_well : (s : List ℕ) → frame s ≡ 0 → Framed s
unfolding frame
framed_well s e =
    let p₁ = clear (wrong_length s) 0 _ e in
    let p₂ = clear (wrong_trailer s) 1 _ p₁.1 in
    let p₃ = clear (wrong_start s) 2 _ p₂.1 in
    let p₄ = clear (wrong_count s) 3 _ p₃.1 in
    let p₅ = clear (wrong_fuses s) 4 _ p₄.1 in
    let p₆ = clear (wrong_staging s) 15 0 p₅.1 in
    let q₁ = not-false _ p₁.0 in
    let q₂ = not-false _ p₂.0 in
    let q₃ = not-false _ p₃.0 in
    record {
      long = leb-true _ _ (and_left (leb least_session (length s)) _ q₁);
      short = leb-true _ _ (and_right (leb least_session (length s)) _ q₁);
      first = eqb-true _ _ (and_left (eqb (at s (length s - 2)) 0x53) _ q₂);
      second = eqb-true _ _ (and_right (eqb (at s (length s - 2)) 0x53) _ q₂);
      low = leb-true _ _ (and_left (leb card_size (start_of s)) _ q₃);
      high = leb-true _ _ (and_right (leb card_size (start_of s)) _ q₃);
      few = ltb-false _ _ p₄.0;
      stage = not-false _ p₅.0;
      staging = not-false _ p₆.0;
    }

pub well_framed : (s : List ℕ) → Framed s → frame s ≡ 0
unfolding frame
well_framed s f =
    rw (
      le-leb _ _ f.long,
      le-leb _ _ f.short,
      eq-eqb _ _ f.first,
      eq-eqb _ _ f.second,
      le-leb _ _ f.low,
      le-leb _ _ f.high,
      le-ltb _ _ f.few,
      f.stage,
      f.staging,
    )

-- the session's card, at power-up
pub card_good : (s : List ℕ) → Framed s → Good (card_of s) power_on
card_good s f =
    record {
      fit =
          record {
            long = length-take-le card_size s (let l = f.long in omega arith);
            stage = rw (get_or-take card_size s fuse_at 0 (omega arith)) f.stage;
            staging = staging_same at88sc1608 s (card_of s) (λ j l h. get_or-take card_size s j 0 (omega arith)) ∙ f.staging;
            range = refl;
          };
      time = omega arith;
    }

-- ---- the records

pub read_nonzero : (n : ℕ) (s : List ℕ) (i r : ℕ) → read_from n s i ≡ stopped r → r ≡ 0 → ⊥
read_nonzero zero s i r e z = let w : ◌≡◌ {A = ℕ} 0 1 = cc in omega arith
read_nonzero (suc n) s i r e z = go (λ j q. read_nonzero n s j r q z) (next_of s i) refl e
  where
    go₂ : (k : Instruction) (x : Read) → (x ≡ stopped r → ⊥) → more k x ≡ stopped r → ⊥
    go₂ k (stopped y) h e = h e
    go₂ k (all ks j) h e = let w : ◌≡◌ {A = ℕ} 0 1 = cc in omega arith

    go : ((j : ℕ) → read_from n s j ≡ stopped r → ⊥) → (d : Decoded Instruction) → next_of s i ≡ d
        → on_decoded d stopped (λ k m. more k (read_from n s (i + m))) ≡ stopped r → ⊥
    go ih (refused x) q e = let w : x ≡ r = cc in refusal_nonzero (part_at s i) x q (w ∙ z)
    go ih (whole k m) q e = go₂ k (read_from n s (i + m)) (ih (i + m)) e

-- ---- the session

-- its log is not longer than with every record answered in full, so it has room
pub log_within : (s space : List ℕ) (ks : List Instruction) → Accepts s space ks → length (log_of s ks) ≤ length space
log_within s space ks a =
    let l : least_session ≤ length s = (framed_well s a.frames).long in
    let c = end_length ks (initial s) ∙ length-take-le card_size s (omega arith) in
    let m = entries_most ks (initial s) in
    let f = full_total_lem ks (initial s) in
    let r = a.room in
    simp (length-append, c) (omega arith)

pub accepted_log : (s space : List ℕ) (ks : List Instruction) → Accepts s space ks → run s space ≡ accepting (log_of s ks) space
unfolding run
accepted_log s space ks a = rw (a.frames, a.reads, eq-eqb (records_end (length s)) _ refl, le-ltb _ _ a.room)

pub accepted_commands : (s space : List ℕ) → (run s space).refusal ≡ 0 → (ks : List Instruction) × Accepts s space ks
unfolding run
accepted_commands s space e = on_frame_lem (frame s) refl e
  where
    on_room : (ks : List Instruction) (t : Bool) → frame s ≡ 0 → read_from (count_of s) s (start_of s) ≡ all ks (records_end (length s))
        → ltb (length space) (full_entries ks (initial s) + least_log) ≡ t → (cond t (rejected no_space space) (accepting (log_of s ks) space)).refusal ≡ 0
        → (ks : List Instruction) × Accepts s space ks
    on_room ks true f r q e = absurd (let z : ⊥ = omega arith in z)
    on_room ks false f r q e = (ks, record { frames = f; reads = r; room = ltb-false _ _ q })

    on_end : (ks : List Instruction) (i : ℕ) (t : Bool) → frame s ≡ 0 → read_from (count_of s) s (start_of s) ≡ all ks i → eqb i (records_end (length s)) ≡ t
        → (cond (not t) (rejected bytes_left space) (written (full_entries ks (initial s) + least_log) (log_of s ks) space)).refusal ≡ 0
        → (ks : List Instruction) × Accepts s space ks
    on_end ks i true f r q e =
        on_room ks (ltb (length space) (full_entries ks (initial s) + least_log)) f (r ∙ ap (all ks) (eqb-true i (records_end (length s)) q)) refl e
    on_end ks i false f r q e = absurd (let z : ⊥ = omega arith in z)

    on_read : (x : Read) → frame s ≡ 0 → read_from (count_of s) s (start_of s) ≡ x → (ended s space x).refusal ≡ 0 → (ks : List Instruction) × Accepts s space ks
    on_read (stopped n) f r e = absurd (read_nonzero (count_of s) s (start_of s) n r e)
    on_read (all ks i) f r e = on_end ks i (eqb i (records_end (length s))) f r refl e

    on_frame_lem : (n : ℕ) → frame s ≡ n → (framed s space n).refusal ≡ 0 → (ks : List Instruction) × Accepts s space ks
    on_frame_lem zero f e = on_read (read_from (count_of s) s (start_of s)) f refl e
    on_frame_lem (suc n) f e = absurd (let z : ⊥ = omega arith in z)
