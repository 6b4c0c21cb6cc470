-- The session, from its check and from the log that was written.
use Prim.Native.Nat.{ℕ, zero, suc, ◌+◌, ◌≤◌, ◌<◌}
use mathlib.Core.Bool.{Bool, true, false, cond, not}
use mathlib.Core.List.{List, ◌++◌}
use mathlib.Core.Path.{◌≡◌, refl, sym, ap, ◌∙◌}
use native.Mathlib.Omega.{arith}
use borrow.Author.Tests.{lt-ltb, eq-eqb, eqb-true}
use lib.Dec.{eqb}
use lib.ListN.{length, drop}
use lib.Seq.{sets}
use Rattle.model.specs.Sizes.{least_log}
use Rattle.model.specs.Instruction.{Instruction}
use Rattle.laws.specs.NumberLaws.{sets_front}
use Rattle.model.specs.Reader.{records_end}
use Rattle.model.specs.Refusal.{bytes_left, no_space}
use Rattle.model.specs.Session.{start_of, count_of, frame, Read, stopped, all, read_from, initial, log_of, full_entries, rejected, ended, framed, run}
use Rattle.properties.proofs.SessionAcceptance.{run_accepted}
use Rattle.properties.specs.AcceptedSession.{Accepts}
use Rattle.properties.specs.AcceptedSessionLaws.{log_within}
use Rattle.properties.specs.SessionLaws.{full_total, full_total_lem}
use Rattle.validate.specs.Check.{unfit, sized, sized_of, on_frame, check_of}
use Rattle.session.specs.Run.{LogReady, LogWritten}

-- a session that was checked, and the length of its entries in full
pub record Fits (s : List ℕ) (n : ℕ) : Type 0 where
  pub instructions : List Instruction
  pub frames : frame s ≡ 0
  pub reads : read_from (count_of s) s (start_of s) ≡ all instructions (records_end (length s))
  pub total : n ≡ full_total instructions

module _ (s : List ℕ) (n : ℕ) where
  pub fits : sized n ≡ check_of s → Fits s n
  fits e = on_frame_lem (frame s) refl e
    where
      on_end : (ks : List Instruction) (i : ℕ) (t : Bool) → frame s ≡ 0 → read_from (count_of s) s (start_of s) ≡ all ks i → eqb i (records_end (length s)) ≡ t
          → sized n ≡ cond (not t) (unfit bytes_left) (sized (full_total ks)) → Fits s n
      on_end ks i true f r q e =
          record { instructions = ks; frames = f; reads = r ∙ ap (all ks) (eqb-true i (records_end (length s)) q); total = let w : n ≡ full_total ks = cc in w }
      on_end ks i false f r q e = absurd (let z : ◌≡◌ {A = ℕ} 0 1 = cc in let w : ⊥ = omega arith in w)

      on_read : (x : Read) → frame s ≡ 0 → read_from (count_of s) s (start_of s) ≡ x → sized n ≡ sized_of (records_end (length s)) x → Fits s n
      on_read (stopped m) f r e = absurd (let z : ◌≡◌ {A = ℕ} 0 1 = cc in let w : ⊥ = omega arith in w)
      on_read (all ks i) f r e = on_end ks i (eqb i (records_end (length s))) f r refl e

      on_frame_lem : (m : ℕ) → frame s ≡ m → sized n ≡ on_frame s m → Fits s n
      on_frame_lem zero f e = on_read (read_from (count_of s) s (start_of s)) f refl e
      on_frame_lem (suc m) f e = absurd (let z : ◌≡◌ {A = ℕ} 0 1 = cc in let w : ⊥ = omega arith in w)

  module _ (space : List ℕ) where
    pub run_refused : unfit n ≡ check_of s → rejected n space ≡ run s space
    unfolding run
    run_refused e = on_frame_lem (frame s) e
      where
        on_end : (ks : List Instruction) (t : Bool) → unfit n ≡ cond (not t) (unfit bytes_left) (sized (full_total ks)) → (not t ≡ true) × (n ≡ bytes_left)
        on_end ks true e = absurd (let z : ◌≡◌ {A = ℕ} 0 1 = cc in let w : ⊥ = omega arith in w)
        on_end ks false e = (refl, let w : n ≡ bytes_left = cc in w)

        on_read : (x : Read) → unfit n ≡ sized_of (records_end (length s)) x → rejected n space ≡ ended s space x
        on_read (stopped m) e = ap (λ (x : ℕ). rejected x space) (let w : n ≡ m = cc in w)
        on_read (all ks i) e = let w = on_end ks (eqb i (records_end (length s))) e in rw w.0 (ap (λ (x : ℕ). rejected x space) w.1)

        on_frame_lem : (m : ℕ) → unfit n ≡ on_frame s m → rejected n space ≡ framed s space m
        on_frame_lem zero e = on_read (read_from (count_of s) s (start_of s)) e
        on_frame_lem (suc m) e = ap (λ (x : ℕ). rejected x space) (let w : n ≡ suc m = cc in w)

    module _ (e : sized n ≡ check_of s) where
      full_size : full_entries (fits e).instructions (initial s) + least_log ≡ n + least_log
      full_size = ap (λ (m : ℕ). m + least_log) (full_total_lem (fits e).instructions (initial s) ∙ sym (fits e).total)

      pub no_room : length space < n + least_log → rejected no_space space ≡ run s space
      unfolding run
      no_room h = rw ((fits e).frames, (fits e).reads, eq-eqb (records_end (length s)) _ refl, full_size, lt-ltb _ _ h)

      pub log_ready : n + least_log ≤ length space → LogReady s space
      log_ready h =
          record {
            instructions = (fits e).instructions;
            frames = (fits e).frames;
            reads = (fits e).reads;
            room = let t = (fits e).total in omega arith;
          }

      pub run_logged : n + least_log ≤ length space → (size : ℕ) (space' : List ℕ) → LogWritten s space size space'
          → record { refusal = 0; size = size; space = space' } ≡ run s space
      run_logged h size space' w = sym (run_accepted s space ks accepts ∙ (λ t. record { refusal = 0; size = sym size_same t; space = same t }))
        where
          ks : List Instruction
          ks = (fits e).instructions

          accepts : Accepts s space ks
          accepts = record { frames = (fits e).frames; reads = (fits e).reads; room = let l = full_size in omega arith }

          ks_same : w.instructions ≡ ks
          ks_same = let p : all w.instructions (records_end (length s)) ≡ all ks (records_end (length s)) = sym w.reads ∙ (fits e).reads in cc

          size_same : size ≡ length (log_of s ks)
          size_same = w.size_is ∙ ap (λ (x : List Instruction). length (log_of s x)) ks_same

          same : log_of s ks ++ drop (length (log_of s ks)) space ≡ space'
          same =
              sym
              (w.bytes ∙ ap (λ (x : List Instruction). sets space 0 (log_of s x)) ks_same ∙ sets_front space (log_of s ks) (log_within s space ks accepts))
