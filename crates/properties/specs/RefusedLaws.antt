-- Of refusals: every way to one leaves what was lent as it was.
use Rattle.std.specs.Prelude.{ℕ, zero, suc, Bool, true, false, cond, not, List, ◌≡◌, ltb, eqb, length}
use Rattle.std.proofs.Common.{ap, arith}
use Rattle.model.specs.Call.{Decoded, refused, whole, Call, refusing}
use Rattle.model.specs.Call as calls
use Rattle.model.specs.Instruction.{Instruction}
use Rattle.model.specs.Reader.{records_end}
use Rattle.model.specs.Record.{decode}
use Rattle.model.specs.Refusal.{bytes_left, no_space, box_limits}
use Rattle.model.specs.Session.{start_of, count_of, frame, Read, stopped, all, read_from, log_of, rejected, written, ended, framed, run}
use Rattle.model.specs.Box.{box_refuses, box_run}
use Rattle.model.specs.Single.{check, answered_kind, act, admit, command}
use Rattle.model.specs.State.{State}
use Rattle.model.specs.Writer.{Parts, session_bytes, parts_refusal, placed, write_session}
use Rattle.model.specs.Mender.{Search, nowhere, found, smallest_start, unmended, mended_by, untrailed_refusal, searched, mend}
use Rattle.properties.specs.AcceptedSession.{accepting}

-- a single command
pub command_keeps : (c : List ℕ) (s : State) (x : Call) (n : ℕ) → (command c s x).reply.refusal ≡ suc n
    → command c s x ≡ record { card = c; reply = refusing (suc n) s x.space }
unfolding calls.command
command_keeps c s x n e = go (admit c s x) e
  where
    go : (d : Decoded Instruction) → (calls.carried check decode act answered_kind c s x.space d).reply.refusal ≡ suc n
        → calls.carried check decode act answered_kind c s x.space d ≡ record { card = c; reply = refusing (suc n) s x.space }
    go (refused m) e = ap (λ (r : ℕ). record { card = c; reply = refusing r s x.space }) e
    go (whole k m) e = absurd (let z : ⊥ = omega arith in z)

-- 10, or the bytes that are written
number_kept : (space : List ℕ) (n m : ℕ) → m ≡ suc n → rejected m space ≡ rejected (suc n) space
number_kept space n m q = ap (λ (r : ℕ). rejected r space) q

room_kept : (space : List ℕ) (n : ℕ) (bytes : List ℕ) (t : Bool) → (cond t (rejected no_space space) (accepting bytes space)).refusal ≡ suc n
    → cond t (rejected no_space space) (accepting bytes space) ≡ rejected (suc n) space
room_kept space n bytes true e = number_kept space n no_space e
room_kept space n bytes false e = absurd (let z : ⊥ = omega arith in z)

-- a session
pub run_keeps : (s space : List ℕ) (n : ℕ) → (run s space).refusal ≡ suc n → run s space ≡ rejected (suc n) space
unfolding run
run_keeps s space n e = on_frame_lem (frame s) e
  where
    on_end : (full : ℕ) (log : List ℕ) (t : Bool) → (cond (not t) (rejected bytes_left space) (written full log space)).refusal ≡ suc n
        → cond (not t) (rejected bytes_left space) (written full log space) ≡ rejected (suc n) space
    on_end full log true e = room_kept space n log (ltb (length space) full) e
    on_end full log false e = number_kept space n bytes_left e

    on_read : (x : Read) → (ended s space x).refusal ≡ suc n → ended s space x ≡ rejected (suc n) space
    on_read (stopped m) e = number_kept space n m e
    on_read (all ks i) e = on_end _ (log_of s ks) (eqb i (records_end (length s))) e

    on_frame_lem : (m : ℕ) → (framed s space m).refusal ≡ suc n → framed s space m ≡ rejected (suc n) space
    on_frame_lem zero e = on_read (read_from (count_of s) s (start_of s)) e
    on_frame_lem (suc m) e = number_kept space n (suc m) e

-- a session in the box
pub box_keeps : (s space : List ℕ) (n : ℕ) → (box_run s space).refusal ≡ suc n → box_run s space ≡ rejected (suc n) space
unfolding box_run
box_keeps s space n e = on_limits (box_refuses s) e
  where
    on_limits : (t : Bool) → (cond t (rejected box_limits space) (run s space)).refusal ≡ suc n
        → cond t (rejected box_limits space) (run s space) ≡ rejected (suc n) space
    on_limits true e = number_kept space n box_limits e
    on_limits false e = run_keeps s space n e

-- the session writer
pub writing_keeps : (p : Parts) (space : List ℕ) (n : ℕ) → (write_session p space).refusal ≡ suc n → write_session p space ≡ rejected (suc n) space
unfolding write_session
writing_keeps p space n e = on_checks (parts_refusal p) e
  where
    on_checks : (m : ℕ) → (placed p space m).refusal ≡ suc n → placed p space m ≡ rejected (suc n) space
    on_checks zero e = room_kept space n (session_bytes p) (ltb (length space) (length (session_bytes p))) e
    on_checks (suc m) e = number_kept space n (suc m) e

-- the trailer mender
pub mending_keeps : (s : List ℕ) (n : ℕ) → (mend s).refusal ≡ suc n → mend s ≡ unmended (suc n) s
unfolding mend
mending_keeps s n e = on_checks (untrailed_refusal s) e
  where
    on_search : (x : Search) → (mended_by s x).refusal ≡ suc n → mended_by s x ≡ unmended (suc n) s
    on_search nowhere e = ap (λ (r : ℕ). unmended r s) e
    on_search (found i k) e = absurd (let z : ⊥ = omega arith in z)

    on_checks : (m : ℕ) → (searched s m).refusal ≡ suc n → searched s m ≡ unmended (suc n) s
    on_checks zero e = on_search (smallest_start s) e
    on_checks (suc m) e = ap (λ (r : ℕ). unmended r s) e
