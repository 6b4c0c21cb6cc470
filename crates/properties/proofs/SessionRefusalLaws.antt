-- Of the conditions of a session: the first that applies is its refusal.
use Rattle.std.specs.Prelude.{ℕ, zero, suc, ◌+◌, ◌≤◌, Bool, true, false, cond, not, List, ◌++◌, ◌≡◌, refl, ltb, eqb, length}
use Rattle.std.proofs.Common.{sym, ap, ◌∙◌, arith}
use Rattle.model.specs.Sizes.{least_log}
use Rattle.model.specs.Reader.{records_end, part_at}
use Rattle.model.specs.Record.{record_length}
use Rattle.model.specs.Refusal.{staging_bytes, bytes_left, no_space}
use Rattle.model.specs.Session.{start_of, count_of, wrong_length, wrong_trailer, wrong_start, wrong_count, wrong_fuses, wrong_staging, frame, framed, run}
use Rattle.model.specs.Session.{Read, stopped, all, read_from, log_of, full_entries, rejected, ended, initial}
use Rattle.properties.specs.Conditions.{record_conditions, first}
use Rattle.properties.specs.ConditionsLaws.{first_append, Numbered, numbered_append, some, UpTo, up_to_append, first_up_to}
use Rattle.properties.specs.ConditionsLaws.{record_numbered}
use Rattle.properties.specs.SessionConditions.{place_past, records_conditions, last_conditions, session_conditions}
use Rattle.properties.specs.AcceptedSession.{accepting}
use Rattle.properties.specs.SessionConditionsLaws.{records_clean, first_stopped, full_length_lem}

past_frame : (s space : List ℕ) (a b c d e f : Bool) → (framed s space (cond a 1 (cond b 2 (cond c 3 (cond d 4 (cond e 5 (cond f 16 0))))))).refusal
    ≡ cond a 1 (cond b 2 (cond c 3 (cond d 4 (cond e 5 (cond f 16 (framed s space 0).refusal)))))
past_frame s space true b c d e f = refl
past_frame s space false true c d e f = refl
past_frame s space false false true d e f = refl
past_frame s space false false false true e f = refl
past_frame s space false false false false true f = refl
past_frame s space false false false false false true = refl
past_frame s space false false false false false false = refl

past_records : (s space : List ℕ) → (x : Read) → read_from (count_of s) s (start_of s) ≡ x
    → (ended s space x).refusal ≡ first (records_conditions (count_of s) s (start_of s)) (first (last_conditions s space) 0)
past_records s space (stopped r) e = sym (first_stopped (count_of s) s (start_of s) r e _)
past_records s space (all ks j) e =
    let c = records_clean (count_of s) s (start_of s) ks j e in
    rw (c.none (first (last_conditions s space) 0), c.place)
    (go (eqb (place_past (count_of s) s (start_of s)) (records_end (length s))) (ltb (length space) (full_entries ks (initial s) + least_log)) _
    (λ i. ltb (length space) (full_length_lem s ks j e i)))
  where
    go : (a b c : Bool) → b ≡ c
        → (cond (not a) (rejected bytes_left space) (cond b (rejected no_space space) (accepting (log_of s ks) space))).refusal
        ≡ cond (not a) bytes_left (cond c no_space 0)
    go true true c e = rw (sym e)
    go true false c e = rw (sym e)
    go false b c e = refl

pub refusal_first : (s space : List ℕ) → (run s space).refusal ≡ first (session_conditions s space) 0
unfolding run frame
refusal_first s space =
    past_frame s space (wrong_length s) (wrong_trailer s) (wrong_start s) (wrong_count s) (wrong_fuses s) (wrong_staging s)
    ∙ ap (λ (n : ℕ). cond (wrong_length s) 1 (rest n))
    (past_records s space (read_from (count_of s) s (start_of s)) refl
    ∙ sym (first_append (records_conditions (count_of s) s (start_of s)) (last_conditions s space) 0))
  where
    rest : ℕ → ℕ
    rest n = cond (wrong_trailer s) 2 (cond (wrong_start s) 3 (cond (wrong_count s) 4 (cond (wrong_fuses s) 5 (cond (wrong_staging s) 16 n))))

records_numbered : (n : ℕ) (s : List ℕ) (i : ℕ) → Numbered (records_conditions n s i)
records_numbered zero s i = tt
records_numbered (suc n) s i =
    numbered_append (record_conditions (part_at s i)) (records_conditions n s (i + record_length (part_at s i)))
    (record_numbered (part_at s i)) (records_numbered n s (i + record_length (part_at s i)))

pub session_numbered : (s space : List ℕ) → Numbered (session_conditions s space)
session_numbered s space = (some _, (some _, (some _, (some _, (some _, (some _, others))))))
  where
    others : Numbered (records_conditions (count_of s) s (start_of s) ++ last_conditions s space)
    others =
        numbered_append (records_conditions (count_of s) s (start_of s)) (last_conditions s space)
        (records_numbered (count_of s) s (start_of s)) (some _, (some _, tt))

-- none is beyond 16
records_up_to : (n : ℕ) (s : List ℕ) (i : ℕ) → UpTo staging_bytes (records_conditions n s i)
records_up_to zero s i = tt
records_up_to (suc n) s i =
    up_to_append staging_bytes (record_conditions (part_at s i)) (records_conditions n s (i + record_length (part_at s i)))
    (omega arith, (omega arith, (omega arith, (omega arith, (omega arith, tt))))) (records_up_to n s (i + record_length (part_at s i)))

pub refusal_most : (s space : List ℕ) → (run s space).refusal ≤ staging_bytes
refusal_most s space = rw (refusal_first s space) (first_up_to staging_bytes (session_conditions s space) all_up_to)
  where
    others : UpTo staging_bytes (records_conditions (count_of s) s (start_of s) ++ last_conditions s space)
    others =
        up_to_append staging_bytes (records_conditions (count_of s) s (start_of s)) (last_conditions s space)
        (records_up_to (count_of s) s (start_of s)) (omega arith, (omega arith, tt))

    all_up_to : UpTo staging_bytes (session_conditions s space)
    all_up_to = (omega arith, (omega arith, (omega arith, (omega arith, (omega arith, (omega arith, others))))))
