-- How large the numbers in a result can be: a response has at most 256 bytes, a log at most 4096 entries of 260 bytes, a card
-- and its trailer, a session 65,536 bytes.
use Rattle.std.specs.Prelude.{ℕ, zero, suc, ◌+◌, ◌*◌, ◌≤◌, ◌<◌, true, List, ◌≡◌, refl, length}
use Rattle.std.proofs.Common.{le_of_suc-le-suc, arith}
use Rattle.model.specs.Sizes.{least_log, greatest_session, most_records}
use Rattle.model.specs.Lists.{at, Bytes}
use Rattle.laws.specs.BoolLaws.{choice, and_left, and_right}
use Rattle.model.specs.At88sc1608.{at88sc1608, counter_at, attempts_at}
use Rattle.model.specs.Call.{Decoded, refused, whole, Call}
use Rattle.model.specs.Call as calls
use Rattle.laws.specs.CallLaws.{admitted}
use Rattle.model.specs.Instruction.{Command, reset, select, read_zone, write_zone, read_configuration, write_configuration, read_fuses, write_fuses, verify_password}
use Rattle.model.specs.Instruction.{begin_authentication, verify_authentication, Instruction, power_cycle, issue, wait, poll, write_staged, arm}
use Rattle.model.specs.State.{State}
use Rattle.model.specs.Busy.{ignores}
use Rattle.laws.specs.BusyLaws.{given_answer_lem, given_most, tries_used}
use Rattle.laws.specs.Effects.{tries_after}
use Rattle.laws.specs.Sane.{good_check}
use Rattle.model.specs.Log.{Ending, zoned, Entry, LaidOut}
use Rattle.model.specs.LogCheck.{length_at, next_entry, entry_ok, entries_ok, entry_place, count_of, offset_of, trailer_ok, valid_as, place_of, find, located}
use Rattle.model.specs.Record.{decode}
use Rattle.model.specs.Box.{box_run}
use Rattle.model.specs.Session.{run}
use Rattle.model.specs.Single.{check, answered_kind, act, admit, command}
use Rattle.model.specs.Writer.{Parts, write_session}
use Rattle.model.specs.Mender.{mend}
use Rattle.laws.specs.EntryLaws.{header_most}
use Rattle.laws.specs.WriterLaws.{writable}
use Rattle.properties.specs.LogLaws.{entered, trailed, answered}
use Rattle.properties.specs.Written.{fits_small, entry_small, entries_small, log_length_lem}
use Rattle.properties.proofs.SessionAcceptance.{accepted_run, run_accepted}
use Rattle.properties.specs.TriesLeft.{at_most_eight, given_out}
use Rattle.properties.proofs.BoxAcceptance.{same_run}
use Rattle.properties.specs.Refused.{refused_run, refused_box, refused_writing}
use Rattle.properties.specs.SessionPartsLaws.{accepted_parts}
use Rattle.properties.specs.ReadBack.{laid_out}
use Rattle.properties.proofs.SessionMendingLaws.{mend_within}
use Rattle.properties.specs.SessionLaws.{decode_logs}

-- ---- a response

-- of a record of bytes
pub response_small : (c : List ℕ) (s : State) (x : Call) → Bytes x.sent → (command c s x).reply.size ≤ 256
unfolding calls.command
response_small c s x b = go (admit c s x) refl
  where
    go : (d : Decoded Instruction) → admit c s x ≡ d → (calls.carried check decode act answered_kind c s x.space d).reply.size ≤ 256
    go (refused n) e = omega arith
    go (whole k n) e =
        let a = admitted check decode act c s x k n e in
        let f = fits_small _ _ (decode_logs x.sent b k n a.decodes).1 in
        let m = given_most at88sc1608 c s k in
        rw (given_answer_lem at88sc1608 c s k) (omega arith)

-- the tries are at most eight
tries_after_lem : (k : Command) (c : List ℕ) → tries_after at88sc1608 k c ≤ 8
tries_after_lem reset c = omega arith
tries_after_lem (select z) c = omega arith
tries_after_lem (read_zone a n) c = omega arith
tries_after_lem (write_zone a xs) c = omega arith
tries_after_lem (read_configuration a n) c = omega arith
tries_after_lem (write_configuration a xs) c = omega arith
tries_after_lem read_fuses c = omega arith
tries_after_lem write_fuses c = omega arith
tries_after_lem (verify_password k xs) c = at_most_eight (at c (counter_at k))
tries_after_lem begin_authentication c = at_most_eight (at c attempts_at)
tries_after_lem (verify_authentication v xs) c = omega arith

tries_used_lem : (i : Instruction) (c : List ℕ) → tries_used at88sc1608 i c ≤ 8
tries_used_lem power_cycle c = omega arith
tries_used_lem (issue k) c = tries_after_lem k c
tries_used_lem (wait n) c = omega arith
tries_used_lem poll c = omega arith
tries_used_lem (write_staged a xs) c = omega arith
tries_used_lem (arm k junk) c = omega arith

pub tries_small : (c : List ℕ) (s : State) (x : Call) → (command c s x).reply.tries ≤ 8
unfolding calls.command
tries_small c s x = go (admit c s x) refl
  where
    go : (d : Decoded Instruction) → admit c s x ≡ d → (calls.carried check decode act answered_kind c s x.space d).reply.tries ≤ 8
    go (refused n) e = omega arith
    go (whole k n) e =
        let g = good_check c s (admitted check decode act c s x k n e).checks in
        rw (given_out c s k g.fit.long) (choice (λ m. m ≤ 8) (ignores at88sc1608 c s k) 0 _ (omega arith) (tries_used_lem k (act c s k).card))

-- ---- an answer of a log

module _ (E : Ending) (l : List ℕ) (end : ℕ) where
  place_small : (n i : ℕ) → entries_ok E n l i end ≡ true → (k : ℕ) → k < n
      → (length_at l (entry_place E k l i) ≤ 256) × (entry_place E k l i ≤ i + 260 * k)
  place_small zero i e k h = absurd (let z : ⊥ = omega arith in z)
  place_small (suc n) i e zero h = (entry_small _ _ (entered E l i end (and_left (entry_ok E l i end) _ e)).fits, omega arith)
  place_small (suc n) i e (suc k) h =
      let f = entry_small _ _ (entered E l i end (and_left (entry_ok E l i end) _ e)).fits in
      let d = header_most E (at l i) in
      let p = place_small n (next_entry E l i) (and_right (entry_ok E l i end) _ e) k (le_of_suc-le-suc h) in
      (p.0, let q = p.1 in omega arith)

pub answer_small : (l : List ℕ) (k from n : ℕ) → find l k ≡ located from n → (n ≤ 256) × (from ≤ 260 * most_records)
unfolding valid_as
answer_small l k from n e =
    let a = answered l k from n e in
    let E : Ending = zoned in
    let t = (trailed E l (and_left (trailer_ok E l) _ a.accepted)).few in
    let p = place_small E l (offset_of l) (count_of l) 0 (and_right (trailer_ok E l) _ a.accepted) k a.counted in
    let d = header_most E (at l (place_of l k)) in
    let s = a.start in
    let z = a.size in
    let c = a.counted in
    let q = p.0 in
    let r = p.1 in
    (omega arith, omega arith)

-- ---- a log

log_small : (es : List Entry) (card l : List ℕ) → LaidOut zoned es card l → length l ≤ 260 * most_records + least_log
log_small es card l w =
    let s = entries_small zoned es w.fit in
    let f = w.few in
    let e = log_length_lem zoned es card l w in
    omega arith

-- of a session of bytes
pub run_small : (s space : List ℕ) → Bytes s → (run s space).size ≤ 260 * most_records + least_log
run_small s space b = go (run s space).refusal refl
  where
    go : (n : ℕ) → (run s space).refusal ≡ n → (run s space).size ≤ 260 * most_records + least_log
    go zero e =
        let a = accepted_run s space e in
        rw (run_accepted s space a.0 a.1) (log_small _ _ _ (laid_out s space a.0 b a.1))
    go (suc n) e = rw (refused_run s space n e) (omega arith)

-- and in the box
pub box_run_small : (s space : List ℕ) → Bytes s → (box_run s space).size ≤ 260 * most_records + least_log
box_run_small s space b = go (box_run s space).refusal refl
  where
    go : (n : ℕ) → (box_run s space).refusal ≡ n → (box_run s space).size ≤ 260 * most_records + least_log
    go zero e = rw (← (same_run s space e)) (run_small s space b)
    go (suc n) e = rw (refused_box s space n e) (omega arith)

-- ---- a session that is written

pub writing_small : (p : Parts) (space : List ℕ) → (write_session p space).size ≤ greatest_session
writing_small p space = go (write_session p space).refusal refl
  where
    go : (n : ℕ) → (write_session p space).refusal ≡ n → (write_session p space).size ≤ greatest_session
    go zero e = let a = accepted_parts p space e in rw a.1 (writable p a.0).short
    go (suc n) e = rw (refused_writing p space n e) (omega arith)

-- ---- a mended session

pub mending_small : (s : List ℕ) → ((mend s).count ≤ most_records) × ((mend s).start ≤ greatest_session)
mending_small = mend_within
