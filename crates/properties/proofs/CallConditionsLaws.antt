-- Of the conditions of a single command: the first that applies is its refusal, and where none applies the record is decoded whole
-- and its instruction carried out.
use Rattle.std.specs.Prelude.{ℕ, suc, ◌+◌, ◌≤◌, Bool, true, false, cond, not, ◌&&◌, ◌||◌, List, ◌++◌, ◌≡◌, refl, ltb, leb, eqb, length}
use Rattle.std.proofs.Common.{sym, ap, ◌∙◌, arith, ltb-true, ltb-false, le-ltb, lt-ltb, le-leb}
use Rattle.std.proofs.lemmas.Bool.{lt-leb}
use Rattle.model.specs.Sizes.{flag_at}
use Rattle.model.specs.Lists.{at}
use Rattle.model.specs.Volatile.{Active, none, selector}
use Rattle.model.specs.State.{State, is_busy}
use Rattle.model.specs.Busy.{acts_always, acts_busy}
use Rattle.model.specs.Instruction.{Instruction}
use Rattle.model.specs.At88sc1608.{at88sc1608}
use Rattle.model.specs.Call.{powered, Decoded, refused, whole, calling, checked, exact}
use Rattle.model.specs.Call as calls
use Rattle.laws.specs.CallLaws.{carried_out}
use Rattle.laws.specs.BusyLaws.{given_answer, given_answer_lem, tries_given}
use Rattle.model.specs.Record.{record_length, decode}
use Rattle.laws.specs.RecordLaws.{accepted, decode_kind}
use Rattle.laws.specs.Sane.{good_check}
use Rattle.model.specs.Session.{on_decoded, logged, after}
use Rattle.model.specs.Single.{staging_fits, active_below, state_in_range, check_of, check, answered_kind, act, admit, command}
use Rattle.properties.specs.SessionLaws.{refusal_nonzero}
use Rattle.properties.specs.Conditions.{record_conditions, response_length, first, NoneApplies}
use Rattle.properties.specs.ConditionsLaws.{first_append, Numbered, numbered_append, some, none_first, none_append}
use Rattle.properties.specs.ConditionsLaws.{record_numbered, first_record, decode_answer}
use Rattle.properties.specs.CallConditions.{wrong_card_length, wrong_fuse_byte, wrong_staging_bytes, selector_above, wrong_state, ignored_record}
use Rattle.properties.specs.CallConditions.{given_conditions, end_conditions, call_conditions}
use Rattle.properties.specs.AcceptedSession.{leaving}
use Rattle.properties.specs.TriesLaws.{handing}

-- ---- 12

-- above n is not below n + 1
above : (n k : ℕ) → ltb n k ≡ not (ltb k (suc n))
above n k = go (ltb n k) refl
  where
    go : (t : Bool) → ltb n k ≡ t → t ≡ not (ltb k (suc n))
    go true e = let l = ltb-true n k e in rw (le-ltb k (suc n) (omega arith))
    go false e = let l = ltb-false n k e in rw (lt-ltb k (suc n) (omega arith))

selector_above_lem : (n : ℕ) (a : Active) → selector_above n a ≡ not (active_below (suc n) a)
selector_above_lem n none = refl
selector_above_lem n (selector k) = above n k

either : (a b c : Bool) → (not a || (not b || not c)) ≡ not ((a && b) && c)
either true true c = refl
either true false c = refl
either false b c = refl

over : (n k : ℕ) → ltb n k ≡ not (leb k n)
over n k = go (ltb n k) refl
  where
    go : (t : Bool) → ltb n k ≡ t → t ≡ not (leb k n)
    go true e = let l = ltb-true n k e in rw (lt-leb k n l)
    go false e = let l = ltb-false n k e in rw (le-leb k n l)

wrong_state_lem : (s : State) → wrong_state s ≡ not (state_in_range at88sc1608 s)
wrong_state_lem s =
    rw (above 7 s.volatile.zone, selector_above_lem 15 s.volatile.active, over 10 s.busy)
    (either (ltb s.volatile.zone 8) (active_below 16 s.volatile.active) (leb s.busy 10))

-- ---- 16

wrong_staging_lem : (c : List ℕ) → wrong_staging_bytes c ≡ not (staging_fits c)
wrong_staging_lem c =
    rw (above 7 (at c (flag_at + 1)), over 8 (at c (flag_at + 3)))
    (go (eqb (at c flag_at) 0xFF) (eqb (at c flag_at) 0xFE) (ltb (at c (flag_at + 1)) 8) (leb (at c (flag_at + 3)) 8))
  where
    go : (a b d e : Bool) → (not a && (not b || (not d || not e))) ≡ not (a || (b && (d && e)))
    go true b d e = refl
    go false true true e = refl
    go false true false e = refl
    go false false d e = refl

-- ---- the refusal

-- the number of a decoded record: its refusal's, or n
abbrev number : Decoded Instruction → ℕ → ℕ
number d n = on_decoded d (λ r. r) (λ k m. n)

carried_number : (c : List ℕ) (s : State) (space : List ℕ) (d : Decoded Instruction)
    → (calls.carried check decode act answered_kind c s space d).reply.refusal ≡ number d 0
carried_number c s space (refused n) = refl
carried_number c s space (whole k n) = refl

-- 11, 5, 16, 12
past_checks : (c : List ℕ) (s : State) (d : Decoded Instruction) → number (checked (check c s) d) 0 ≡ first (given_conditions c s) (number d 0)
unfolding check_of
past_checks c s d =
    rw (wrong_staging_lem c, wrong_state_lem s) (go (wrong_card_length c) (wrong_fuse_byte c) (not (staging_fits c)) (not (state_in_range at88sc1608 s)))
  where
    go : (a b f e : Bool) → number (checked (cond a 11 (cond b 5 (cond f 16 (cond e 12 0)))) d) 0 ≡ cond a 11 (cond b 5 (cond f 16 (cond e 12 (number d 0))))
    go true b f e = refl
    go false true f e = refl
    go false false true e = refl
    go false false false true = refl
    go false false false false = refl

-- what is to be written, by the instruction and by the record's bytes
needed : (c : List ℕ) (s : State) (bytes : List ℕ) (k : Instruction) (n : ℕ) → decode bytes ≡ whole k n
    → given_answer at88sc1608 c s k ≡ cond (ignored_record c s bytes) 0 (response_length bytes)
needed c s bytes k n e =
    let q = decode_kind bytes k n e in
    λ i. cond (cond (s.off || eqb (at c flag_at) 0xFE) (not (acts_always (q i))) (is_busy s && not (acts_busy (q i)))) 0 (decode_answer bytes k n e i)

-- the record, 9, 10
past_record : (c : List ℕ) (s : State) (bytes space : List ℕ) (d : Decoded Instruction) → decode bytes ≡ d
    → number (calls.fitting check decode act c s (length space) (exact bytes d)) 0 ≡ first (record_conditions bytes) (first (end_conditions c s bytes space) 0)
past_record c s bytes space (refused n) e = sym (first_record bytes _ (refused n) e)
past_record c s bytes space (whole k n) e =
    rw (
      first_record bytes (first (end_conditions c s bytes space) 0) (whole k n) e,
      (accepted bytes k n e).size,
      ← (needed c s bytes k n e),
      ← (given_answer_lem at88sc1608 c s k),
    )
    (go (ltb n (length bytes)) (ltb (length space) (length (act c s k).report.answer)) refl)
  where
    go : (a b : Bool) → ltb (length space) (length (act c s k).report.answer) ≡ b
        → number (calls.fitting check decode act c s (length space) (cond a (refused 9) (whole k n))) 0 ≡ cond a 9 (cond b 10 0)
    go true b q = refl
    go false true q = rw q
    go false false q = rw q

pub refusal_first : (c : List ℕ) (s : State) (bytes space : List ℕ)
    → (command c s (calling bytes space)).reply.refusal ≡ first (call_conditions c s bytes space) 0
unfolding calls.command calls.admission
refusal_first c s bytes space =
    carried_number c s space (admit c s (calling bytes space))
    ∙ past_checks c s (calls.fitting check decode act c s (length space) (exact bytes (decode bytes)))
    ∙ ap (first (given_conditions c s))
    (past_record c s bytes space (decode bytes) refl ∙ sym (first_append (record_conditions bytes) (end_conditions c s bytes space) 0))

pub call_numbered : (c : List ℕ) (s : State) (bytes space : List ℕ) → Numbered (call_conditions c s bytes space)
call_numbered c s bytes space = (some _, (some _, (some _, (some _, others))))
  where
    others : Numbered (record_conditions bytes ++ end_conditions c s bytes space)
    others = numbered_append (record_conditions bytes) (end_conditions c s bytes space) (record_numbered bytes) (some _, (some _, tt))

-- ---- where none applies

-- the card and the state pass
checks_pass : (c : List ℕ) (s : State) → NoneApplies (given_conditions c s) → check c s ≡ 0
unfolding check_of
checks_pass c s n = rw (n.0, n.1.0, sym (wrong_staging_lem c) ∙ n.1.1.0, sym (wrong_state_lem s) ∙ n.1.1.1.0)

-- all its bytes are the record of an instruction, and that instruction is carried out
abbrev Carried : List ℕ → State → List ℕ → List ℕ → Type 0
Carried c s bytes space =
    (k : Instruction) × (decode bytes ≡ whole k (length bytes))
    × (command c s (calling bytes space)
    ≡ leaving (logged (powered c s) k).kind (tries_given at88sc1608 c s k (after (powered c s) k).card) (after (powered c s) k)
    (logged (powered c s) k).response space)

pub carries : (c : List ℕ) (s : State) (bytes space : List ℕ) → NoneApplies (call_conditions c s bytes space) → Carried c s bytes space
carries c s bytes space clean = on_record (decode bytes) refl
  where
    given : NoneApplies (given_conditions c s) × NoneApplies (record_conditions bytes ++ end_conditions c s bytes space)
    given = none_append (given_conditions c s) (record_conditions bytes ++ end_conditions c s bytes space) clean

    others : NoneApplies (record_conditions bytes) × NoneApplies (end_conditions c s bytes space)
    others = none_append (record_conditions bytes) (end_conditions c s bytes space) given.1

    on_record : (d : Decoded Instruction) → decode bytes ≡ d → Carried c s bytes space
    on_record (refused n) e =
        absurd (refusal_nonzero bytes n e (sym (first_record bytes 0 (refused n) e) ∙ none_first (record_conditions bytes) others.0))
    on_record (whole k n) e =
        let a = accepted bytes k n e in
        let left : length bytes ≤ record_length bytes = ltb-false (record_length bytes) (length bytes) others.1.0 in
        let room = ltb-false (length space) (cond (ignored_record c s bytes) 0 (response_length bytes)) others.1.1.0 in
        let ends : n ≡ length bytes = omega arith in
        let answer = given_answer_lem at88sc1608 c s k ∙ needed c s bytes k n e in (
          k,
          e ∙ ap (whole k) ends,
          carried_out check decode act answered_kind c s (calling bytes space) k n
              (record { checks = checks_pass c s given.0; decodes = e; exactly = omega arith; fits = omega arith })
              ∙ handing c s k (good_check c s (checks_pass c s given.0)).fit.long space,
        )
