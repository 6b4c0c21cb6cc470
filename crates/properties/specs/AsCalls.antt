-- The records of a session as a list of single commands, each with just the room for its response: what that list gives back and
-- leaves is what the session logs and leaves.
use Rattle.std.specs.Prelude.{ℕ, zero, suc, ◌+◌, List, [], ◌∷◌, map, ◌≡◌, refl, take, replicate}
use Rattle.std.proofs.Common.{ap, subst, ◌∙◌, arith, length-take}
use Rattle.std.proofs.lemmas.List.{length-replicate}
use Rattle.std.proofs.Math.Seq.{take-append_seam}
use Rattle.model.specs.State.{State}
use Rattle.model.specs.Instruction.{Instruction}
use Rattle.model.specs.At88sc1608.{at88sc1608}
use Rattle.model.specs.Call.{Powered, Reply, Call, calling, whole, admit, step, carried}
use Rattle.model.specs.Call as calls
use Rattle.laws.specs.CallLaws.{Admitted, admitted, carried_out}
use Rattle.laws.specs.BusyLaws.{given_answer_lem, given_most}
use Rattle.model.specs.Log.{Entry}
use Rattle.model.specs.Reader.{part_at}
use Rattle.model.specs.Record.{record_length, decode}
use Rattle.laws.specs.RecordLaws.{accepted, decode_ranged, decode_front}
use Rattle.laws.specs.Sane.{Good, check_good, good_after}
use Rattle.model.specs.Session.{read_from, all, logged, after, entries_of, end_of}
use Rattle.model.specs.Single.{check, answered_kind, act, command, replies, final}
use Rattle.secrecy.specs.Along.{Along}
use Rattle.properties.specs.Conditions.{response_length}
use Rattle.properties.specs.SessionSecret.{tries_in, states_in, EveryAlong}
use Rattle.properties.specs.SessionLaws.{read_first, read_none}
use Rattle.properties.specs.ConditionsLaws.{decode_answer}

abbrev pub call_of : List ℕ → Call
call_of part = calling (take (record_length part) part) (replicate (response_length part) 0)

abbrev pub call_at : List ℕ → ℕ → Call
call_at s i = call_of (part_at s i)

abbrev pub calls_from : ℕ → List ℕ → ℕ → List Call
calls_from zero s i = []
calls_from (suc n) s i = call_at s i ∷ calls_from n s (i + record_length (part_at s i))

-- the entries of replies, each with the zone that the reply before it left, the tries that they hand out, the states that they leave
abbrev pub entry_from : ℕ → Reply State → Entry
entry_from zone r = record { kind = r.kind; zone = zone; response = take r.size r.space }

abbrev pub entries_from : ℕ → List (Reply State) → List Entry
entries_from zone [] = []
entries_from zone (r ∷ rs) = entry_from zone r ∷ entries_from r.state.volatile.zone rs

abbrev pub tries_from : List (Reply State) → List ℕ
tries_from rs = map (λ r. r.tries) rs

abbrev pub states_from : List (Reply State) → List State
states_from rs = map (λ r. r.state) rs

-- a call's record is admitted as itself
module _ (s : List ℕ) (i : ℕ) (k : Instruction) (n : ℕ) (e : decode (part_at s i) ≡ whole k n) (m : Powered State) (g : Good m.card m.state) where
  length_is : record_length (part_at s i) ≡ n
  length_is = (accepted (part_at s i) k n e).size

  admits : Admitted check decode act m.card m.state (call_at s i) k n
  admits =
      record {
        checks = check_good m.card m.state g;
        decodes = ap (λ (x : ℕ). decode (take x (part_at s i))) length_is ∙ decode_front (part_at s i) k n e;
        exactly = let l = length-take (record_length (part_at s i)) (part_at s i) in let q = length_is in omega arith;
        fits = rw (length-replicate, given_answer_lem at88sc1608 m.card m.state k, ← (decode_answer (part_at s i) k n e))
            (given_most at88sc1608 m.card m.state k);
      }

  pub does : command m.card m.state (call_at s i) ≡ carried check decode act answered_kind m.card m.state (call_at s i).space (whole k n)
  does = carried_out check decode act answered_kind m.card m.state (call_at s i) k n admits

  pub steps : step check decode act answered_kind m (call_at s i) ≡ after m k
  steps = rw does

  pub enters : entry_from m.state.volatile.zone (command m.card m.state (call_at s i)).reply ≡ logged m k
  enters =
      rw does
      (ap (λ (r : List ℕ). record { kind = answered_kind m.card m.state k; zone = m.state.volatile.zone; response = r })
      (take-append_seam (act m.card m.state k).report.answer _))

  pub hands : (command m.card m.state (call_at s i)).reply.tries ≡ (act m.card m.state k).report.tries
  hands = rw does

  pub moves : (command m.card m.state (call_at s i)).reply.state ≡ (after m k).state
  moves = rw does

  pub good : Good (after m k).card (after m k).state
  good = good_after m.card m.state k (decode_ranged (part_at s i) k n e) g

  -- and as nothing else
  pub carries : (Ok : Instruction → Type 0) → Ok k → (k' : Instruction) (n' : ℕ)
      → admit check decode act m.card m.state (call_at s i) ≡ whole k' n' → Ok k'
  carries Ok ok k' n' q =
      let a = (admitted check decode act m.card m.state (call_at s i) k' n' q).decodes in
      let b = admits.decodes in
      subst Ok (let w : k ≡ k' = cc in w) ok

-- what the calls of a session's records do
pub record Same (xs : List Call) (ks : List Instruction) (m : Powered State) : Type 1 where
  pub ends : final xs m ≡ end_of ks m
  pub entries : entries_from m.state.volatile.zone (replies xs m) ≡ entries_of ks m
  pub tries : tries_from (replies xs m) ≡ tries_in ks m
  pub states : states_from (replies xs m) ≡ states_in ks m
  pub along : (Ok : List ℕ → State → Instruction → Type 0) → EveryAlong Ok ks m → Along check decode act answered_kind Ok xs m

pub as_calls : (n : ℕ) (s : List ℕ) (i : ℕ) (ks : List Instruction) (j : ℕ) → read_from n s i ≡ all ks j → (m : Powered State) → Good m.card m.state
    → Same (calls_from n s i) ks m
unfolding Along calls.replies calls.final
as_calls zero s i ks j e m g = rw (read_none s i ks j e).0 (record { ends = refl; entries = refl; tries = refl; states = refl; along = λ Ok o. tt })
as_calls (suc n) s i ks j e m g =
    let f = read_first n s i ks j e in
    let k : Instruction = f.command in
    let st = steps s i k f.size f.next m g in
    let l = (accepted (part_at s i) k f.size f.next).size in
    let r : Same (calls_from n s (i + record_length (part_at s i))) f.others (after m k) =
    rw l (as_calls n s (i + f.size) f.others j f.rest (after m k) (good s i k f.size f.next m g)) in
    rw f.list
    (record {
      ends = ap (final (calls_from n s (i + record_length (part_at s i)))) st ∙ r.ends;
      entries = λ t. enters s i k f.size f.next m g t
          ∷ ((λ u. entries_from (moves s i k f.size f.next m g u).volatile.zone (replies (calls_from n s (i + record_length (part_at s i))) (st u)))
          ∙ r.entries) t;
      tries = λ t. hands s i k f.size f.next m g t
          ∷ (ap (λ (x : Powered State). tries_from (replies (calls_from n s (i + record_length (part_at s i))) x)) st ∙ r.tries) t;
      states = λ t. moves s i k f.size f.next m g t
          ∷ (ap (λ (x : Powered State). states_from (replies (calls_from n s (i + record_length (part_at s i))) x)) st ∙ r.states) t;
      along = λ Ok o. (carries s i k f.size f.next m g (Ok m.card m.state) o.0, rw st (r.along Ok o.1));
    })
