-- Of record k of an accepted session: its bytes alone are the record of instruction k, which a single command carries out.
use Rattle.std.specs.Prelude.{ℕ, zero, suc, ◌+◌, ◌≤◌, ◌<◌, List, [], ◌∷◌, ◌≡◌, refl, length}
use Rattle.std.proofs.Common.{sym, ap, ◌∙◌, le_of_suc-le-suc, arith, length-take}
use Rattle.model.specs.Lists.{Bytes}
use Rattle.model.specs.State.{State}
use Rattle.model.specs.Instruction.{Instruction}
use Rattle.model.specs.At88sc1608.{at88sc1608}
use Rattle.model.specs.Call.{Powered, calling, whole}
use Rattle.laws.specs.BusyLaws.{tries_given}
use Rattle.laws.specs.CallLaws.{Admitted, carried_out}
use Rattle.model.specs.LogCheck.{find, answer_in}
use Rattle.model.specs.Reader.{records_end, part_at, next_of}
use Rattle.model.specs.Record.{record_length, decode}
use Rattle.laws.specs.RecordLaws.{Ranged, accepted, decode_front}
use Rattle.laws.specs.Sane.{Good, check_good, good_after}
use Rattle.model.specs.Session.{start_of, count_of, read_from, all, after, log_of, initial}
use Rattle.model.specs.Single.{check, answered_kind, act, command}
use Rattle.properties.specs.SessionConditions.{place_past}
use Rattle.properties.specs.AcceptedSession.{Accepts, Every, instruction_at, reached, record_at, kind_in, leaving}
use Rattle.properties.specs.SessionLaws.{read_first}
use Rattle.properties.specs.AcceptedSessionLaws.{framed_well, card_good}
use Rattle.properties.specs.ReadBack.{all_ranged, kind_back, answer_back}
use Rattle.properties.specs.TriesLaws.{handing}

-- record k is instruction k, and its bytes alone are that record
pub next_is : (n : ℕ) (s : List ℕ) (i : ℕ) (ks : List Instruction) (j : ℕ) → read_from n s i ≡ all ks j → (k : ℕ) → k < n
    → next_of s (place_past k s i) ≡ whole (instruction_at ks k) (record_length (part_at s (place_past k s i)))
next_is zero s i ks j e k h = absurd (let z : ⊥ = omega arith in z)
next_is (suc n) s i ks j e zero h =
    let f = read_first n s i ks j e in
    rw f.list (f.next ∙ ap (whole f.command) (sym (accepted (part_at s i) f.command f.size f.next).size))
next_is (suc n) s i ks j e (suc k) h =
    let f = read_first n s i ks j e in
    let l : record_length (part_at s i) ≡ f.size = (accepted (part_at s i) f.command f.size f.next).size in
    rw (f.list, l) (next_is n s (i + f.size) f.others j f.rest k (le_of_suc-le-suc h))

pub record_is : (s : List ℕ) (i : ℕ) (k : Instruction) → next_of s i ≡ whole k (record_length (part_at s i))
    → decode (record_at s i) ≡ whole k (record_length (part_at s i))
record_is s i k e = decode_front (part_at s i) k (record_length (part_at s i)) e

-- what is reached before record k + 1 is what instruction k leaves
reached_after : (ks : List Instruction) (m : Powered State) (k : ℕ) → k < length ks → reached ks m (suc k) ≡ after (reached ks m k) (instruction_at ks k)
reached_after [] m k h = absurd (let z : ⊥ = omega arith in z)
reached_after (x ∷ ks) m zero h = refl
reached_after (x ∷ ks) m (suc k) h = reached_after ks (after m x) k (le_of_suc-le-suc h)

reached_good : (ks : List Instruction) (m : Powered State) (k : ℕ) → Every Ranged ks → Good m.card m.state
    → Good (reached ks m k).card (reached ks m k).state
reached_good ks m zero f g = g
reached_good [] m (suc k) f g = g
reached_good (x ∷ ks) m (suc k) f g = reached_good ks (after m x) k f.1 (good_after m.card m.state x f.0 g)

module _ (s log : List ℕ) (ks : List Instruction) (bytes : Bytes s) (a : Accepts s log ks) where
  pub one_record : (k : ℕ) → k < count_of s → (space : List ℕ) → length (answer_in (log_of s ks) (find (log_of s ks) k)) ≤ length space
      → command (reached ks (initial s) k).card (reached ks (initial s) k).state (calling (record_at s (place_past k s (start_of s))) space)
      ≡ leaving (kind_in (log_of s ks) k) (tries_given at88sc1608 (reached ks (initial s) k).card (reached ks (initial s) k).state (instruction_at ks k)
      (reached ks (initial s) (suc k)).card)
      (reached ks (initial s) (suc k)) (answer_in (log_of s ks) (find (log_of s ks) k)) space
  one_record k h space room =
      let m : Powered State = reached ks (initial s) k in
      let r : List ℕ = record_at s (place_past k s (start_of s)) in
      let q = answer_back s log ks bytes a k h in
      let fields = all_ranged s log ks bytes a in
      let good = reached_good ks (initial s) k fields.every (card_good s (framed_well s a.frames)) in
      let end = record_length (part_at s (place_past k s (start_of s))) in
      let admitted : Admitted check decode act m.card m.state (calling r space) (instruction_at ks k) end =
      record {
        checks = check_good m.card m.state good;
        decodes = record_is s (place_past k s (start_of s)) (instruction_at ks k) (next_is (count_of s) s (start_of s) ks (records_end (length s)) a.reads k h);
        exactly = let l = length-take (record_length (part_at s (place_past k s (start_of s)))) (part_at s (place_past k s (start_of s))) in omega arith;
        fits = rw q at room;
      } in
      carried_out check decode act answered_kind m.card m.state (calling r space) (instruction_at ks k) _ admitted
      ∙ handing m.card m.state (instruction_at ks k) good.fit.long space
      ∙ rw (q, kind_back s log ks bytes a k h, reached_after ks (initial s) k (rw fields.number h))
