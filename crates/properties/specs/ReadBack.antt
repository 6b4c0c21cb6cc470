-- Of the log of an accepted session: it is laid out from the session's entries and its final card, so it reads back.
use Rattle.std.specs.Prelude.{ℕ, zero, suc, ◌+◌, ◌-◌, ◌≤◌, ◌<◌, Bool, true, false, List, [], ◌∷◌, ◌≡◌, refl, ltb, length, take, drop}
use Rattle.std.proofs.Common.{ap, ◌∙◌, le_of_suc-le-suc, arith, ltb-true, ltb-false, length-take, get_or-take, get_or-drop}
use Rattle.std.proofs.Math.ListN.{get_or-eq_default}
use Rattle.model.specs.Sizes.{card_size}
use Rattle.model.specs.Lists.{at, Bytes}
use Rattle.model.specs.State.{State}
use Rattle.model.specs.Instruction.{Instruction}
use Rattle.model.specs.Call.{Powered}
use Rattle.model.specs.Log.{zoned, names_zone, Entry, header_length, entries_bytes, LaidOut}
use Rattle.model.specs.LogCheck.{valid, find, missing, located, answer_in}
use Rattle.model.specs.LogCheck as log
use Rattle.model.specs.Reader.{records_end, part_at}
use Rattle.laws.specs.RecordLaws.{Ranged, decode_ranged}
use Rattle.model.specs.Refusal.{no_such_answer}
use Rattle.laws.specs.Sane.{Good}
use Rattle.model.specs.Session.{start_of, count_of, logged, after, entries_of, end_of, log_of, initial}
use Rattle.properties.specs.Written.{count_is, written_ending, written_valid, written_kind, written_zone, written_answer, written_none}
use Rattle.properties.specs.Written.{written_found, written_card}
use Rattle.properties.specs.SessionLaws.{Logs, decode_logs, Readings, readings, end_good, entries_length, entries_fit}
use Rattle.properties.specs.AcceptedSession.{Accepts, reached, instruction_at, kind_in, zone_in, entry_of}
use Rattle.properties.specs.AcceptedSessionLaws.{Framed, framed_well, card_good}

-- what instruction k logs
pub entry_is : (ks : List Instruction) (m : Powered State) (k : ℕ) → k < length ks
    → entry_of (entries_of ks m) k ≡ logged (reached ks m k) (instruction_at ks k)
entry_is [] m k h = absurd (let z : ⊥ = omega arith in z)
entry_is (x ∷ ks) m zero h = refl
entry_is (x ∷ ks) m (suc k) h = entry_is ks (after m x) k (le_of_suc-le-suc h)

-- ---- an accepted session of bytes

part_bytes : (s : List ℕ) → Bytes s → (i : ℕ) → Bytes (part_at s i)
part_bytes s b i j = go (ltb j (records_end (length s) - i)) refl
  where
    go : (t : Bool) → ltb j (records_end (length s) - i) ≡ t → at (part_at s i) j < 256
    go true e = rw (get_or-take (records_end (length s) - i) (drop i s) j 0 (ltb-true _ _ e), get_or-drop i s j 0) (b (i + j))
    go false e =
        let a = length-take (records_end (length s) - i) (drop i s) in
        let c : records_end (length s) - i ≤ j = ltb-false j (records_end (length s) - i) e in
        let l : length (part_at s i) ≤ j = omega arith in
        rw (get_or-eq_default (part_at s i) 0 l) (omega arith)

module _ (s space : List ℕ) (ks : List Instruction) (bytes : Bytes s) (a : Accepts s space ks) where
  framed : Framed s
  framed = framed_well s a.frames

  pub all_ranged : Readings Ranged (count_of s) s ks (records_end (length s))
  all_ranged =
      readings Ranged s (λ i k m e. decode_ranged (part_at s i) k m e) (count_of s) (start_of s) ks (records_end (length s)) framed.high a.reads

  all_logs : Readings Logs (count_of s) s ks (records_end (length s))
  all_logs =
      readings Logs s (λ i k m e. decode_logs (part_at s i) (part_bytes s bytes i) k m e)
      (count_of s) (start_of s) ks (records_end (length s)) framed.high a.reads

  pub final_good : Good (end_of ks (initial s)).card (end_of ks (initial s)).state
  final_good = end_good ks (initial s) all_ranged.every (card_good s framed)

  abbrev es : List Entry
  es = entries_of ks (initial s)

  abbrev card : List ℕ
  card = (end_of ks (initial s)).card

  pub laid_out : LaidOut zoned es card (log_of s ks)
  laid_out =
      record {
        few = rw (entries_length ks (initial s), all_ranged.number) framed.few;
        fit = entries_fit ks (initial s) all_logs.every all_ranged.every (card_good s framed);
        long = final_good.fit.long;
        stage = final_good.fit.stage;
        staging = final_good.fit.staging;
        same = refl;
      }

  pub ending_back : at (log_of s ks) (length (log_of s ks) - 1) ≡ 0x50
  ending_back = written_ending es card (log_of s ks) laid_out

  pub valid_back : valid (log_of s ks) ≡ true
  valid_back = written_valid es card (log_of s ks) laid_out

  pub count_back : log.count_of (log_of s ks) ≡ count_of s
  count_back = count_is zoned es card (log_of s ks) laid_out ∙ entries_length ks (initial s) ∙ all_ranged.number

  -- record k is one of the entries, and what it logs is the entry with its number
  module _ (k : ℕ) (h : k < count_of s) where
    counted : k < length es
    counted = rw (entries_length ks (initial s), all_ranged.number) h

    entry_back : entry_of es k ≡ logged (reached ks (initial s) k) (instruction_at ks k)
    entry_back = entry_is ks (initial s) k (rw all_ranged.number h)

    pub answer_back : answer_in (log_of s ks) (find (log_of s ks) k) ≡ (logged (reached ks (initial s) k) (instruction_at ks k)).response
    answer_back = written_answer es card (log_of s ks) laid_out k counted ∙ ap (λ (e : Entry). e.response) entry_back

    pub found_back : find (log_of s ks) k
        ≡ located (length (entries_bytes zoned (take k es)) + header_length zoned (logged (reached ks (initial s) k) (instruction_at ks k)).kind)
        (length (logged (reached ks (initial s) k) (instruction_at ks k)).response)
    found_back =
        written_found es card (log_of s ks) laid_out k counted
        ∙ ap (λ (e : Entry). located (length (entries_bytes zoned (take k es)) + header_length zoned e.kind) (length e.response)) entry_back

    pub kind_back : kind_in (log_of s ks) k ≡ (logged (reached ks (initial s) k) (instruction_at ks k)).kind
    kind_back = written_kind es card (log_of s ks) laid_out k counted ∙ ap (λ (e : Entry). e.kind) entry_back

    pub zone_back : names_zone (kind_in (log_of s ks) k) ≡ true → zone_in (log_of s ks) k ≡ (reached ks (initial s) k).state.volatile.zone
    zone_back n =
        written_zone es card (log_of s ks) laid_out k counted (rw (← (written_kind es card (log_of s ks) laid_out k counted)) n)
        ∙ ap (λ (e : Entry). e.zone) entry_back

  pub none_back : (k : ℕ) → count_of s ≤ k → find (log_of s ks) k ≡ missing no_such_answer
  none_back k h = written_none es card (log_of s ks) laid_out k (rw (entries_length ks (initial s), all_ranged.number) h)

  pub card_back : take card_size (drop (log.offset_of (log_of s ks)) (log_of s ks)) ≡ (end_of ks (initial s)).card
  card_back = written_card zoned es card (log_of s ks) laid_out
