-- What a record leaves, by whether a busy card ignores it.
use Rattle.std.specs.Prelude.{ℕ, ◌+◌, ◌≤◌, Bool, true, false, cond, not, ◌&&◌, List, [], ◌++◌, ◌≡◌, ltb, length, drop}
use Rattle.std.proofs.Common.{sym, ap, ◌∙◌, ltb-true}
use Rattle.model.specs.Instruction.{Instruction, kind_of}
use Rattle.model.specs.At88sc1608.{at88sc1608}
use Rattle.model.specs.State.{State}
use Rattle.model.specs.Busy.{acts_always, acts_busy, is_halted, ignores}
use Rattle.model.specs.Record.{made}
use Rattle.laws.specs.BoolLaws.{and_left}
use Rattle.laws.specs.BusyLaws.{full_answer, act_ignored, act_performed, full_answer_lem}
use Rattle.laws.specs.RecordLaws.{decode_ranged, decode_within}
use Rattle.record.specs.DecodedRecord.{head_of}
use Rattle.record.specs.HeadLaws.{head_known, head_kind, head_answer}
use Rattle.record.specs.declared.decoder.Head.{Head}
use Rattle.issue.specs.Issued.{Ready, Carried}
use Rattle.carry.specs.Carried.{ActReady, Acted}

module _ (c : List ℕ) (s : State) (i : Instruction) (bytes : List ℕ) (end : ℕ) (space : List ℕ) (h : Head)
    (r : (h ≡ head_of bytes) × ActReady c s i bytes end space) where
  pub act_known : (1 ≤ h.kind) × (h.kind ≤ 16)
  act_known = head_known bytes i end r.1.decodes h r.0

  kind_same : h.kind ≡ kind_of i
  kind_same = head_kind bytes i end r.1.decodes h r.0

  module _ (b t : Bool) (halts : b ≡ is_halted at88sc1608 c s) (tested : t ≡ cond b (not (acts_always h.kind))
      (ltb 0 s.busy && not (acts_busy h.kind))) where
    test_same : t ≡ ignores at88sc1608 c s i
    test_same = tested ∙ (λ j. cond (halts j) (not (acts_always (kind_same j))) (ltb 0 s.busy && not (acts_busy (kind_same j))))

    pub acted_ignored : t ≡ true → Acted c s i space c (h.kind + 128) 0 s 0 space
    acted_ignored q =
        let e : ignores at88sc1608 c s i ≡ true = sym test_same ∙ q in
        let a = sym (act_ignored at88sc1608 c s i e) in
        record {
          card = λ j. (a j).card;
          kind_is = ap (λ (k : ℕ). k + 128) kind_same ∙ ap (λ (b : Bool). cond b (kind_of i + 128) (kind_of i)) (sym e);
          size_is = λ j. length (a j).report.answer;
          state = λ j. (a j).report.state;
          handed = λ j. (a j).report.tries;
          answer = λ j. (a j).report.answer ++ space;
        }

    module _ (q : t ≡ false) where
      heeded : ignores at88sc1608 c s i ≡ false
      heeded = sym test_same ∙ q

      pub carry_ready : Ready c s i bytes end space
      carry_ready =
          record {
            long = r.1.good.fit.long;
            staging = r.1.good.fit.staging;
            zone = ltb-true s.volatile.zone 8 (and_left _ _ r.1.good.fit.range);
            ranged = decode_ranged bytes i end r.1.decodes;
            within = (decode_within bytes i end r.1.decodes).1;
            room = rw heeded at r.1.room;
          }

      pub acted_carried : (a : ℕ) (c' : List ℕ) (s' : State) (tries : ℕ) (space' : List ℕ) → a ≡ full_answer at88sc1608 (made h.kind 0 h.n [])
          → Carried c s i space c' s' tries space' → Acted c s i space c' h.kind a s' tries space'
      acted_carried a c' s' tries space' p w =
          let m = sym (act_performed at88sc1608 c s i heeded) in
          let full : a ≡ full_answer at88sc1608 i = p ∙ head_answer bytes i end r.1.decodes h r.0 in
          record {
            card = w.card ∙ (λ j. (m j).card);
            kind_is = kind_same ∙ ap (λ (b : Bool). cond b (kind_of i + 128) (kind_of i)) (sym heeded);
            size_is = full ∙ sym (full_answer_lem at88sc1608 c s i) ∙ (λ j. length (m j).report.answer);
            state = w.state ∙ (λ j. (m j).report.state);
            handed = w.handed ∙ (λ j. (m j).report.tries);
            answer = w.answer ∙ (λ j. (m j).report.answer ++ drop (sym full j) space);
          }
