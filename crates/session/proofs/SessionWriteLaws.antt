-- The run of a session and its log, from what the parts of the code leave.
use Prim.Native.Nat.{ℕ, suc, ◌+◌, ◌-◌, ◌≤◌, ◌<◌}
use mathlib.Core.Bool.{Bool, true, false, cond, not, ◌&&◌}
use mathlib.Core.List.{List, [], ◌∷◌, ◌++◌, append_assoc, append-nil}
use mathlib.Core.Path.{◌≡◌, refl, sym, ap, subst, ◌∙◌}
use native.Mathlib.Omega.{arith}
use lib.Dec.{ltb}
use lib.ListN.{length, take, drop, length-append, length-take, length-drop, take-append-drop}
use lib.Seq.{sets, sets-eq, length-sets, drop-append-le, drop-drop, length-take-le}
use Rattle.model.specs.Sizes.{card_size, least_session, least_log}
use Rattle.laws.specs.NumberLaws.{sets_append}
use Rattle.model.specs.At88sc1608.{at88sc1608}
use Rattle.model.specs.State.{State, power_on}
use Rattle.model.specs.Busy.{acts_always, acts_busy, is_halted, ignores}
use Rattle.model.specs.Call.{Powered, powered, acted, whole}
use Rattle.model.specs.Instruction.{Instruction, kind_of}
use Rattle.laws.specs.BusyLaws.{full_answer, given_answer, act_ignored, given_answer_lem, given_most}
use Rattle.laws.specs.EntryLaws.{header_least, full_entry}
use Rattle.model.specs.Log.{zoned, header_bytes, header_length, entry_bytes, entries_bytes, log_trailer}
use Rattle.model.specs.Reader.{records_end, part_at}
use Rattle.model.specs.Record.{fixed_fields, data_length, made}
use Rattle.laws.specs.ReaderLaws.{next_within}
use Rattle.laws.specs.RecordLaws.{decode_ranged}
use Rattle.laws.specs.Sane.{Good, good_after}
use Rattle.model.specs.Session.{card_of, start_of, count_of, read_from, all, logged, after, entries_of, end_of, initial, log_of}
use Rattle.model.specs.Single.{answered_kind, act}
use Rattle.record.specs.DecodedRecord.{head_of, asked_by}
use Rattle.record.specs.HeadLaws.{head_known, head_kind, head_answer, head_size, head_instruction}
use Rattle.record.specs.declared.decoder.Head.{Head}
use Rattle.issue.specs.Issued.{Ready, Carried}
use Rattle.carry.specs.Carried.{ActReady, Acted}
use Rattle.carry.specs.ActLaws.{carry_ready, acted_carried}
use Rattle.properties.specs.AcceptedSessionLaws.{framed_well, card_good}
use Rattle.session.specs.Run.{EntryReady, EntryWritten, RecordsReady, RecordsRun, LogReady, LogWritten}
use Rattle.properties.specs.Written.{length_header, length_entry}
use Rattle.properties.specs.SessionLaws.{entry_length, First, read_first, read_none, read_count, entries_length, end_length, full_total, entries_most}

-- ---- one entry

-- what is put into a lent part is put into the whole
pub lent : (l : List ℕ) (a k : ℕ) (vs : List ℕ) → a + length vs ≤ length l → length vs ≤ length (take k (drop a l))
    → take a l ++ ((vs ++ drop (length vs) (take k (drop a l))) ++ drop k (drop a l)) ≡ sets l a vs
lent l a k vs h h' =
    ap (λ (x : List ℕ). take a l ++ x)
    (append_assoc vs _ _
    ∙ ap (λ (x : List ℕ). vs ++ x)
    (sym (drop-append-le (length vs) (take k (drop a l)) (drop k (drop a l)) h')
    ∙ ap (drop (length vs)) (take-append-drop k (drop a l)) ∙ drop-drop (length vs) a l))
    ∙ sym (append_assoc (take a l) vs _) ∙ sym (sets-eq vs l a h)

module _ (part : List ℕ) (m : Powered State) (log : List ℕ) (place : ℕ) (r : EntryReady part m log place) (h : Head) (head : h ≡ head_of part) where
  abbrev i : Instruction
  i = r.instruction

  abbrev zone : ℕ
  zone = m.state.volatile.zone

  pub entry_known : (1 ≤ h.kind) × (h.kind ≤ 16)
  entry_known = head_known part i r.size r.decodes h head

  -- a header has room, and a response behind it
  pub header_room : place + 4 ≤ length log
  header_room = let h = header_least zoned (kind_of i) in let w = r.room in omega arith

  pub response_room : (a from : ℕ) → a ≡ full_answer at88sc1608 (made h.kind 0 h.n []) → from ≡ place + header_length zoned h.kind
      → from + a ≤ length log
  response_room a from answers begins =
      let w = r.room in
      let e = ap (header_length zoned) (head_kind part i r.size r.decodes h head) in
      let f = head_answer part i r.size r.decodes h head in
      omega arith

  act_ready : (space : List ℕ) → given_answer at88sc1608 m.card m.state i ≤ length space → (h ≡ head_of part) × ActReady m.card m.state i part
      r.size space
  act_ready space room = (head, record { good = r.good; decodes = r.decodes; room = room })

  module _ (b t : Bool) (halts : b ≡ is_halted at88sc1608 m.card m.state)
      (tested : t ≡ cond b (not (acts_always h.kind)) (ltb 0 m.state.busy && not (acts_busy h.kind))) where
    -- an ignored record
    module _ (q : t ≡ true) where
      kind_same : h.kind ≡ kind_of i
      kind_same = head_kind part i r.size r.decodes h head

      ignored : ignores at88sc1608 m.card m.state i ≡ true
      ignored =
          sym (tested ∙ (λ k. cond (halts k) (not (acts_always (kind_same k))) (ltb 0 m.state.busy && not (acts_busy (kind_same k))))) ∙ q

      kinds : h.kind + 128 ≡ answered_kind m.card m.state i
      kinds = ap (λ (k : ℕ). k + 128) kind_same ∙ ap (λ (b : Bool). cond b (kind_of i + 128) (kind_of i)) (sym ignored)

      pub entry_ignored : (end : ℕ) (log' : List ℕ) → log' ≡ sets log place (header_bytes zoned (h.kind + 128) 0 zone)
          → end ≡ place + header_length zoned (h.kind + 128) → EntryWritten part m log place m.card m.state end log'
      entry_ignored end log' header ends =
          record {
            instruction = i;
            size = r.size;
            decodes = r.decodes;
            card = λ k. (a k).card;
            state = λ k. (a k).report.state;
            end_is =
                let e = ap (header_length zoned) kinds in
                let l = length_entry zoned (logged m i) in
                let z : 0 ≡ length (logged m i).response = λ k. length (a k).report.answer in
                omega arith;
            bytes =
                header ∙ ap (sets log place) (sym (append-nil (header_bytes zoned (h.kind + 128) 0 zone)))
                ∙ (λ k. sets log place (header_bytes zoned (kinds k) (length (a k).report.answer) zone ++ (a k).report.answer));
          }
        where
          a : acted m.card m.state [] ≡ act m.card m.state i
          a = sym (act_ignored at88sc1608 m.card m.state i ignored)

    -- one that is carried out
    module _ (q : t ≡ false) (a : ℕ) (log₁ : List ℕ) (from end : ℕ) (answers : a ≡ full_answer at88sc1608 (made h.kind 0 h.n []))
        (header : log₁ ≡ sets log place (header_bytes zoned h.kind a zone)) (begins : from ≡ place + header_length zoned h.kind)
        (ends : end ≡ 1 + fixed_fields h.kind + data_length h.kind h.n) where
      size_is : end ≡ r.size
      size_is = ends ∙ head_size part i r.size r.decodes h head

      instruction_is : asked_by part end h ≡ i
      instruction_is = (λ k. asked_by part (size_is k) h) ∙ head_instruction part i r.size r.decodes h head

      long : length log₁ ≡ length log
      long = ap length header ∙ length-sets log place (header_bytes zoned h.kind a zone)

      from_is : from ≡ place + length (header_bytes zoned h.kind a zone)
      from_is = begins ∙ ap (λ (n : ℕ). place + n) (sym (length_header zoned h.kind a zone))

      room : from + given_answer at88sc1608 m.card m.state i ≤ length log₁
      room =
          let l = long in
          let g = given_most at88sc1608 m.card m.state i in
          let f = answers ∙ head_answer part i r.size r.decodes h head in
          let w = response_room a from answers begins in
          omega arith

      module _ (size : ℕ) (space : List ℕ) (sizes : size ≡ length log₁ - from) (lends : space ≡ take size (drop from log₁)) where
        space_length : length space ≡ length log₁ - from
        space_length = let e = length-take size (drop from log₁) in let d = length-drop from log₁ in ap length lends ∙ (omega arith)

        ready : (h ≡ head_of part) × ActReady m.card m.state i part r.size space
        ready = act_ready space (let w = room in let e = space_length in omega arith)

        pub entry_ready : Ready m.card m.state (asked_by part end h) part end space
        entry_ready = rw (instruction_is, size_is) (carry_ready m.card m.state i part r.size space h ready b t halts tested q)

        pub entry_written : (c' : List ℕ) (s' : State) (tries : ℕ) (space' : List ℕ)
            → Carried m.card m.state (asked_by part end h) space c' s' tries space'
            → EntryWritten part m log place c' s' (from + a) (take from log₁ ++ (space' ++ drop size (drop from log₁)))
        entry_written c' s' tries space' carried =
            record { instruction = i; size = r.size; decodes = r.decodes; card = w.card; state = w.state; end_is = end_is; bytes = bytes }
          where
            w : Acted m.card m.state i space c' h.kind a s' tries space'
            w =
                acted_carried m.card m.state i part r.size space h ready b t halts tested q a c' s' tries space' answers
                (rw instruction_is at carried)

            answer : List ℕ
            answer = (act m.card m.state i).report.answer

            end_is : from + a ≡ place + length (entry_bytes zoned (logged m i))
            end_is =
                let b = begins in
                let e = ap (header_length zoned) w.kind_is in
                let f = w.size_is in
                let l = length_entry zoned (logged m i) in
                omega arith

            bytes : take from log₁ ++ (space' ++ drop size (drop from log₁)) ≡ sets log place (entry_bytes zoned (logged m i))
            bytes =
                let v = room in
                let e = space_length in
                let l = given_answer_lem at88sc1608 m.card m.state i in
                ap (λ (x : List ℕ). take from log₁ ++ (x ++ drop size (drop from log₁)))
                (w.answer ∙ (λ k. answer ++ drop (w.size_is k) (lends k)))
                ∙ lent log₁ from size answer (omega arith) (rw (← lends) (omega arith))
                ∙ (λ k. sets (header k) (from_is k) answer)
                ∙ sets_append log place (header_bytes zoned h.kind a zone) answer
                ∙ (λ k. sets log place (header_bytes zoned (w.kind_is k) (w.size_is k) zone ++ answer))

-- ---- the records

-- what is known when some of the records are done: the instructions left lead to the same card and the same log
pub record Going (s : List ℕ) (start count : ℕ) (c₀ log₀ : List ℕ) (at place done : ℕ) (c : List ℕ) (v : State) (log : List ℕ) : Type 0 where
  pub instructions : List Instruction
  pub rest : List Instruction
  pub reads : read_from count s start ≡ all instructions (records_end (length s))
  pub left_reads : read_from (count - done) s at ≡ all rest (records_end (length s))
  pub forth : at ≤ records_end (length s)
  pub good : Good c v
  pub long : length log ≡ length log₀
  pub room : place + full_total rest < length log
  pub ends : (end_of rest (powered c v)).card ≡ (end_of instructions (powered c₀ power_on)).card
  pub placed : place + length (entries_bytes zoned (entries_of rest (powered c v))) ≡ length (entries_bytes zoned (entries_of instructions (powered c₀ power_on)))
  pub bytes : sets log place (entries_bytes zoned (entries_of rest (powered c v)))
      ≡ sets log₀ 0 (entries_bytes zoned (entries_of instructions (powered c₀ power_on)))

pub going_start : (s : List ℕ) (start count : ℕ) (c log : List ℕ) (v : State) → v ≡ power_on → RecordsReady s start count c log
    → Going s start count c log start 0 0 c v log
going_start s start count c log v e r =
    rw e
    (record {
      instructions = r.instructions;
      rest = r.instructions;
      reads = r.reads;
      left_reads = (let e : count - 0 ≡ count = omega arith in ap (λ (n : ℕ). read_from n s start) e) ∙ r.reads;
      forth = r.within;
      good = r.good;
      long = refl;
      room = let q = r.room in omega arith;
      ends = refl;
      placed = omega arith;
      bytes = refl;
    })

module _ (s : List ℕ) (start count : ℕ) (c₀ log₀ : List ℕ) (at place done : ℕ) (c : List ℕ) (v : State) (log : List ℕ)
    (g : Going s start count c₀ log₀ at place done c v log) where
  module _ (some : done < count) where
    one_fewer : count - done ≡ suc (count - (done + 1))
    one_fewer = omega arith

    next : First (count - (done + 1)) s at g.rest (records_end (length s))
    next = read_first (count - (done + 1)) s at g.rest (records_end (length s)) (ap (λ (n : ℕ). read_from n s at) (sym one_fewer) ∙ g.left_reads)

    next_room : place + full_entry next.command < length log
    next_room = let q = ap full_total next.list in let r = g.room in omega arith

    pub going_ready : EntryReady (part_at s at) (powered c v) log place
    going_ready =
        record {
          instruction = next.command;
          size = next.size;
          decodes = next.next;
          good = g.good;
          room = next_room;
        }

    module _ (h : Head) (head : h ≡ head_of (part_at s at)) where
      pub going_known : (1 ≤ h.kind) × (h.kind ≤ 16)
      going_known = head_known (part_at s at) next.command next.size next.next h head

      -- the next record ends by the end of the records
      module _ (e : ℕ) (ends : e ≡ 1 + fixed_fields h.kind + data_length h.kind h.n) where
        next_size : e ≡ next.size
        next_size = ends ∙ head_size (part_at s at) next.command next.size next.next h head

        pub going_forth : at + e ≤ records_end (length s)
        going_forth = let p = next_size in let w = next_within s at next.command next.size next.next in omega arith

    module _ (c' : List ℕ) (v' : State) (end : ℕ) (log' : List ℕ) (written : EntryWritten (part_at s at) (powered c v) log place c' v' end log') where
      abbrev k : Instruction
      k = next.command

      instruction_same : written.instruction ≡ k
      instruction_same = let q : whole written.instruction written.size ≡ whole k next.size = sym written.decodes ∙ next.next in cc

      end_same : end ≡ place + length (entry_bytes zoned (logged (powered c v) k))
      end_same = written.end_is ∙ ap (λ (x : Instruction). place + length (entry_bytes zoned (logged (powered c v) x))) instruction_same

      -- the entry is not longer than in full
      end_most : end ≤ place + full_entry k
      end_most = let q = end_same in let l = entry_length (powered c v) k in let g = given_most at88sc1608 c v k in omega arith

      pub going_next : (h : Head) → h ≡ head_of (part_at s at) → (e : ℕ) → e ≡ 1 + fixed_fields h.kind + data_length h.kind h.n
          → Going s start count c₀ log₀ (at + e) end (done + 1) c' v' log'
      going_next h head e ends =
          record {
            instructions = g.instructions;
            rest = next.others;
            reads = g.reads;
            left_reads = ap (λ (x : ℕ). read_from (count - (done + 1)) s (at + x)) (next_size h head e ends) ∙ next.rest;
            forth = going_forth h head e ends;
            good =
                subst (λ (m : Powered State). Good m.card m.state) (sym same)
                (good_after c v k (decode_ranged (part_at s at) k next.size next.next) g.good);
            long = log_long ∙ g.long;
            room = let t = ap full_total next.list in let r = g.room in let l = log_long in let q = end_most in omega arith;
            ends =
                ap (λ (m : Powered State). (end_of next.others m).card) same
                ∙ sym (ap (λ (ks : List Instruction). (end_of ks (powered c v)).card) next.list) ∙ g.ends;
            placed =
                (let t = entry_long in let l = entries_split in let e = end_same in omega arith)
                ∙ sym (ap (λ (ks : List Instruction). place + length (entries_bytes zoned (entries_of ks (powered c v)))) next.list) ∙ g.placed;
            bytes =
                (λ t. sets (bytes_are t) (end_same t) (entries_bytes zoned (entries_of next.others (same t))))
                ∙ sets_append log place (entry_bytes zoned (logged (powered c v) k)) (entries_bytes zoned (entries_of next.others (after (powered c v) k)))
                ∙ sym (ap (λ (ks : List Instruction). sets log place (entries_bytes zoned (entries_of ks (powered c v)))) next.list) ∙ g.bytes;
          }
        where
          same : powered c' v' ≡ after (powered c v) k
          same = (λ t. powered (written.card t) (written.state t)) ∙ ap (after (powered c v)) instruction_same

          bytes_are : log' ≡ sets log place (entry_bytes zoned (logged (powered c v) k))
          bytes_are = written.bytes ∙ ap (λ (x : Instruction). sets log place (entry_bytes zoned (logged (powered c v) x))) instruction_same

          log_long : length log' ≡ length log
          log_long = ap length bytes_are ∙ length-sets log place (entry_bytes zoned (logged (powered c v) k))

          entry_long : length (entries_bytes zoned (entries_of next.others (powered c' v')))
              ≡ length (entries_bytes zoned (entries_of next.others (after (powered c v) k)))
          entry_long = ap (λ (m : Powered State). length (entries_bytes zoned (entries_of next.others m))) same

          entries_split : length (entries_bytes zoned (entries_of (k ∷ next.others) (powered c v)))
              ≡ length (entry_bytes zoned (logged (powered c v) k)) + length (entries_bytes zoned (entries_of next.others (after (powered c v) k)))
          entries_split = length-append (entry_bytes zoned (logged (powered c v) k)) (entries_bytes zoned (entries_of next.others (after (powered c v) k)))

  pub going_done : count ≤ done → RecordsRun s start count c₀ log₀ c log place
  going_done h =
      let z : count - done ≡ 0 = omega arith in
      let e = (read_none s at g.rest (records_end (length s)) (ap (λ (n : ℕ). read_from n s at) (sym z) ∙ g.left_reads)).0 in
      record {
        instructions = g.instructions;
        reads = g.reads;
        card = ap (λ (ks : List Instruction). (end_of ks (powered c v)).card) (sym e) ∙ g.ends;
        place_is =
            (let q : place ≡ place + 0 = omega arith in q)
            ∙ ap (λ (ks : List Instruction). place + length (entries_bytes zoned (entries_of ks (powered c v)))) (sym e) ∙ g.placed;
        bytes = ap (λ (ks : List Instruction). sets log place (entries_bytes zoned (entries_of ks (powered c v)))) (sym e) ∙ g.bytes;
      }

-- ---- the log

-- what replaces a lent part is put into the whole
replaced : (l : List ℕ) (a n : ℕ) (vs : List ℕ) → n ≡ length vs → a + length vs ≤ length l → take a l ++ (vs ++ drop n (drop a l)) ≡ sets l a vs
replaced l a n vs e h =
    ap (λ (x : List ℕ). take a l ++ (vs ++ x)) (ap (λ (m : ℕ). drop m (drop a l)) e ∙ drop-drop (length vs) a l)
    ∙ sym (append_assoc (take a l) vs _) ∙ sym (sets-eq vs l a h)

module _ (s log : List ℕ) (r : LogReady s log) where
  pub session_long : least_session ≤ length s
  session_long = (framed_well s r.frames).long

  module _ (card : List ℕ) (start count : ℕ) (card_is : card ≡ card_of s) (starts : start ≡ start_of s) (counts : count ≡ count_of s) where
    pub records_ready : RecordsReady s start count card log
    records_ready =
        rw (card_is, starts, counts)
        (record {
          instructions = r.instructions;
          reads = r.reads;
          within = (framed_well s r.frames).high;
          good = card_good s (framed_well s r.frames);
          room = let q = r.room in omega arith;
        })

    module _ (card' log₁ : List ℕ) (entries : ℕ) (w : RecordsRun s start count card log card' log₁ entries) where
      abbrev ks : List Instruction
      ks = r.instructions

      abbrev front : List ℕ
      front = entries_bytes zoned (entries_of ks (initial s))

      abbrev final : List ℕ
      final = (end_of ks (initial s)).card

      ks_same : w.instructions ≡ ks
      ks_same =
          let p : all w.instructions (records_end (length s)) ≡ all ks (records_end (length s)) = sym w.reads ∙ (λ t. read_from (counts t) s (starts t))
          ∙ r.reads in cc

      entries_is : entries ≡ length front
      entries_is = w.place_is ∙ (λ t. length (entries_bytes zoned (entries_of (ks_same t) (powered (card_is t) power_on))))

      -- the entries with a card and a trailer have room
      pub entries_room : entries + least_log ≤ length log
      entries_room = let e = entries_is in let m = entries_most ks (initial s) in let q = r.room in omega arith

      pub log_written : (copied log₂ : List ℕ) (k : ℕ) → copied ≡ card' → k ≡ card_size
          → log₂ ≡ sets (take entries log₁ ++ (copied ++ drop k (drop entries log₁))) (entries + card_size) (log_trailer zoned entries count)
          → LogWritten s log (entries + least_log) log₂
      log_written copied log₂ k e n e₂ =
          record {
            instructions = ks;
            reads = r.reads;
            size_is = sizes;
            bytes =
                e₂ ∙ (λ t. sets (second t) (third_place t) (log_trailer zoned (entries_is t) (count_is t)))
                ∙ sets_append log 0 (front ++ final) (log_trailer zoned (length front) (length (entries_of ks (initial s))))
                ∙ ap (sets log 0) (append_assoc front final _);
          }
        where
          first : log₁ ≡ sets log 0 front
          first = w.bytes ∙ (λ t. sets log 0 (entries_bytes zoned (entries_of (ks_same t) (powered (card_is t) power_on))))

          final_is : copied ≡ final
          final_is = e ∙ w.card ∙ (λ t. (end_of (ks_same t) (powered (card_is t) power_on)).card)

          final_long : length final ≡ card_size
          final_long = end_length ks (initial s) ∙ length-take-le card_size s (let l = session_long in omega arith)

          sizes : entries + least_log ≡ length (log_of s ks)
          sizes =
              let e = entries_is in
              let f = final_long in
              sym (simp (length-append, f) (let z : length front + least_log ≡ entries + least_log = omega arith in z))

          count_is : count ≡ length (entries_of ks (initial s))
          count_is = counts ∙ sym (entries_length ks (initial s) ∙ read_count (count_of s) s (start_of s) ks _ r.reads)

          second_place : entries ≡ 0 + length front
          second_place = let e = entries_is in omega arith

          copied_long : length copied ≡ card_size
          copied_long = ap length final_is ∙ final_long

          first_long : length log₁ ≡ length log
          first_long = ap length first ∙ length-sets log 0 front

          second : take entries log₁ ++ (copied ++ drop k (drop entries log₁)) ≡ sets log 0 (front ++ final)
          second =
              replaced log₁ entries k copied (n ∙ sym copied_long) (let r = entries_room in let l = copied_long in let f = first_long in omega arith)
              ∙ (λ t. sets (first t) (second_place t) (final_is t)) ∙ sets_append log 0 front final

          third_place : entries + card_size ≡ 0 + length (front ++ final)
          third_place = let e = entries_is in let l = final_long in let a = length-append front final in omega arith
