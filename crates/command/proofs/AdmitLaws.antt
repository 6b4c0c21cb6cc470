-- Admission, from what the tests of the code found, in their order.
use Prim.Native.Nat.{ℕ, ◌≤◌, ◌<◌}
use mathlib.Core.Bool.{Bool, true, false, cond, not, ◌&&◌}
use mathlib.Core.List.{List, []}
use mathlib.Core.Path.{◌≡◌, sym, ◌∙◌}
use borrow.Author.Tests.{lt-ltb, le-ltb, eq-eqb, ne_eqb}
use lib.Dec.{ltb}
use lib.ListN.{length}
use Rattle.model.specs.Sizes.{card_size, fuse_at}
use Rattle.model.specs.Lists.{at}
use Rattle.model.specs.State.{State, is_busy}
use Rattle.model.specs.Busy.{acts_always, acts_busy, is_halted}
use Rattle.model.specs.Call.{refused, whole}
use Rattle.model.specs.Call as calls
use Rattle.model.specs.At88sc1608.{at88sc1608}
use Rattle.laws.specs.BusyLaws.{full_answer, given_answer_lem}
use Rattle.laws.specs.Sane.{good_check}
use Rattle.model.specs.Record.{made, decode}
use Rattle.model.specs.Refusal.{card_length, fuse_byte, staging_bytes, state_out_of_range, bytes_left, no_space}
use Rattle.model.specs.Single.{is_fuse_byte, staging_fits, state_in_range, check_of, check, act, admission}
use Rattle.record.specs.DecodedRecord.{instruction_of, head_of}
use Rattle.record.specs.HeadLaws.{head_known, head_kind, head_answer}
use Rattle.record.specs.RefusalNumber.{refusal_number, number_some}
use Rattle.record.specs.declared.decoder.Head.{Head}
use Rattle.record.specs.declared.decoder.Record.{Record}
use Rattle.record.specs.declared.refusal.Refusal.{Refusal}

-- ---- the checks

module _ (c : List ℕ) (s : State) where
  pub bad_length : (length c ≡ card_size → ⊥) → card_length ≡ check c s
  unfolding check_of
  bad_length n = rw (ne_eqb _ _ n)

  module _ (ok : Bool) (long : length c ≡ card_size) (fuses : ok ≡ is_fuse_byte (at c fuse_at)) where
    pub bad_fuses : not ok ≡ true → fuse_byte ≡ check c s
    unfolding check_of
    bad_fuses e = rw (eq-eqb _ _ long, ← fuses, e)

    module _ (sound : Bool) (fine : not ok ≡ false) (staging : sound ≡ staging_fits c) where
      pub bad_staging : not sound ≡ true → staging_bytes ≡ check c s
      unfolding check_of
      bad_staging e = rw (eq-eqb _ _ long, ← fuses, fine, ← staging, e)

      module _ (ok' : Bool) (good : not sound ≡ false) (range : ok' ≡ state_in_range at88sc1608 s) where
        pub bad_state : not ok' ≡ true → state_out_of_range ≡ check c s
        unfolding check_of
        bad_state e = rw (eq-eqb _ _ long, ← fuses, fine, ← staging, good, ← range, e)

        pub all_well : not ok' ≡ false → 0 ≡ check c s
        unfolding check_of
        all_well e = rw (eq-eqb _ _ long, ← fuses, fine, ← staging, good, ← range, e)

-- ---- admission

module _ (c : List ℕ) (s : State) (bytes : List ℕ) (room : ℕ) where
  pub check_refused : (why : Refusal) → refusal_number why ≡ check c s → refused (refusal_number why) ≡ admission c s bytes room
  unfolding calls.admission
  check_refused why e = rw (← e, (number_some why).1)

  module _ (passed : 0 ≡ check c s) where
    pub record_refused : (n : ℕ) → refused n ≡ decode bytes → refused n ≡ admission c s bytes room
    unfolding calls.admission
    record_refused n e = rw (← passed, ← e)

    module _ (r : Record) (n : ℕ) (decoded : whole (instruction_of bytes n r) n ≡ decode bytes) where
      -- the checks have passed, so the card has its length
      pub passed_long : length c ≡ card_size
      passed_long = (good_check c s (sym passed)).fit.long

      pub left_over : n < length bytes → refused bytes_left ≡ admission c s bytes room
      unfolding calls.admission
      left_over l = rw (← passed, ← decoded, lt-ltb _ _ l)

      module _ (h : Head) (head : h ≡ head_of bytes) where
        pub known_head : (1 ≤ h.kind) × (h.kind ≤ 16)
        known_head = head_known bytes (instruction_of bytes n r) n (sym decoded) h head

        module _ (m : ℕ) (all : length bytes ≤ n) (b : Bool) (halts : b ≡ is_halted at88sc1608 c s)
            (long : m ≡ cond (cond b (not (acts_always h.kind)) (ltb 0 s.busy && not (acts_busy h.kind))) 0
            (full_answer at88sc1608 (made h.kind 0 h.n []))) where
          answered : length (act c s (instruction_of bytes n r)).report.answer ≡ m
          answered =
              let k = head_kind bytes (instruction_of bytes n r) n (sym decoded) h head in
              let a = head_answer bytes (instruction_of bytes n r) n (sym decoded) h head in
              given_answer_lem at88sc1608 c s (instruction_of bytes n r)
              ∙ sym (long ∙ (λ i. cond (cond (halts i) (not (acts_always (k i))) (is_busy s && not (acts_busy (k i)))) 0 (a i)))

          pub no_room : room < m → refused no_space ≡ admission c s bytes room
          unfolding calls.admission
          no_room l = rw (← passed, ← decoded, le-ltb _ _ all, answered, lt-ltb _ _ l)

          pub is_admitted : m ≤ room → whole (instruction_of bytes n r) n ≡ admission c s bytes room
          unfolding calls.admission
          is_admitted l = rw (← passed, ← decoded, le-ltb _ _ all, answered, le-ltb _ _ l)
