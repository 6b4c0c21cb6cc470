-- The single command, from its admission and from what was carried out.
use Prim.Native.Nat.{ℕ, ◌+◌, ◌≤◌}
use mathlib.Core.Bool.{Bool, true, false, cond, not, ◌&&◌}
use mathlib.Core.List.{List, [], ◌++◌}
use mathlib.Core.Path.{◌≡◌, sym, ◌∙◌}
use lib.Dec.{ltb}
use lib.ListN.{length, drop}
use Rattle.model.specs.Sizes.{card_size}
use Rattle.model.specs.State.{State}
use Rattle.model.specs.Busy.{acts_always, acts_busy, is_halted}
use Rattle.model.specs.Instruction.{Instruction}
use Rattle.model.specs.Call.{refused, whole, calling, refusing}
use Rattle.model.specs.Call as calls
use Rattle.laws.specs.CallLaws.{Admitted, admitted}
use Rattle.model.specs.At88sc1608.{at88sc1608}
use Rattle.laws.specs.BusyLaws.{full_answer, given_answer_lem}
use Rattle.model.specs.Record.{made, decode}
use Rattle.laws.specs.Sane.{good_check}
use Rattle.model.specs.Single.{check, act, admission, command}
use Rattle.record.specs.DecodedRecord.{head_of, asked_by}
use Rattle.record.specs.HeadLaws.{head_instruction}
use Rattle.record.specs.declared.decoder.Head.{Head}
use Rattle.issue.specs.Issued.{Ready, Carried}
use Rattle.carry.specs.Carried.{ActReady, Acted}
use Rattle.carry.specs.ActLaws.{act_known, acted_ignored, carry_ready, acted_carried}

module _ (c : List ℕ) (s : State) (bytes space : List ℕ) where
  pub call_refused : (n : ℕ) → refused n ≡ admission c s bytes (length space)
      → record { card = c; reply = refusing n s space } ≡ command c s (calling bytes space)
  unfolding calls.command
  call_refused n e = rw (← e)

  module _ (i : Instruction) (n : ℕ) (e : whole i n ≡ admission c s bytes (length space)) (h : Head) (head : h ≡ head_of bytes) where
    a : Admitted check decode act c s (calling bytes space) i n
    a = admitted check decode act c s (calling bytes space) i n (sym e)

    asked : asked_by bytes n h ≡ i
    asked = head_instruction bytes i n a.decodes h head

    ready : (h ≡ head_of bytes) × ActReady c s i bytes n space
    ready = (head, record { good = good_check c s a.checks; decodes = a.decodes; room = rw (given_answer_lem at88sc1608 c s i) at a.fits })

    pub call_known : (1 ≤ h.kind) × (h.kind ≤ 16)
    call_known = act_known c s i bytes n space h ready

    call_acted : (c' : List ℕ) (kind size : ℕ) (s' : State) (tries : ℕ) (space' : List ℕ) → Acted c s i space c' kind size s' tries space'
        → record { card = c'; reply = record { refusal = 0; kind = kind; size = size; state = s'; tries = tries; space = space' } }
        ≡ command c s (calling bytes space)
    unfolding calls.command
    call_acted c' kind size s' tries space' w =
        rw (← e)
        (λ j. record {
          card = w.card j;
          reply = record {
            refusal = 0;
            kind = w.kind_is j;
            size = w.size_is j;
            state = w.state j;
            tries = w.handed j;
            space = (w.answer ∙ (λ k. (act c s i).report.answer ++ drop (w.size_is k) space)) j;
          };
        })

    -- the card has its length
    pub call_long : length c ≡ card_size
    call_long = ready.1.good.fit.long

    module _ (b t : Bool) (halts : b ≡ is_halted at88sc1608 c s)
        (tested : t ≡ cond b (not (acts_always h.kind)) (ltb 0 s.busy && not (acts_busy h.kind))) where
      pub call_ignored : t ≡ true
          → record { card = c; reply = record { refusal = 0; kind = h.kind + 128; size = 0; state = s; tries = 0; space = space } }
          ≡ command c s (calling bytes space)
      call_ignored q = call_acted c (h.kind + 128) 0 s 0 space (acted_ignored c s i bytes n space h ready b t halts tested q)

      module _ (q : t ≡ false) where
        pub call_ready : Ready c s (asked_by bytes n h) bytes n space
        call_ready = rw asked (carry_ready c s i bytes n space h ready b t halts tested q)

        pub call_carried : (m : ℕ) (c' : List ℕ) (s' : State) (tries : ℕ) (space' : List ℕ) → m ≡ full_answer at88sc1608 (made h.kind 0 h.n [])
            → Carried c s (asked_by bytes n h) space c' s' tries space'
            → record { card = c'; reply = record { refusal = 0; kind = h.kind; size = m; state = s'; tries = tries; space = space' } }
            ≡ command c s (calling bytes space)
        call_carried m c' s' tries space' p w =
            call_acted c' h.kind m s' tries space'
            (acted_carried c s i bytes n space h ready b t halts tested q m c' s' tries space' p (rw asked at w))
