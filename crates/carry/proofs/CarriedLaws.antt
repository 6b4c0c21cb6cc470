-- What a record leaves that is not ignored, from what the parts of the code leave: a command, from what it reported and whether it made
-- the card busy; a wait; a poll; an arming; what answers nothing.
use Prim.Native.Nat.{ℕ, ◌-◌, ◌≤◌}
use mathlib.Core.Bool.{cond}
use mathlib.Core.List.{List, ◌++◌}
use mathlib.Core.Path.{◌≡◌, refl, sym, ap, ◌∙◌}
use lib.Dec.{ltb}
use lib.ListN.{length, set}
use lib.Seq.{set_split}
use native.Mathlib.Omega.{arith}
use Rattle.kinds.specs.declared.kind.Kind.{Kind}
use Rattle.kinds.specs.declared.kind.Kind.TheVariants as kind
use Rattle.kinds.specs.KindNumber.{kind_number}
use Rattle.model.specs.Instruction.{Instruction, wait, poll, arm}
use Rattle.model.specs.At88sc1608.{at88sc1608}
use Rattle.model.specs.State.{tear_after, State, timed, arming}
use Rattle.model.specs.Act as any
use Rattle.model.specs.Single.{perform}
use Rattle.laws.specs.ListLaws.{no_elements}
use Rattle.laws.specs.BusyLaws.{full_answer, full_answer_lem}
use Rattle.issue.specs.Issued.{Carried}
use Rattle.carry.specs.Carried.{Performed}

module _ (c : List ℕ) (s : State) (space : List ℕ) where
  pub passed : (n left tries : ℕ) (s' t : State) → s' ≡ t → tries ≡ 0 → t ≡ timed s s.volatile left → left ≡ s.busy - n
      → Carried c s (wait n) space c s' tries space
  unfolding any.perform
  passed n left tries s' t e z p q = record { card = refl; state = e ∙ p ∙ ap (timed s s.volatile) q; handed = z; answer = refl }

  pub polled : (b tries : ℕ) (s' : State) → s' ≡ s → tries ≡ 0 → 1 ≤ length space → b ≡ cond (ltb 0 s.busy) 1 0
      → Carried c s poll space c s' tries (set space 0 b)
  unfolding any.perform
  polled b tries s' e z h q = record { card = refl; state = e; handed = z; answer = rw (← q) (set_split space 0 b h) }

  pub armed : (n junk tries : ℕ) (s' t : State) → s' ≡ t → tries ≡ 0 → t ≡ arming s (tear_after n junk) → Carried c s (arm n junk) space c s' tries space
  unfolding any.perform
  armed n junk tries s' t e z p = record { card = refl; state = e ∙ p; handed = z; answer = refl }

  -- what answers nothing
  pub performed : (i : Instruction) (c' : List ℕ) (s' : State) (tries : ℕ) → Performed c s i c' s' tries → full_answer at88sc1608 i ≡ 0
      → Carried c s i space c' s' tries space
  performed i c' s' tries w e =
      record {
        card = w.card;
        state = w.state;
        handed = w.handed;
        answer = sym (rw e (ap (λ (x : List ℕ). x ++ space) (no_elements (perform c s i).report.answer (full_answer_lem at88sc1608 c s i ∙ e))));
      }

-- ---- the kinds that are issued

pub issued_within : (k : Kind) (n : ℕ) → kind_number k ≡ n → (k ≡ kind.PowerCycle → ⊥) → (k ≡ kind.Wait → ⊥) → (k ≡ kind.Poll → ⊥) → (k ≡
    kind.WriteStaged → ⊥) → (k ≡ kind.Arm → ⊥)
    → (2 ≤ n) × (n ≤ 12)
issued_within kind.PowerCycle n e b c d f g = absurd (b refl)
issued_within kind.Reset n e b c d f g = (omega arith, omega arith)
issued_within kind.Select n e b c d f g = (omega arith, omega arith)
issued_within kind.ReadZone n e b c d f g = (omega arith, omega arith)
issued_within kind.WriteZone n e b c d f g = (omega arith, omega arith)
issued_within kind.ReadConfiguration n e b c d f g = (omega arith, omega arith)
issued_within kind.WriteConfiguration n e b c d f g = (omega arith, omega arith)
issued_within kind.ReadFuses n e b c d f g = (omega arith, omega arith)
issued_within kind.WriteFuses n e b c d f g = (omega arith, omega arith)
issued_within kind.VerifyPassword n e b c d f g = (omega arith, omega arith)
issued_within kind.BeginAuthentication n e b c d f g = (omega arith, omega arith)
issued_within kind.VerifyAuthentication n e b c d f g = (omega arith, omega arith)
issued_within kind.Wait n e b c d f g = absurd (c refl)
issued_within kind.Poll n e b c d f g = absurd (d refl)
issued_within kind.WriteStaged n e b c d f g = absurd (f refl)
issued_within kind.Arm n e b c d f g = absurd (g refl)
