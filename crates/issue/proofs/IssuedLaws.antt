-- What a record leaves that is a command and is not ignored, from what the command leaves with its time and what stands in the response space.
use Prim.Native.Nat.{ℕ, ◌≤◌}
use mathlib.Core.List.{List, ◌++◌}
use mathlib.Core.Path.{◌≡◌, refl, sym, ◌∙◌}
use native.Mathlib.Omega.{arith}
use lib.ListN.{drop}
use Rattle.kinds.specs.declared.kind.Kind.{Kind}
use Rattle.kinds.specs.declared.kind.Kind.TheVariants as kind
use Rattle.kinds.specs.KindNumber.{kind_number}
use Rattle.model.specs.Instruction.{Command, issue}
use Rattle.model.specs.At88sc1608.{at88sc1608}
use Rattle.model.specs.State.{State}
use Rattle.model.specs.Act as any
use Rattle.model.specs.Single.{apply}
use Rattle.laws.specs.ListLaws.{no_elements}
use Rattle.laws.specs.Effects.{answer_length, answer_length_lem}
use Rattle.timed_security.specs.IssuedCommand.{Issued}
use Rattle.issue.specs.Issued.{Carried}

module _ (c : List ℕ) (s : State) (space : List ℕ) where
  pub answered : (k : Command) (c' : List ℕ) (s' : State) (tries : ℕ) (space' : List ℕ) → Issued c s k c' s' tries
      → space' ≡ (apply c s.volatile k).report.answer ++ drop (answer_length at88sc1608 k) space → Carried c s (issue k) space c' s' tries space'
  unfolding any.perform
  answered k c' s' tries space' w e = record { card = w.card; state = w.state; handed = w.handed; answer = e }

  pub unanswered : (k : Command) (c' : List ℕ) (s' : State) (tries : ℕ) → Issued c s k c' s' tries → answer_length at88sc1608 k ≡ 0
      → Carried c s (issue k) space c' s' tries space
  unanswered k c' s' tries w z =
      let e = no_elements (apply c s.volatile k).report.answer (answer_length_lem at88sc1608 c s.volatile k ∙ z) in
      answered k c' s' tries space w (sym (λ i. e i ++ drop (z i) space))

-- the last of the commands: none of the others
module _ (n : ℕ) (low : 2 ≤ n) (high : n ≤ 12) where
  pub last_kind : (k : Kind) → kind_number k ≡ n → (k ≡ kind.Reset → ⊥) → (k ≡ kind.Select → ⊥) → (k ≡ kind.ReadZone → ⊥) → (k ≡ kind.WriteZone → ⊥)
      → (k ≡ kind.ReadConfiguration → ⊥) → (k ≡ kind.WriteConfiguration → ⊥) → (k ≡ kind.ReadFuses → ⊥) → (k ≡ kind.WriteFuses → ⊥) → (k ≡
      kind.VerifyPassword → ⊥) → (k ≡ kind.BeginAuthentication → ⊥) → n ≡ 12
  last_kind kind.PowerCycle e b c d f g h i j l m = omega arith
  last_kind kind.Reset e b c d f g h i j l m = absurd (b refl)
  last_kind kind.Select e b c d f g h i j l m = absurd (c refl)
  last_kind kind.ReadZone e b c d f g h i j l m = absurd (d refl)
  last_kind kind.WriteZone e b c d f g h i j l m = absurd (f refl)
  last_kind kind.ReadConfiguration e b c d f g h i j l m = absurd (g refl)
  last_kind kind.WriteConfiguration e b c d f g h i j l m = absurd (h refl)
  last_kind kind.ReadFuses e b c d f g h i j l m = absurd (i refl)
  last_kind kind.WriteFuses e b c d f g h i j l m = absurd (j refl)
  last_kind kind.VerifyPassword e b c d f g h i j l m = absurd (l refl)
  last_kind kind.BeginAuthentication e b c d f g h i j l m = absurd (m refl)
  last_kind kind.VerifyAuthentication e b c d f g h i j l m = sym e
  last_kind kind.Wait e b c d f g h i j l m = omega arith
  last_kind kind.Poll e b c d f g h i j l m = omega arith
  last_kind kind.WriteStaged e b c d f g h i j l m = omega arith
  last_kind kind.Arm e b c d f g h i j l m = omega arith
