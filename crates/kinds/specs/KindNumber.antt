-- The number of each kind, and the kind of a byte.
use Rattle.std.specs.Prelude.{ℕ, ◌≤◌, true, false, ◌≡◌, refl, Result, MatchResult}
use Rattle.std.proofs.Common.{sym, ap, ◌∙◌}
use Rattle.model.specs.Record.{known}
use Rattle.laws.specs.KindLaws.{known_within}
use Rattle.kinds.specs.declared.kind.Kind.{Kind}
use Rattle.kinds.specs.declared.kind.Kind.TheVariants as kind
use Rattle.kinds.specs.declared.kind.UnknownKind.{UnknownKind}

abbrev pub kind_number : Kind → ℕ
kind_number kind.PowerCycle = 1
kind_number kind.Reset = 2
kind_number kind.Select = 3
kind_number kind.ReadZone = 4
kind_number kind.WriteZone = 5
kind_number kind.ReadConfiguration = 6
kind_number kind.WriteConfiguration = 7
kind_number kind.ReadFuses = 8
kind_number kind.WriteFuses = 9
kind_number kind.VerifyPassword = 10
kind_number kind.BeginAuthentication = 11
kind_number kind.VerifyAuthentication = 12
kind_number kind.Wait = 13
kind_number kind.Poll = 14
kind_number kind.WriteStaged = 15
kind_number kind.Arm = 16

-- each is known
pub kind_known : (k : Kind) → known (kind_number k) ≡ true
kind_known kind.PowerCycle = refl
kind_known kind.Reset = refl
kind_known kind.Select = refl
kind_known kind.ReadZone = refl
kind_known kind.WriteZone = refl
kind_known kind.ReadConfiguration = refl
kind_known kind.WriteConfiguration = refl
kind_known kind.ReadFuses = refl
kind_known kind.WriteFuses = refl
kind_known kind.VerifyPassword = refl
kind_known kind.BeginAuthentication = refl
kind_known kind.VerifyAuthentication = refl
kind_known kind.Wait = refl
kind_known kind.Poll = refl
kind_known kind.WriteStaged = refl
kind_known kind.Arm = refl

pub kind_within : (k : Kind) → (1 ≤ kind_number k) × (kind_number k ≤ 16)
kind_within k = known_within (kind_number k) (kind_known k)

-- a number by the name of its kind
pub number_named : {k named : Kind} {n : ℕ} → kind_number k ≡ n → k ≡ named → n ≡ kind_number named
number_named e is = sym e ∙ ap kind_number is

-- the result is the kind with this number, or the byte is that of none
abbrev pub Decodes : ℕ → Result Kind UnknownKind → Type 0
Decodes byte r = MatchResult r (λ k. kind_number k ≡ byte) (λ _. known byte ≡ false)
