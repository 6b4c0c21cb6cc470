-- What holds of a kind by its name holds by its number.
use Rattle.std.specs.Prelude.{ℕ, [], ◌≡◌, refl, cond, eqb, ◌&&◌, leb}
use denote.Enum.Bare.{sameb}
use Rattle.model.specs.At88sc1608.{at88sc1608}
use Rattle.model.specs.Record.{kinds, made, length_fits}
use Rattle.laws.specs.BusyLaws.{full_answer}
use Rattle.kinds.specs.declared.kind.Kind.{Kind}
use Rattle.kinds.specs.declared.kind.Kind.TheVariants as kind
use Rattle.kinds.specs.contracts.kind.Kind.{the_type}
use Rattle.kinds.specs.KindNumber.{kind_number}
use Rattle.kinds.proofs.DigitLaws.{digit_of}

pub is_wait : (k : Kind) → sameb the_type k kind.Wait ≡ eqb (kind_number k) 13
is_wait kind.PowerCycle = refl
is_wait kind.Reset = refl
is_wait kind.Select = refl
is_wait kind.ReadZone = refl
is_wait kind.WriteZone = refl
is_wait kind.ReadConfiguration = refl
is_wait kind.WriteConfiguration = refl
is_wait kind.ReadFuses = refl
is_wait kind.WriteFuses = refl
is_wait kind.VerifyPassword = refl
is_wait kind.BeginAuthentication = refl
is_wait kind.VerifyAuthentication = refl
is_wait kind.Wait = refl
is_wait kind.Poll = refl
is_wait kind.WriteStaged = refl
is_wait kind.Arm = refl

pub is_configuration_read : (k : Kind) → sameb the_type k kind.ReadConfiguration ≡ eqb (kind_number k) 6
is_configuration_read kind.PowerCycle = refl
is_configuration_read kind.Reset = refl
is_configuration_read kind.Select = refl
is_configuration_read kind.ReadZone = refl
is_configuration_read kind.WriteZone = refl
is_configuration_read kind.ReadConfiguration = refl
is_configuration_read kind.WriteConfiguration = refl
is_configuration_read kind.ReadFuses = refl
is_configuration_read kind.WriteFuses = refl
is_configuration_read kind.VerifyPassword = refl
is_configuration_read kind.BeginAuthentication = refl
is_configuration_read kind.VerifyAuthentication = refl
is_configuration_read kind.Wait = refl
is_configuration_read kind.Poll = refl
is_configuration_read kind.WriteStaged = refl
is_configuration_read kind.Arm = refl

-- ---- how long an answer is

module _ (n : ℕ) where
  pub zone_answer : (k : Kind) → k ≡ kind.ReadZone → cond (eqb n 0) 256 n ≡ full_answer at88sc1608 (made (kind_number k) 0 n [])
  unfolding kinds made
  zone_answer k e = rw e

  pub configuration_answer : (k : Kind) → k ≡ kind.ReadConfiguration → n ≡ full_answer at88sc1608 (made (kind_number k) 0 n [])
  unfolding kinds made
  configuration_answer k e = rw e

  pub other_answer : (k : Kind) → (k ≡ kind.ReadZone → ⊥) → (k ≡ kind.ReadConfiguration → ⊥)
      → digit_of 0x100000100000400 (kind_number k) ≡ full_answer at88sc1608 (made (kind_number k) 0 n [])
  unfolding kinds made
  other_answer kind.PowerCycle f g = refl
  other_answer kind.Reset f g = refl
  other_answer kind.Select f g = refl
  other_answer kind.ReadZone f g = absurd (f refl)
  other_answer kind.WriteZone f g = refl
  other_answer kind.ReadConfiguration f g = absurd (g refl)
  other_answer kind.WriteConfiguration f g = refl
  other_answer kind.ReadFuses f g = refl
  other_answer kind.WriteFuses f g = refl
  other_answer kind.VerifyPassword f g = refl
  other_answer kind.BeginAuthentication f g = refl
  other_answer kind.VerifyAuthentication f g = refl
  other_answer kind.Wait f g = refl
  other_answer kind.Poll f g = refl
  other_answer kind.WriteStaged f g = refl
  other_answer kind.Arm f g = refl

  -- ---- whether a response can be so long

  pub zone_fits : (k : Kind) → k ≡ kind.ReadZone → (leb 1 n && leb n 256) ≡ length_fits (kind_number k) n
  unfolding kinds length_fits
  zone_fits k e = rw e

  pub configuration_fits : (k : Kind) → k ≡ kind.ReadConfiguration → (leb 1 n && leb n 128) ≡ length_fits (kind_number k) n
  unfolding kinds length_fits
  configuration_fits k e = rw e

  pub other_fits : (k : Kind) → (k ≡ kind.ReadZone → ⊥) → (k ≡ kind.ReadConfiguration → ⊥)
      → eqb n (digit_of 0x100000100000400 (kind_number k)) ≡ length_fits (kind_number k) n
  unfolding kinds length_fits
  other_fits kind.PowerCycle f g = refl
  other_fits kind.Reset f g = refl
  other_fits kind.Select f g = refl
  other_fits kind.ReadZone f g = absurd (f refl)
  other_fits kind.WriteZone f g = refl
  other_fits kind.ReadConfiguration f g = absurd (g refl)
  other_fits kind.WriteConfiguration f g = refl
  other_fits kind.ReadFuses f g = refl
  other_fits kind.WriteFuses f g = refl
  other_fits kind.VerifyPassword f g = refl
  other_fits kind.BeginAuthentication f g = refl
  other_fits kind.VerifyAuthentication f g = refl
  other_fits kind.Wait f g = refl
  other_fits kind.Poll f g = refl
  other_fits kind.WriteStaged f g = refl
  other_fits kind.Arm f g = refl
