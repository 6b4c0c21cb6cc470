-- The claim about authentication, closed for the AT88SC1608: the laws of Flow, for a zone alone. No password is secret.
use Rattle.std.specs.Prelude.{ℕ, ◌-◌, ◌/◌, ◌≤◌, ◌<◌, Bool, true, false, cond, List, ◌≡◌, refl, eqb}
use Rattle.std.proofs.Common.{true≢false, sym, ap, ◌∙◌, arith, eqb-true, ne_eqb}
use Rattle.model.specs.Sizes.{fuse_at, flag_at}
use Rattle.model.specs.Volatile.{Volatile, is_granted}
use Rattle.model.specs.Instruction.{Command}
use Rattle.model.specs.State.{Tear}
use Rattle.model.specs.Call.{Call}
use Rattle.model.specs.Access.{ate}
use Rattle.model.specs.At88sc1608.{at88sc1608, fuses, register_at, register_of, attempts_at, configuration_at}
use Rattle.model.specs.Apply.{rules}
use Rattle.laws.specs.AccessLaws.{fuse_rule, register_rule, zone_read}
use Rattle.model.specs.Device.{Counter, of_password, of_authentication, counter_place}
use Rattle.laws.specs.Effects.{Move, stays, resets, selects, opens, closes, begins, grants, denies}
use Rattle.secrecy.specs.Unwinding.{Open}
use Rattle.secrecy.specs.Flow.{Confines, Allows}
use Rattle.secrecy.specs.Secret.{Sealed, Idle, register, in_zone, or_staged, AgreeOutside, AcceptsNot, Throughout, ThroughoutElsewhere, Indistinguishable}
use Rattle.secrecy.specs.Rights.{rule_kept, last_stage, apart}
use Rattle.secrecy.specs.Claims.{general, elsewhere}

abbrev secret : ℕ → Bool
secret j = false

abbrev Locked : Volatile → Type 0
Locked s = is_granted s.authentication ≡ false

-- a place of the configuration, or the fuse byte, is not in the zone
pub not_hidden : (z i : ℕ) → z < 8 → configuration_at ≤ i → in_zone z i ≡ false
not_hidden z i zl l = ne_eqb (i / 256) z (λ q. omega arith)

decides : (z : ℕ) → z < 8 → Open at88sc1608 (in_zone z)
decides z zl =
    record {
      rule = λ k. rule_open (eqb k 0) (k - 1);
      counter = counter_open;
      reset_byte = λ k. not_hidden z _ zl (omega arith);
      fuse = not_hidden z fuse_at zl (omega arith);
      flag = not_hidden z flag_at zl (omega arith);
      named = λ k l. not_hidden z _ zl (omega arith);
    }
  where
    rule_open : (t : Bool) (m : ℕ) → in_zone z (cond t fuse_at (register_at m)) ≡ false
    rule_open true m = not_hidden z fuse_at zl (omega arith)
    rule_open false m = not_hidden z _ zl (omega arith)

    counter_open : (n : Counter) → in_zone z (counter_place at88sc1608 n) ≡ false
    counter_open (of_password k) = not_hidden z _ zl (omega arith)
    counter_open of_authentication = not_hidden z attempts_at zl (omega arith)

confines : (z : ℕ) → z < 8 → (ρ : List ℕ) → fuses ρ ≡ 0 → ate (register_of ρ z) ≡ true → Confines at88sc1608 ρ (in_zone z) secret Locked
confines z zl ρ sealed demanded =
    record {
      decides = decides z zl;
      password_open = λ j i t. not_hidden z _ zl (omega arith);
      unreadable = λ s l i t. let q : i / 256 ≡ z = eqb-true (i / 256) z t in zone_read ρ s i (omega arith) ∙ rw (q, sealed, demanded, l);
      password_kept = λ s l j i t. absurd (true≢false (sym t));
      password_apart = λ j i e. omega arith;
      rule_kept = rule_kept ρ sealed;
      last_stage = last_stage ρ sealed;
      apart = apart;
    }

allows : (b₁ b₂ : List ℕ) → Allows at88sc1608 b₁ b₂ secret Locked AcceptsNot
allows b₁ b₂ =
    record {
      unpresented = λ j xs ok t. absurd (true≢false (sym t));
      powers_locked = refl;
      stays_locked = λ c s t k l ok right m. go c s k t l ok m;
    }
  where
    go : (c : List ℕ) (s : Volatile) (k : Command) (t : Volatile) → Locked s → AcceptsNot k → Move at88sc1608 c s k t → Locked t
    go c s k t l ok stays = l
    go c s k t l ok resets = refl
    go c s k t l ok selects = l
    go c s k t l ok (opens e) = l
    go c s k t l ok closes = l
    go c s k t l ok begins = refl
    go c s k t l ok (grants {xs = xs} e) = absurd (ok xs refl)
    go c s k t l ok denies = refl

module _ (z : ℕ) (zl : z < 8) (b₁ b₂ : List ℕ) (s₁ : Sealed b₁) (s₂ : Sealed b₂) (idle : Idle b₁) (r : ate (register b₁ z) ≡ true)
    (h : AgreeOutside (in_zone z) b₁ b₂) (tear : Tear) (xs : List Call) where
  abbrev ρ : List ℕ
  ρ = rules at88sc1608 b₁

  ours : Confines at88sc1608 ρ (in_zone z) secret Locked
  ours = confines z zl ρ (fuse_rule b₁ ∙ s₁.blown) (ap ate (register_rule b₁ z zl) ∙ r)

  pub claim : Throughout AcceptsNot tear xs b₁ → Indistinguishable (or_staged (in_zone z)) tear xs b₁ b₂
  claim = general ρ (in_zone z) secret Locked AcceptsNot b₁ b₂ ours (allows b₁ b₂) refl s₁.long idle h tear xs

  pub claim_elsewhere : ThroughoutElsewhere z AcceptsNot tear xs b₁ → Indistinguishable (in_zone z) tear xs b₁ b₂
  claim_elsewhere =
      elsewhere ρ (in_zone z) secret Locked AcceptsNot b₁ b₂ ours (allows b₁ b₂) refl s₁.long idle h tear xs z (λ i l ne. ne_eqb (i / 256) z ne)
