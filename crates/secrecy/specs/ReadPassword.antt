-- The claim about the read password, closed for the AT88SC1608: the laws of Flow, for a zone and the two passwords of its set.
use Rattle.std.specs.Prelude.{ℕ, ◌+◌, ◌-◌, ◌/◌, ◌%◌, ◌≤◌, ◌<◌, Bool, true, false, cond, ◌||◌, List, ◌≡◌, refl, eqb}
use Rattle.std.proofs.Common.{sym, ap, ◌∙◌, arith, eqb-true, ne_eqb}
use Rattle.std.proofs.lemmas.Bool.{eqb-false}
use Rattle.model.specs.Sizes.{fuse_at, flag_at}
use Rattle.model.specs.Lists.{same_list}
use Rattle.laws.specs.BoolLaws.{and_false}
use Rattle.model.specs.Volatile.{Volatile, is_active, is_granted}
use Rattle.model.specs.Instruction.{Command, verify_password}
use Rattle.model.specs.State.{Tear}
use Rattle.model.specs.Call.{Call}
use Rattle.model.specs.Access.{rpe, ate, password_set, met, set_of}
use Rattle.model.specs.At88sc1608.{at88sc1608, fuses, register_at, register_of, password_byte, may_read, attempts_at, configuration_at}
use Rattle.model.specs.Apply.{rules, password}
use Rattle.laws.specs.AccessLaws.{fuse_rule, register_rule, zone_read, configuration_read, configuration_written}
use Rattle.model.specs.Device.{Counter, of_password, of_authentication, counter_place}
use Rattle.laws.specs.Effects.{Move, stays, resets, selects, opens, closes, begins, grants, denies}
use Rattle.laws.specs.Sane.{Untouched}
use Rattle.secrecy.specs.Unwinding.{Open}
use Rattle.secrecy.specs.Flow.{Confines, Allows}
use Rattle.secrecy.specs.Secret.{Sealed, Idle, register, in_zone, in_password, in_zone_or_passwords, or_staged, AgreeOutside, PresentsNeither, Throughout}
use Rattle.secrecy.specs.Secret.{ThroughoutElsewhere, Indistinguishable}
use Rattle.secrecy.specs.Rights.{password_right, password_odd, password_set_lem, password_counter, rule_kept, last_stage, apart}
use Rattle.secrecy.specs.Claims.{general, elsewhere}

-- ---- places

-- what a test on a password's place says
in_password_lem : (k i : ℕ) → in_password k i ≡ true → (n : ℕ) × (i ≡ password_byte k n)
in_password_lem k i e = go (eqb i (password_byte k 0)) (eqb i (password_byte k 1)) refl refl e
  where
    go : (a b : Bool) → eqb i (password_byte k 0) ≡ a → eqb i (password_byte k 1) ≡ b
        → (a || (b || eqb i (password_byte k 2))) ≡ true → (n : ℕ) × (i ≡ password_byte k n)
    go true b p q e = (0, eqb-true i _ p)
    go false true p q e = (1, eqb-true i _ q)
    go false false p q e = (2, eqb-true i _ e)

not_in_password : (k i : ℕ) → ((n : ℕ) → i ≡ password_byte k n → ⊥) → in_password k i ≡ false
not_in_password k i h = rw (ne_eqb i (password_byte k 0) (h 0), ne_eqb i (password_byte k 1) (h 1), ne_eqb i (password_byte k 2) (h 2))

module _ (z p : ℕ) (zone : z < 8) (set : p < 8) where
  abbrev hidden : ℕ → Bool
  hidden = in_zone_or_passwords z p

  abbrev secret : ℕ → Bool
  secret j = eqb (j % 8) p

  abbrev Locked : Volatile → Type 0
  Locked s = (is_active s.active p ≡ false) × (is_active s.active (8 + p) ≡ false)

  -- a hidden place lies in the zone or in a password of the set
  hidden_place : (P : ℕ → Type 0) → ((i : ℕ) → i / 256 ≡ z → P i) → ((k n : ℕ) → k % 8 ≡ p → P (password_byte k n))
      → (i : ℕ) → hidden i ≡ true → P i
  hidden_place P in-zone in-set i e = go (in_zone z i) (in_password p i) refl refl e
    where
      at_password : (k : ℕ) → k % 8 ≡ p → in_password k i ≡ true → P i
      at_password k q t = let w = in_password_lem k i t in rw w.1 (in-set k w.0 q)

      go : (a b : Bool) → in_zone z i ≡ a → in_password p i ≡ b → (a || (b || in_password (8 + p) i)) ≡ true → P i
      go true b q r e = in-zone i (eqb-true (i / 256) z q)
      go false true q r e = at_password p (omega arith) r
      go false false q r e = at_password (8 + p) (omega arith) e

  -- a place of the configuration, or the fuse byte, that lies in no password of the set is not hidden
  pub not_hidden : (i : ℕ) → configuration_at ≤ i → ((k n : ℕ) → k % 8 ≡ p → i ≡ password_byte k n → ⊥) → hidden i ≡ false
  not_hidden i l apart =
      rw (
        ne_eqb (i / 256) z (λ q. omega arith),
        not_in_password p i (λ n. apart p n (omega arith)),
        not_in_password (8 + p) i (λ n. apart (8 + p) n (omega arith)),
      )

  decides : Open at88sc1608 hidden
  decides =
      record {
        rule = λ k. rule_open (eqb k 0) (k - 1);
        counter = counter_open;
        reset_byte = λ k. not_hidden _ (omega arith) (λ j n q e. omega arith);
        fuse = not_hidden fuse_at (omega arith) (λ j n q e. omega arith);
        flag = not_hidden flag_at (omega arith) (λ j n q e. omega arith);
        named = λ k l. not_hidden _ (omega arith) (λ j n q e. omega arith);
      }
    where
      rule_open : (t : Bool) (m : ℕ) → hidden (cond t fuse_at (register_at m)) ≡ false
      rule_open true m = not_hidden fuse_at (omega arith) (λ j n q e. omega arith)
      rule_open false m = not_hidden _ (omega arith) (λ j n q e. omega arith)

      counter_open : (n : Counter) → hidden (counter_place at88sc1608 n) ≡ false
      counter_open (of_password k) = not_hidden _ (omega arith) (λ j n q e. password_counter j n (of_password k) (sym e))
      counter_open of_authentication = not_hidden attempts_at (omega arith) (λ j n q e. omega arith)

  module _ (ρ : List ℕ) (sealed : fuses ρ ≡ 0) (demanded : rpe (register_of ρ z) ≡ true) (ours : password_set (register_of ρ z) ≡ p) where
    unreadable : (s : Volatile) → Locked s → (i : ℕ) → hidden i ≡ true → may_read ρ s i ≡ false
    unreadable s l =
        hidden_place (λ i. may_read ρ s i ≡ false)
        (λ i q. zone_read ρ s i (omega arith)
        ∙ rw (q, sealed, demanded, ours, l.0, l.1) (and_false (met (ate (register_of ρ z)) (is_granted s.authentication))))
        (λ k n q. configuration_read ρ s (password_byte k n) (omega arith) (omega arith)
        ∙ password_right 0 (fuses ρ) _ s.active (omega arith) sealed (omega arith) (λ e. omega (arith, password_odd k n))
        ∙ rw (password_set_lem k n, q) l.0)

    password_kept : (s : Volatile) → Locked s → (j i : ℕ) → secret j ≡ true → Untouched at88sc1608 ρ s (password_byte j i)
    password_kept s l j i t =
        record {
          shut =
              configuration_written ρ s (password_byte j i) (omega arith) (omega arith)
              ∙ password_right 1 (fuses ρ) _ s.active (omega arith) sealed (omega arith) (λ e. omega (arith, password_odd j i))
              ∙ rw (password_set_lem j i, eqb-true (j % 8) p t) l.0;
          counters = password_counter j i;
          cryptogram = λ k e. omega arith;
        }

    confines : Confines at88sc1608 ρ hidden secret Locked
    confines =
        record {
          decides = decides;
          password_open = λ j i t. not_hidden _ (omega arith)
              (λ k n q e. eqb-false (j % 8) p t (sym (password_set_lem j i) ∙ ap (λ (a : ℕ). set_of (a - configuration_at)) e ∙ password_set_lem k n ∙ q));
          unreadable = unreadable;
          password_kept = password_kept;
          password_apart = λ j i e. omega arith;
          rule_kept = rule_kept ρ sealed;
          last_stage = last_stage ρ sealed;
          apart = apart;
        }

  allows : (b₁ b₂ : List ℕ) → Allows at88sc1608 b₁ b₂ secret Locked (PresentsNeither p b₁ b₂)
  allows b₁ b₂ =
      record {
        unpresented = λ j xs ok t. ok j xs refl (eqb-true (j % 8) p t);
        powers_locked = (refl, refl);
        stays_locked = λ c s t k l ok right m. go c s k t l right m;
      }
    where
      go : (c : List ℕ) (s : Volatile) (k : Command) (t : Volatile) → Locked s
          → ((j : ℕ) (xs : List ℕ) → k ≡ verify_password j xs → same_list xs (password at88sc1608 c j) ≡ true → secret j ≡ false)
          → Move at88sc1608 c s k t → Locked t
      go c s k t l right stays = l
      go c s k t l right resets = (refl, refl)
      go c s k t l right selects = l
      go c s k t l right (opens {j = j} {xs = xs} e) =
          let ne : j % 8 ≡ p → ⊥ = eqb-false (j % 8) p (right j xs refl e) in
          (ne_eqb j p (λ q. ne (omega arith)), ne_eqb j (8 + p) (λ q. ne (omega arith)))
      go c s k t l right closes = (refl, refl)
      go c s k t l right begins = l
      go c s k t l right (grants e) = l
      go c s k t l right denies = l

module _ (z : ℕ) (zl : z < 8) (b₁ b₂ : List ℕ) (s₁ : Sealed b₁) (s₂ : Sealed b₂) (idle : Idle b₁) (r : rpe (register b₁ z) ≡ true)
    (h : AgreeOutside (in_zone_or_passwords z (password_set (register b₁ z))) b₁ b₂) (tear : Tear) (xs : List Call) where
  abbrev p : ℕ
  p = password_set (register b₁ z)

  pl : p < 8
  pl = omega arith

  abbrev ρ : List ℕ
  ρ = rules at88sc1608 b₁

  ours : Confines at88sc1608 ρ (hidden z p zl pl) (secret z p zl pl) (Locked z p zl pl)
  ours = confines z p zl pl ρ (fuse_rule b₁ ∙ s₁.blown) (ap rpe (register_rule b₁ z zl) ∙ r) (ap password_set (register_rule b₁ z zl))

  pub claim : Throughout (PresentsNeither p b₁ b₂) tear xs b₁ → Indistinguishable (or_staged (in_zone_or_passwords z p)) tear xs b₁ b₂
  claim =
      general ρ (hidden z p zl pl) (secret z p zl pl) (Locked z p zl pl) (PresentsNeither p b₁ b₂) b₁ b₂ ours (allows z p zl pl b₁ b₂)
      refl s₁.long idle h tear xs

  -- a byte of another zone is not hidden
  other_zone : (i : ℕ) → i < configuration_at → (i / 256 ≡ z → ⊥) → in_zone_or_passwords z p i ≡ false
  other_zone i l ne =
      rw (ne_eqb (i / 256) z ne, not_in_password p i (λ n e. omega arith), not_in_password (8 + p) i (λ n e. omega arith))

  pub claim_elsewhere : ThroughoutElsewhere z (PresentsNeither p b₁ b₂) tear xs b₁ → Indistinguishable (in_zone_or_passwords z p) tear xs b₁ b₂
  claim_elsewhere =
      elsewhere ρ (hidden z p zl pl) (secret z p zl pl) (Locked z p zl pl) (PresentsNeither p b₁ b₂) b₁ b₂ ours (allows z p zl pl b₁ b₂)
      refl s₁.long idle h tear xs z other_zone
