-- The rights of the AT88SC1608 by place, once PER is blown: the table and the registers as facts about single places.
use Rattle.std.specs.Prelude.{ℕ, zero, suc, ◌+◌, ◌-◌, ◌%◌, ◌≤◌, ◌<◌, Bool, true, false, cond, List, ◌≡◌, refl, eqb}
use Rattle.std.proofs.Common.{◌∙◌, arith, lt-ltb, le-ltb, ne_eqb, eqb-true}
use Rattle.model.specs.Lists.{at}
use Rattle.model.specs.Volatile.{Volatile, Active, is_active}
use Rattle.model.specs.Access.{permissions, permission, permits, area_of, stage_of, set_of, configuration_allows}
use Rattle.model.specs.Sizes.{fuse_at, flag_at}
use Rattle.model.specs.At88sc1608.{at88sc1608, fuses, register_at, password_byte, rule_at, blow, configuration_at}
use Rattle.laws.specs.AccessLaws.{configuration_written}
use Rattle.model.specs.Device.{Counter, of_password, of_authentication, counter_place}
use Rattle.laws.specs.Sane.{Untouched, behind_shut, fuse_shut, fuse_counter, stageable}
use Rattle.secrecy.specs.Flow.{Apart}

-- ---- the places of a password: in the configuration from $40 on, never at a multiple of 4, of the selector's set

pub password_odd : (j i : ℕ) → password_byte j i % 4 ≡ 1 + i % 3
password_odd j i = omega arith

pub password_set_lem : (j i : ℕ) → set_of (password_byte j i - configuration_at) ≡ j % 8
password_set_lem j i = omega arith

-- ---- areas

area_passwords : (a : ℕ) → 64 ≤ a → (a % 4 ≡ 0 → ⊥) → area_of a ≡ 5
unfolding area_of
area_passwords a h k =
    rw (le-ltb a 12 (omega arith), le-ltb a 16 (omega arith), le-ltb a 48 (omega arith), le-ltb a 56 (omega arith), le-ltb a 64 h, ne_eqb (a % 4) 0 k)

area_registers : (a : ℕ) → 16 ≤ a → a < 48 → area_of a ≡ 2
unfolding area_of
area_registers a h k = rw (le-ltb a 12 (omega arith), le-ltb a 16 h, lt-ltb a 48 k)

-- ---- a sealed card

-- a password is read and written with the write password of its set alone
pub password_right : (write f a : ℕ) (active : Active) → write < 2 → f ≡ 0 → 64 ≤ a → (a % 4 ≡ 0 → ⊥)
    → configuration_allows write f a active ≡ is_active active (set_of a)
unfolding permission permissions stage_of permits
password_right zero f a active w e h k = rw (e, area_passwords a h k)
password_right (suc zero) f a active w e h k = rw (e, area_passwords a h k)
password_right (suc (suc n)) f a active w e h k = absurd (let z : ⊥ = omega arith in z)

-- nothing writes an access register
pub register_shut : (f a : ℕ) (active : Active) → f ≡ 0 → 16 ≤ a → a < 48 → configuration_allows 1 f a active ≡ false
unfolding permission permissions stage_of permits
register_shut f a active e h k = rw (e, area_registers a h k)

-- ---- places apart

register_counter : (z : ℕ) (n : Counter) → register_at z ≡ counter_place at88sc1608 n → ⊥
register_counter z (of_password k) = λ e. omega arith
register_counter z of_authentication = λ e. omega arith

pub password_counter : (j i : ℕ) (n : Counter) → password_byte j i ≡ counter_place at88sc1608 n → ⊥
password_counter j i (of_password k) = λ e. omega (arith, password_odd j i)
password_counter j i of_authentication = λ e. omega arith

-- ---- the rule bytes of a card

-- nothing writes them
pub rule_kept : (ρ : List ℕ) → fuses ρ ≡ 0 → (s : Volatile) (k : ℕ) → Untouched at88sc1608 ρ s (rule_at k)
rule_kept ρ f s k = go (eqb k 0)
  where
    go : (t : Bool) → Untouched at88sc1608 ρ s (cond t fuse_at (register_at (k - 1)))
    go true = record { shut = fuse_shut ρ s; counters = fuse_counter; cryptogram = λ n e. omega arith }
    go false =
        record {
          shut = configuration_written ρ s _ (omega arith) (omega arith) ∙ register_shut (fuses ρ) _ s.active f (omega arith) (omega arith);
          counters = register_counter (k - 1);
          cryptogram = λ n e. omega arith;
        }

-- F = 0 is the last stage
pub last_stage : (ρ : List ℕ) → fuses ρ ≡ 0 → (k : ℕ) → k < 9 → rule_at k ≡ fuse_at → blow (at ρ k) ≡ at ρ k
unfolding blow
last_stage ρ f k l e = go (eqb k 0) refl e
  where
    go : (t : Bool) → eqb k 0 ≡ t → cond t fuse_at (register_at (k - 1)) ≡ fuse_at → blow (at ρ k) ≡ at ρ k
    go true q e = let w : k ≡ 0 = eqb-true k 0 q in rw (w, f)
    go false q e = absurd (let w : ⊥ = omega arith in w)

-- ---- what no staged write reaches

pub apart : Apart at88sc1608
apart =
    record {
      stages = stageable;
      rule_below = λ k. rule_below (eqb k 0) (k - 1);
      rule_outside = λ k z a n. rule_outside (eqb k 0) (k - 1) z a n;
      password_below = λ j i. omega arith;
      password_outside = λ j i z a n e. omega arith;
      staging_kept = λ ρ s j l. record { shut = behind_shut ρ s j (omega arith); counters = counters j l; cryptogram = λ n e. omega arith };
      staging_apart = λ j l e. omega arith;
    }
  where
    rule_below : (t : Bool) (m : ℕ) → cond t fuse_at (register_at m) < flag_at
    rule_below true m = omega arith
    rule_below false m = omega arith

    rule_outside : (t : Bool) (m z a n : ℕ) → cond t fuse_at (register_at m) ≡ at88sc1608.zone_cell z a n → ⊥
    rule_outside true m z a n e = omega arith
    rule_outside false m z a n e = omega arith

    counters : (j : ℕ) → flag_at ≤ j → (n : Counter) → j ≡ counter_place at88sc1608 n → ⊥
    counters j l (of_password k) e = omega arith
    counters j l of_authentication e = omega arith
