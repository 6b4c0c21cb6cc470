-- Laws of access on the AT88SC1608: which definition speaks for a place, and the rule bytes of a card.
use Rattle.std.specs.Prelude.{ℕ, ◌+◌, ◌-◌, ◌/◌, ◌%◌, ◌≤◌, ◌<◌, true, List, ◌≡◌, refl, ltb, eqb}
use Rattle.std.proofs.Common.{◌∙◌, arith, lt-ltb, le-ltb, ne_eqb}
use Rattle.model.specs.Sizes.{fuse_at}
use Rattle.model.specs.Lists.{at}
use Rattle.laws.specs.ListLaws.{at_tab}
use Rattle.laws.specs.BoolLaws.{choice}
use Rattle.laws.specs.Tables.{agree_at}
use Rattle.model.specs.Volatile.{Volatile, Active}
use Rattle.model.specs.Access.{zone_readable, zone_writable, zone_merge, free, permissions, area_of, stage_of, permission, permits, configuration_allows}
use Rattle.model.specs.At88sc1608.{at88sc1608, register_at, rule_at, fuses, register_of, may_read, may_write, merge, concealed, configuration_at}
use Rattle.model.specs.Apply.{rules}

-- ---- the rule bytes of a card

pub fuse_rule : (c : List ℕ) → fuses (rules at88sc1608 c) ≡ at c fuse_at
fuse_rule c = at_tab (λ k. at c (rule_at k)) 9 0 (omega arith)

pub register_rule : (c : List ℕ) (z : ℕ) → z < 8 → register_of (rules at88sc1608 c) z ≡ at c (register_at z)
register_rule c z h =
    let e : 1 + z - 1 ≡ z = omega arith in
    at_tab (λ k. at c (rule_at k)) 9 (1 + z) (omega arith) ∙ rw (ne_eqb (1 + z) 0 (λ q. omega arith), e)

-- ---- a place of a zone

-- the register of the zone that it lies in
pub zone_register : (c : List ℕ) (z i : ℕ) → i / 256 ≡ z % 8 → register_of (rules at88sc1608 c) (i / 256) ≡ at c (register_at z)
zone_register c z i e = let w : z % 8 % 8 ≡ z % 8 = omega arith in rw e (register_rule c (z % 8) (omega arith) ∙ rw w)

pub zone_read : (ρ : List ℕ) (s : Volatile) (i : ℕ) → i < configuration_at → may_read ρ s i ≡ zone_readable (fuses ρ) (register_of ρ (i / 256)) s
unfolding may_read
zone_read ρ s i h = rw (lt-ltb i configuration_at h)

pub zone_written : (ρ : List ℕ) (s : Volatile) (i : ℕ) → i < configuration_at → may_write ρ s i ≡ zone_writable (fuses ρ) (register_of ρ (i / 256)) s
unfolding may_write
zone_written ρ s i h = rw (lt-ltb i configuration_at h)

pub zone_merged : (ρ : List ℕ) (i old new : ℕ) → i < configuration_at → merge ρ i old new ≡ zone_merge (fuses ρ) (register_of ρ (i / 256)) old new
unfolding merge
zone_merged ρ i old new h = rw (lt-ltb i configuration_at h)

pub zone_concealed : (ρ : List ℕ) (i : ℕ) → i < configuration_at → concealed ρ i ≡ fuses ρ
zone_concealed ρ i h = rw (lt-ltb i configuration_at h)

-- ---- a place of the configuration

pub configuration_read : (ρ : List ℕ) (s : Volatile) (i : ℕ) → configuration_at ≤ i → i < fuse_at
    → may_read ρ s i ≡ configuration_allows 0 (fuses ρ) (i - configuration_at) s.active
unfolding may_read
configuration_read ρ s i h k = rw (le-ltb i configuration_at h, lt-ltb i fuse_at k)

pub configuration_written : (ρ : List ℕ) (s : Volatile) (i : ℕ) → configuration_at ≤ i → i < fuse_at
    → may_write ρ s i ≡ configuration_allows 1 (fuses ρ) (i - configuration_at) s.active
unfolding may_write
configuration_written ρ s i h k = rw (le-ltb i configuration_at h, lt-ltb i fuse_at k)

pub configuration_merged : (ρ : List ℕ) (i old new : ℕ) → configuration_at ≤ i → merge ρ i old new ≡ new
unfolding merge
configuration_merged ρ i old new h = rw (le-ltb i configuration_at h)

pub configuration_concealed : (ρ : List ℕ) (i : ℕ) → configuration_at ≤ i → concealed ρ i ≡ 0
configuration_concealed ρ i h = rw (le-ltb i configuration_at h)

-- ---- the entries of the table exist

pub area_below : (a : ℕ) → area_of a < 7
unfolding area_of
area_below a =
    choice (λ n. n < 7) (ltb a 12) _ _ (omega arith)
    (choice (λ n. n < 7) (ltb a 16) _ _ (omega arith)
    (choice (λ n. n < 7) (ltb a 48) _ _ (omega arith)
    (choice (λ n. n < 7) (ltb a 56) _ _ (omega arith)
    (choice (λ n. n < 7) (ltb a 64) _ _ (omega arith) (choice (λ n. n < 7) (eqb (a % 4) 0) 6 5 (omega arith) (omega arith))))))

pub stage_below : (f : ℕ) → stage_of f < 4
unfolding stage_of
stage_below f =
    choice (λ n. n < 4) (eqb f 7) _ _ (omega arith)
    (choice (λ n. n < 4) (eqb f 6) _ _ (omega arith) (choice (λ n. n < 4) (eqb f 4) 2 3 (omega arith) (omega arith)))

-- ---- with F = 7 every entry is free

seven_free : (area : ℕ) → area < 7 → (permission area 0 0 ≡ free) × (permission area 0 1 ≡ free)
unfolding permission permissions
seven_free area h = (agree_at (λ i. permission i 0 0) (λ i. free) 7 refl area h, agree_at (λ i. permission i 0 1) (λ i. free) 7 refl area h)

pub read_at_seven : (a : ℕ) (x : Active) → configuration_allows 0 7 a x ≡ true
unfolding permits stage_of
read_at_seven a x = rw (seven_free (area_of a) (area_below a)).0

pub written_at_seven : (a : ℕ) (x : Active) → configuration_allows 1 7 a x ≡ true
unfolding permits stage_of
written_at_seven a x = rw (seven_free (area_of a) (area_below a)).1
