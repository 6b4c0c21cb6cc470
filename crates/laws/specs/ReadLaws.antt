-- What kinds 4 and 6 answer on the AT88SC1608, by who may read.
use Rattle.std.specs.Prelude.{ℕ, ◌+◌, ◌-◌, ◌≤◌, ◌<◌, false, cond, List, ◌≡◌}
use Rattle.std.proofs.Common.{◌∙◌, arith}
use Rattle.model.specs.Sizes.{fuse_at}
use Rattle.model.specs.Lists.{at, tab}
use Rattle.laws.specs.ListLaws.{tab_cong, at_tab}
use Rattle.model.specs.Volatile.{Volatile}
use Rattle.model.specs.Instruction.{read_zone, read_configuration}
use Rattle.model.specs.Access.{zone_readable, configuration_allows}
use Rattle.model.specs.At88sc1608.{at88sc1608, zone_byte, configuration_byte, register_at, configuration_at}
use Rattle.laws.specs.AccessLaws.{fuse_rule, zone_register, zone_read, zone_concealed, configuration_read, configuration_concealed}
use Rattle.model.specs.Apply.{rules, shown}
use Rattle.model.specs.Apply as any
use Rattle.model.specs.Single.{apply}

module _ (c : List ℕ) (s : Volatile) (a : ℕ) where
  zone_shown : (k : ℕ) → shown at88sc1608 c s (zone_byte s.zone a k)
      ≡ cond (zone_readable (at c fuse_at) (at c (register_at s.zone)) s) (at c (zone_byte s.zone a k)) (at c fuse_at)
  zone_shown k =
      let i : ℕ = zone_byte s.zone a k in
      rw (
        zone_read (rules at88sc1608 c) s i (omega arith),
        zone_concealed (rules at88sc1608 c) i (omega arith),
        fuse_rule c,
        zone_register c s.zone i (omega arith),
      )

  configuration_shown : (k : ℕ) → a + k < 128 → shown at88sc1608 c s (configuration_byte a k)
      ≡ cond (configuration_allows 0 (at c fuse_at) (a + k) s.active) (at c (configuration_at + (a + k))) 0
  configuration_shown k h =
      let i : ℕ = configuration_byte a k in
      let e : i ≡ configuration_at + (a + k) = omega arith in
      let w : configuration_at + (a + k) - configuration_at ≡ a + k = omega arith in
      rw (
        configuration_read (rules at88sc1608 c) s i (omega arith) (omega arith),
        configuration_concealed (rules at88sc1608 c) i (omega arith),
        fuse_rule c,
        e,
        w,
      )

  -- the whole answer, byte by byte
  pub zone_answer : (n : ℕ) → (apply c s (read_zone a n)).report.answer
      ≡ tab (λ k. cond (zone_readable (at c fuse_at) (at c (register_at s.zone)) s) (at c (zone_byte s.zone a k)) (at c fuse_at)) n
  unfolding any.apply
  zone_answer n = tab_cong _ _ n (λ k h. zone_shown k)

  pub configuration_answer : (n : ℕ) → a + n ≤ 128 → (apply c s (read_configuration a n)).report.answer
      ≡ tab (λ k. cond (configuration_allows 0 (at c fuse_at) (a + k) s.active) (at c (configuration_at + (a + k))) 0) n
  unfolding any.apply
  configuration_answer n h = tab_cong _ _ n (λ k l. configuration_shown k (omega arith))

  -- what may not be read
  pub zone_closed : (n : ℕ) → zone_readable (at c fuse_at) (at c (register_at s.zone)) s ≡ false
      → (apply c s (read_zone a n)).report.answer ≡ tab (λ k. at c fuse_at) n
  zone_closed n e = zone_answer n ∙ tab_cong _ _ n (λ k h. rw e)

  pub configuration_closed : (n k : ℕ) → a + n ≤ 128 → k < n → configuration_allows 0 (at c fuse_at) (a + k) s.active ≡ false
      → at (apply c s (read_configuration a n)).report.answer k ≡ 0
  configuration_closed n k h l e = rw (configuration_answer n h) (at_tab _ n k l ∙ rw e)
