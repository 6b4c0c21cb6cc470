-- Zone reads and writes of the model in the terms of the code.
use Prim.Native.Nat.{ℕ, ◌+◌, ◌-◌, ◌*◌, ◌/◌, ◌%◌, ◌<◌}
use mathlib.Core.Bool.{Bool, true, false, cond, not}
use mathlib.Core.List.{List, ◌++◌}
use mathlib.Core.Path.{◌≡◌, refl, sym, ap, ◌∙◌}
use native.Mathlib.Omega.{arith}
use borrow.Author.Tests.{not-true, not-false}
use lib.ListN.{length, take, drop}
use lib.Seq.{get_or-take, get_or-drop}
use Rattle.model.specs.Sizes.{card_size, fuse_at}
use Rattle.model.specs.Lists.{at, tab, stores}
use Rattle.laws.specs.ListLaws.{tab_cong}
use Rattle.model.specs.Volatile.{Volatile}
use Rattle.model.specs.Instruction.{read_zone, write_zone}
use Rattle.model.specs.Access.{zone_readable, zone_writable}
use Rattle.laws.specs.AccessLaws.{fuse_rule, zone_register, zone_written, zone_merged}
use Rattle.laws.specs.ReadLaws.{zone_answer}
use Rattle.model.specs.At88sc1608.{at88sc1608, zone_byte, zone_cell, register_of, register_at, registers_at}
use Rattle.model.specs.Staging.{may_stage, final_values}
use Rattle.model.specs.Apply.{rules, kept}
use Rattle.model.specs.Apply as any
use Rattle.laws.specs.Loops.{stores_cong, stores_kept, stores_part}
use Rattle.model.specs.Single.{apply}
use Rattle.memory.specs.ZonePage.{merges_of, merged_of}

module _ (c : List ℕ) (s : Volatile) (a : ℕ) (zone : s.zone < 8) where
  -- where the selected zone's register lies
  register_place : register_at s.zone ≡ registers_at + s.zone
  register_place = omega arith

  -- A read of n bytes: the space was d and is l.
  module _ (n : ℕ) (readable : Bool) (d l : List ℕ) (e : readable ≡ zone_readable (at c fuse_at) (at c (registers_at + s.zone)) s) where
    read_zone_lem : l ≡ tab (λ k. cond readable (at c (s.zone * 256 + (a + k) % 256)) (at c fuse_at)) n ++ drop n d
        → l ≡ (apply c s (read_zone a n)).report.answer ++ drop n d
    read_zone_lem q =
        rw (zone_answer c s a n)
        (q ∙ ap (λ (x : List ℕ). x ++ drop n d)
        (tab_cong _ _ n (λ k h. let w : zone_byte s.zone a k ≡ s.zone * 256 + (a + k) % 256 = omega arith in rw (register_place, ← e, w))))

    pub read_zone_shut : not readable ≡ true → l ≡ tab (λ k. at c fuse_at) n ++ drop n d → l ≡ (apply c s (read_zone a n)).report.answer ++ drop n d
    read_zone_shut t q = read_zone_lem (rw (not-true readable t) q)

    pub read_zone_open : not readable ≡ false → l ≡ tab (λ k. at c (s.zone * 256 + (a + k) % 256)) n ++ drop n d
        → l ≡ (apply c s (read_zone a n)).report.answer ++ drop n d
    read_zone_open t q = read_zone_lem (rw (not-false readable t) q)

  -- what a store leaves at a cell of the zone
  zone_kept : (k old new : ℕ) → kept at88sc1608 (rules at88sc1608 c) s (zone_cell s.zone a k) old new
      ≡ cond (zone_writable (at c fuse_at) (at c (registers_at + s.zone)) s) (merged_of (merges_of (at c fuse_at) (at c (registers_at + s.zone))) old new) old
  zone_kept k old new =
      let i : ℕ = zone_cell s.zone a k in
      let e : register_of (rules at88sc1608 c) (i / 256) ≡ at c (registers_at + s.zone) = zone_register c s.zone i (omega arith) ∙ rw register_place in
      rw (zone_written (rules at88sc1608 c) s i (omega arith), zone_merged (rules at88sc1608 c) i old new (omega arith), fuse_rule c, e)

  pub write_zone_shut : (xs : List ℕ) (writable : Bool) → writable ≡ zone_writable (at c fuse_at) (at c (registers_at + s.zone)) s → not writable ≡ true
      → c ≡ (apply c s (write_zone a xs)).card
  unfolding any.apply
  write_zone_shut xs writable e t = sym (stores_kept _ _ (λ k old new. zone_kept k old new ∙ rw (← e, not-true writable t)) xs 0 c)

  -- the page is taken out, stored into and put back
  pub write_zone_open : (xs ys : List ℕ) (writable merges : Bool) (base : ℕ) → writable ≡ zone_writable (at c fuse_at) (at c (registers_at + s.zone)) s
      → not writable ≡ false
      → merges ≡ merges_of (at c fuse_at) (at c (registers_at + s.zone)) → base ≡ s.zone * 256 + a / 16 * 16 → a < 256 → length c ≡ card_size
      → ys ≡ stores (λ i. merged_of merges) (λ k. (a % 16 + k) % 16) xs 0 (take (base + 16 - base) (drop base c))
      → take base c ++ (ys ++ drop (base + 16 - base) (drop base c)) ≡ (apply c s (write_zone a xs)).card
  unfolding any.apply
  write_zone_open xs ys writable merges base e t m b l n y =
      let w : ℕ = base + 16 - base in
      ap (λ (zs : List ℕ). take base c ++ (zs ++ drop w (drop base c))) y
      ∙ stores_part (λ i. merged_of merges) (λ i. merged_of merges) (λ k. (a % 16 + k) % 16) base w (λ k. omega arith) (λ k old new. refl) xs 0 c (omega arith)
      ∙ sym (stores_cong _ _ _ _ (λ k. omega arith) (λ k old new. zone_kept k old new ∙ rw (← e, not-false writable t, ← m)) xs 0 c)

  -- the right of a staged write, and the values that it stages
  pub stage_right : (writable : Bool) → writable ≡ zone_writable (at c fuse_at) (at c (registers_at + s.zone)) s → (a : ℕ)
      → writable ≡ may_stage at88sc1608 c s a
  stage_right writable e a =
      let i : ℕ = zone_cell s.zone a 0 in
      let q : register_of (rules at88sc1608 c) (i / 256) ≡ at c (registers_at + s.zone) = zone_register c s.zone i (omega arith) ∙ rw register_place in
      e ∙ sym (zone_written (rules at88sc1608 c) s i (omega arith) ∙ rw (fuse_rule c, q))

  pub stage_values : (xs ys d : List ℕ) (merges : Bool) (base : ℕ) → merges ≡ merges_of (at c fuse_at) (at c (registers_at + s.zone))
      → base ≡ s.zone * 256 + a / 16 * 16 → a < 256 → length c ≡ card_size
      → ys ≡ tab (λ k. merged_of merges (at (take (base + 16 - base) (drop base c)) ((a % 16 + k) % 16)) (at xs k)) (length xs) ++ drop (length xs) d
      → ys ≡ final_values at88sc1608 c s.zone a xs ++ drop (length xs) d
  stage_values xs ys d merges base m b l n y = y ∙ ap (λ (vs : List ℕ). vs ++ drop (length xs) d) (tab_cong _ _ (length xs) (λ k h. value k))
    where
      value : (k : ℕ) → merged_of merges (at (take (base + 16 - base) (drop base c)) ((a % 16 + k) % 16)) (at xs k)
          ≡ at88sc1608.merge (rules at88sc1608 c) (zone_cell s.zone a k) (at c (zone_cell s.zone a k)) (at xs k)
      value k =
          let i : ℕ = zone_cell s.zone a k in
          let q : register_of (rules at88sc1608 c) (i / 256) ≡ at c (registers_at + s.zone) = zone_register c s.zone i (omega arith) ∙ rw register_place in
          let place : base + (a % 16 + k) % 16 ≡ i = omega arith in
          ap (λ (x : ℕ). merged_of merges x (at xs k))
          (get_or-take (base + 16 - base) (drop base c) ((a % 16 + k) % 16) 0 (omega arith) ∙ get_or-drop base c ((a % 16 + k) % 16) 0 ∙ ap (at c) place)
          ∙ sym (zone_merged (rules at88sc1608 c) i (at c i) (at xs k) (omega arith) ∙ rw (fuse_rule c, q, ← m))
