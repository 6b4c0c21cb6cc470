-- What kinds 5 and 7 store on the AT88SC1608, by who may write: what the place of each byte then holds, and that every other place is as it was.
use Rattle.std.specs.Prelude.{ℕ, ◌+◌, ◌-◌, ◌*◌, ◌/◌, ◌%◌, ◌≤◌, ◌<◌, cond, List, ◌≡◌, length}
use Rattle.std.proofs.Common.{◌∙◌, arith}
use Rattle.model.specs.Sizes.{card_size, fuse_at}
use Rattle.model.specs.Lists.{at}
use Rattle.model.specs.Volatile.{Volatile}
use Rattle.model.specs.Instruction.{write_zone, write_configuration}
use Rattle.model.specs.Access.{zone_writable, zone_merge, configuration_allows}
use Rattle.model.specs.At88sc1608.{at88sc1608, zone_cell, configuration_cell, register_at, configuration_at}
use Rattle.model.specs.Apply.{rules, kept}
use Rattle.model.specs.Apply as any
use Rattle.model.specs.Single.{apply}
use Rattle.laws.specs.AccessLaws.{fuse_rule, zone_register, zone_written, zone_merged, configuration_written, configuration_merged}
use Rattle.laws.specs.CellLaws.{stores_other, stores_at}

-- the address of byte k of a write at a: the low four bits count up and wrap, the others stay
abbrev pub page_byte : ℕ → ℕ → ℕ
page_byte a k = a / 16 * 16 + (a + k) % 16

-- bytes of one write have different addresses
pub page_apart : (a j k : ℕ) → j < 16 → k < 16 → page_byte a j ≡ page_byte a k → j ≡ k
page_apart a j k l m e = omega arith

-- what a byte of the selected zone then holds that held old, where new is written: by the fuse byte, the zone's register and the state
abbrev pub zone_stored : List ℕ → Volatile → ℕ → ℕ → ℕ
zone_stored c s old new =
    let f : ℕ = at c fuse_at in
    let r : ℕ = at c (register_at s.zone) in
    cond (zone_writable f r s) (zone_merge f r old new) old

-- and the configuration byte at an address
abbrev pub configuration_stored : List ℕ → Volatile → ℕ → ℕ → ℕ → ℕ
configuration_stored c s b old new = cond (configuration_allows 1 (at c fuse_at) b s.active) new old

module _ (c : List ℕ) (s : Volatile) (a : ℕ) (xs : List ℕ) where
  -- the rule by which a byte is stored
  zone_kept : (i old new : ℕ) → i / 256 ≡ s.zone % 8 → kept at88sc1608 (rules at88sc1608 c) s i old new ≡ zone_stored c s old new
  zone_kept i old new h =
      rw (
        zone_written (rules at88sc1608 c) s i (omega arith),
        zone_merged (rules at88sc1608 c) i old new (omega arith),
        fuse_rule c,
        zone_register c s.zone i h,
      )

  configuration_kept : (b old new : ℕ) → b < 128 → kept at88sc1608 (rules at88sc1608 c) s (configuration_at + b) old new ≡ configuration_stored c s b old new
  configuration_kept b old new h =
      let w : configuration_at + b - configuration_at ≡ b = omega arith in
      rw (
        configuration_written (rules at88sc1608 c) s (configuration_at + b) (omega arith) (omega arith),
        configuration_merged (rules at88sc1608 c) (configuration_at + b) old new (omega arith),
        fuse_rule c,
        w,
      )

  -- kind 5, in the zone that is selected
  module _ (zone : s.zone < 8) (address : a < 256) where
    zone_cell_lem : (k : ℕ) → zone_cell s.zone a (0 + k) ≡ s.zone * 256 + page_byte a k
    zone_cell_lem k = omega arith

    pub zone_at : length c ≡ card_size → length xs ≤ 16 → (k : ℕ) → k < length xs
        → at (apply c s (write_zone a xs)).card (s.zone * 256 + page_byte a k) ≡ zone_stored c s (at c (s.zone * 256 + page_byte a k)) (at xs k)
    unfolding any.apply
    zone_at long few k h =
        rw (← zone_cell_lem k)
        (stores_at (kept at88sc1608 (rules at88sc1608 c) s) (zone_cell s.zone a) xs 0 c (λ j l. omega arith) (λ i j l m e. omega arith) k h
        ∙ zone_kept (zone_cell s.zone a (0 + k)) _ _ (omega arith))

    pub zone_elsewhere : (i : ℕ) → ((k : ℕ) → k < length xs → i ≡ s.zone * 256 + page_byte a k → ⊥) → at (apply c s (write_zone a xs)).card i ≡ at c i
    unfolding any.apply
    zone_elsewhere i h =
        stores_other (kept at88sc1608 (rules at88sc1608 c) s) (zone_cell s.zone a) xs 0 i c (λ k l e. h k l (e ∙ zone_cell_lem k))

  -- kind 7
  module _ (address : a < 128) where
    configuration_cell_lem : (k : ℕ) → configuration_cell a (0 + k) ≡ configuration_at + page_byte a k
    configuration_cell_lem k = omega arith

    pub configuration_at_lem : length c ≡ card_size → length xs ≤ 16 → (k : ℕ) → k < length xs
        → at (apply c s (write_configuration a xs)).card (configuration_at + page_byte a k)
        ≡ configuration_stored c s (page_byte a k) (at c (configuration_at + page_byte a k)) (at xs k)
    unfolding any.apply
    configuration_at_lem long few k h =
        rw (← configuration_cell_lem k)
        (stores_at (kept at88sc1608 (rules at88sc1608 c) s) (configuration_cell a) xs 0 c (λ j l. omega arith) (λ i j l m e. omega arith) k h)
        ∙ configuration_kept (page_byte a k) _ _ (omega arith)

    pub configuration_elsewhere : (i : ℕ) → ((k : ℕ) → k < length xs → i ≡ configuration_at + page_byte a k → ⊥)
        → at (apply c s (write_configuration a xs)).card i ≡ at c i
    unfolding any.apply
    configuration_elsewhere i h =
        stores_other (kept at88sc1608 (rules at88sc1608 c) s) (configuration_cell a) xs 0 i c (λ k l e. h k l (e ∙ configuration_cell_lem k))
