-- The AT88SC1608 as a device: eight zones, the configuration, the fuse byte ("The card"), the staging bytes ("Writes that survive a pulled card").
use Rattle.std.specs.Prelude.{ℕ, ◌+◌, ◌-◌, ◌*◌, ◌/◌, ◌%◌, Bool, false, cond, List, ltb, eqb}
use Rattle.model.specs.Sizes.{card_size, fuse_at, flag_at, most_staged}
use Rattle.model.specs.Lists.{at}
use Rattle.model.specs.Bits.{reversed, spent_counter, tries_left}
use Rattle.model.specs.Volatile.{Volatile, is_active}
use Rattle.model.specs.Device.{Device}
use Rattle.model.specs.Access.{zone_readable, zone_writable, zone_merge, configuration_allows}

-- ---- the map

-- where the configuration starts; in it the access registers at $10, the authentication attempts counter (AAC) at $20, the cryptogram at $28
abbrev pub configuration_at : ℕ
configuration_at = 2048

abbrev pub registers_at : ℕ
registers_at = configuration_at + 0x10

abbrev pub attempts_at : ℕ
attempts_at = configuration_at + 0x20

abbrev pub cryptogram_at : ℕ
cryptogram_at = configuration_at + 0x28

-- the access register of a zone
abbrev pub register_at : ℕ → ℕ
register_at z = registers_at + z % 8

-- Byte k of a read goes on at $00 of the zone past $FF. Byte k of a write stays in its page of 16 bytes.
abbrev pub zone_byte : ℕ → ℕ → ℕ → ℕ
zone_byte z a k = z % 8 * 256 + (a + k) % 256

abbrev pub zone_cell : ℕ → ℕ → ℕ → ℕ
zone_cell z a k = z % 8 * 256 + a / 16 % 16 * 16 + (a + k) % 16

abbrev pub configuration_byte : ℕ → ℕ → ℕ
configuration_byte a k = configuration_at + (a + k) % 128

abbrev pub configuration_cell : ℕ → ℕ → ℕ
configuration_cell a k = configuration_at + a / 16 % 8 * 16 + (a + k) % 16

-- a selector's counter (PAC) at $40 + 8p or $44 + 8p, its password in the next three bytes
abbrev pub counter_at : ℕ → ℕ
counter_at k = configuration_at + 64 + k % 8 * 8 + k / 8 % 2 * 4

abbrev pub password_byte : ℕ → ℕ → ℕ
password_byte k i = counter_at k + 1 + i % 3

-- ---- access, by the rule bytes: F, then the eight access registers

abbrev pub rule_at : ℕ → ℕ
rule_at k = cond (eqb k 0) fuse_at (register_at (k - 1))

abbrev pub fuses : List ℕ → ℕ
fuses ρ = at ρ 0

abbrev pub register_of : List ℕ → ℕ → ℕ
register_of ρ z = at ρ (1 + z)

unfoldable pub may_read : List ℕ → Volatile → ℕ → Bool
may_read ρ s i =
    cond (ltb i configuration_at) (zone_readable (fuses ρ) (register_of ρ (i / 256)) s)
    (cond (ltb i fuse_at) (configuration_allows 0 (fuses ρ) (i - configuration_at) s.active) false)

unfoldable pub may_write : List ℕ → Volatile → ℕ → Bool
may_write ρ s i =
    cond (ltb i configuration_at) (zone_writable (fuses ρ) (register_of ρ (i / 256)) s)
    (cond (ltb i fuse_at) (configuration_allows 1 (fuses ρ) (i - configuration_at) s.active) false)

unfoldable pub merge : List ℕ → ℕ → ℕ → ℕ → ℕ
merge ρ i old new = cond (ltb i configuration_at) (zone_merge (fuses ρ) (register_of ρ (i / 256)) old new) new

-- a place that may not be read: F in a zone, $00 in the configuration ("The byte shown for a closed zone")
abbrev pub concealed : List ℕ → ℕ → ℕ
concealed ρ i = cond (ltb i configuration_at) (fuses ρ) 0

-- ---- the fuses: 7, 6, 4, 0

unfoldable pub blow : ℕ → ℕ
blow f = cond (eqb f 7) 6 (cond (eqb f 6) 4 0)

abbrev pub at88sc1608 : Device
at88sc1608 =
    record {
      size = card_size;
      zones = 8;
      selectors = 16;
      fuse_at = fuse_at;
      flag_at = flag_at;
      most_staged = most_staged;
      rule_at = rule_at;
      rule_count = 9;
      may_read = may_read;
      may_write = may_write;
      merge = merge;
      concealed = concealed;
      zone_byte = zone_byte;
      zone_cell = zone_cell;
      configuration_byte = configuration_byte;
      configuration_cell = configuration_cell;
      reset_byte = λ k. configuration_at + k % 4;
      reset_count = 4;
      sent = reversed;
      counter_at = counter_at;
      password_byte = password_byte;
      password_count = 3;
      attempts_at = attempts_at;
      cryptogram_cell = λ k. cryptogram_at + k % 8;
      spend = spent_counter;
      tries = tries_left;
      may_blow = λ s. is_active s.active 7;
      blow = blow;
    }
