-- What kinds 5 and 7 store ("What each command does", "Who may read or write what"), on a card that heeds the record: the byte at each address
-- of the page, and every other byte of the card. What a single command leaves is what `act` leaves (`HeededCommands.call-acts`).
use Rattle.std.specs.Prelude.{ℕ, ◌+◌, ◌*◌, ◌≤◌, ◌<◌, false, cond, List, [], ◌≡◌, length}
use Rattle.model.specs.Sizes.{card_size, fuse_at}
use Rattle.model.specs.Lists.{at}
use Rattle.model.specs.Instruction.{write_zone, write_configuration, issue}
use Rattle.model.specs.Access.{zone_writable, zone_merge, configuration_allows}
use Rattle.model.specs.At88sc1608.{at88sc1608, register_at, configuration_at}
use Rattle.model.specs.Call.{reporting}
use Rattle.model.specs.State.{State, timed, write_time}
use Rattle.model.specs.Busy.{ignores}
use Rattle.model.specs.Single.{act}
use Rattle.laws.specs.WriteLaws.{page_byte, page_apart}
use Rattle.properties.specs.StoredBytesLaws.{stays_long, zone_stored_lem, zone_freely, zone_others, zone_told}
use Rattle.properties.specs.StoredBytesLaws.{configuration_stored_lem, configuration_freely, configuration_others, configuration_told}

-- a write of at most sixteen bytes
module _ (c : List ℕ) (s : State) (a : ℕ) (xs : List ℕ) where
  -- kind 5, in the zone that is selected
  module _ (zone : s.volatile.zone < 8) (address : a < 256) (heeds : ignores at88sc1608 c s (issue (write_zone a xs)) ≡ false) where
    -- byte k goes to its address in the page: old AND new or new where the zone may be written, and else what was there
    pub zone_byte_lem : length c ≡ card_size → length xs ≤ 16 → (k : ℕ) → k < length xs
        → (let f = at c fuse_at in let r = at c (register_at s.volatile.zone) in let i = s.volatile.zone * 256 + page_byte a k in
        at (act c s (issue (write_zone a xs))).card i ≡ cond (zone_writable f r s.volatile) (zone_merge f r (at c i) (at xs k)) (at c i))
    zone_byte_lem = zone_stored_lem c s a xs zone address heeds

    -- with F = 7 it is stored as it comes
    pub zone_byte_at_seven : length c ≡ card_size → length xs ≤ 16 → at c fuse_at ≡ 7 → (k : ℕ) → k < length xs
        → at (act c s (issue (write_zone a xs))).card (s.volatile.zone * 256 + page_byte a k) ≡ at xs k
    zone_byte_at_seven = zone_freely c s a xs zone address heeds

    -- every place that is none of these keeps its byte, and the card its length
    pub zone_rest : (i : ℕ) → ((k : ℕ) → k < length xs → i ≡ s.volatile.zone * 256 + page_byte a k → ⊥)
        → at (act c s (issue (write_zone a xs))).card i ≡ at c i
    zone_rest = zone_others c s a xs zone address heeds

    pub zone_length : length (act c s (issue (write_zone a xs))).card ≡ length c
    zone_length = stays_long c s (write_zone a xs) heeds

    -- no answer, no tries; the state is kept, and the card is busy for 10 ms
    pub zone_report : (act c s (issue (write_zone a xs))).report ≡ reporting (timed s s.volatile write_time) []
    zone_report = zone_told c s a xs heeds

  -- kind 7
  module _ (address : a < 128) (heeds : ignores at88sc1608 c s (issue (write_configuration a xs)) ≡ false) where
    -- byte k goes to its address in the page where that may be written, and else what was there stays
    pub configuration_byte_lem : length c ≡ card_size → length xs ≤ 16 → (k : ℕ) → k < length xs
        → (let i = configuration_at + page_byte a k in
        at (act c s (issue (write_configuration a xs))).card i
        ≡ cond (configuration_allows 1 (at c fuse_at) (page_byte a k) s.volatile.active) (at xs k) (at c i))
    configuration_byte_lem = configuration_stored_lem c s a xs address heeds

    pub configuration_byte_at_seven : length c ≡ card_size → length xs ≤ 16 → at c fuse_at ≡ 7 → (k : ℕ) → k < length xs
        → at (act c s (issue (write_configuration a xs))).card (configuration_at + page_byte a k) ≡ at xs k
    configuration_byte_at_seven = configuration_freely c s a xs address heeds

    pub configuration_rest : (i : ℕ) → ((k : ℕ) → k < length xs → i ≡ configuration_at + page_byte a k → ⊥)
        → at (act c s (issue (write_configuration a xs))).card i ≡ at c i
    configuration_rest = configuration_others c s a xs address heeds

    pub configuration_length : length (act c s (issue (write_configuration a xs))).card ≡ length c
    configuration_length = stays_long c s (write_configuration a xs) heeds

    pub configuration_report : (act c s (issue (write_configuration a xs))).report ≡ reporting (timed s s.volatile write_time) []
    configuration_report = configuration_told c s a xs heeds

-- bytes of one write go to different addresses
pub addresses_apart : (a j k : ℕ) → j < 16 → k < 16 → page_byte a j ≡ page_byte a k → j ≡ k
addresses_apart = page_apart
