-- Of what kinds 5 and 7 store on a card that heeds the record.
use Rattle.std.specs.Prelude.{ℕ, ◌+◌, ◌*◌, ◌≤◌, ◌<◌, false, List, [], ◌≡◌, length}
use Rattle.std.proofs.Math.Path.{ap}
use Rattle.std.proofs.Common.{◌∙◌}
use Rattle.model.specs.Sizes.{card_size, fuse_at}
use Rattle.model.specs.Lists.{at}
use Rattle.model.specs.Instruction.{Command, write_zone, write_configuration, issue}
use Rattle.model.specs.At88sc1608.{at88sc1608, configuration_at}
use Rattle.model.specs.Apply as any
use Rattle.model.specs.Call.{Acted, reporting}
use Rattle.model.specs.State.{State, timed, write_time}
use Rattle.model.specs.Busy.{ignores}
use Rattle.model.specs.Single.{apply, act}
use Rattle.laws.specs.AccessLaws.{written_at_seven}
use Rattle.laws.specs.HeededLaws.{issued}
use Rattle.laws.specs.Sane.{card_length_lem}
use Rattle.laws.specs.WriteLaws.{page_byte, zone_stored, configuration_stored, zone_at, zone_elsewhere, configuration_at_lem, configuration_elsewhere}

-- a place of the card that a command leaves which is not ignored
card_at : (c : List ℕ) (s : State) (k : Command) → ignores at88sc1608 c s (issue k) ≡ false → (i : ℕ)
    → at (act c s (issue k)).card i ≡ at (apply c s.volatile k).card i
card_at c s k e i = ap (λ (m : Acted State). at m.card i) (issued at88sc1608 c s k e)

-- the card keeps its length
pub stays_long : (c : List ℕ) (s : State) (k : Command) → ignores at88sc1608 c s (issue k) ≡ false → length (act c s (issue k)).card ≡ length c
stays_long c s k e = ap (λ (m : Acted State). length m.card) (issued at88sc1608 c s k e) ∙ card_length_lem at88sc1608 c s.volatile k

module _ (c : List ℕ) (s : State) (a : ℕ) (xs : List ℕ) where
  module _ (zone : s.volatile.zone < 8) (address : a < 256) (heeds : ignores at88sc1608 c s (issue (write_zone a xs)) ≡ false) where
    pub zone_stored_lem : length c ≡ card_size → length xs ≤ 16 → (k : ℕ) → k < length xs
        → (let i = s.volatile.zone * 256 + page_byte a k in at (act c s (issue (write_zone a xs))).card i ≡ zone_stored c s.volatile (at c i) (at xs k))
    zone_stored_lem long few k h = card_at c s (write_zone a xs) heeds _ ∙ zone_at c s.volatile a xs zone address long few k h

    pub zone_freely : length c ≡ card_size → length xs ≤ 16 → at c fuse_at ≡ 7 → (k : ℕ) → k < length xs
        → at (act c s (issue (write_zone a xs))).card (s.volatile.zone * 256 + page_byte a k) ≡ at xs k
    zone_freely long few f k h = zone_stored_lem long few k h ∙ rw f

    pub zone_others : (i : ℕ) → ((k : ℕ) → k < length xs → i ≡ s.volatile.zone * 256 + page_byte a k → ⊥)
        → at (act c s (issue (write_zone a xs))).card i ≡ at c i
    zone_others i h = card_at c s (write_zone a xs) heeds i ∙ zone_elsewhere c s.volatile a xs zone address i h

  pub zone_told : ignores at88sc1608 c s (issue (write_zone a xs)) ≡ false
      → (act c s (issue (write_zone a xs))).report ≡ reporting (timed s s.volatile write_time) []
  unfolding any.apply
  zone_told heeds = ap (λ (m : Acted State). m.report) (issued at88sc1608 c s (write_zone a xs) heeds)

  module _ (address : a < 128) (heeds : ignores at88sc1608 c s (issue (write_configuration a xs)) ≡ false) where
    pub configuration_stored_lem : length c ≡ card_size → length xs ≤ 16 → (k : ℕ) → k < length xs
        → (let i = configuration_at + page_byte a k in
        at (act c s (issue (write_configuration a xs))).card i ≡ configuration_stored c s.volatile (page_byte a k) (at c i) (at xs k))
    configuration_stored_lem long few k h = card_at c s (write_configuration a xs) heeds _ ∙ configuration_at_lem c s.volatile a xs address long few k h

    pub configuration_freely : length c ≡ card_size → length xs ≤ 16 → at c fuse_at ≡ 7 → (k : ℕ) → k < length xs
        → at (act c s (issue (write_configuration a xs))).card (configuration_at + page_byte a k) ≡ at xs k
    configuration_freely long few f k h = configuration_stored_lem long few k h ∙ rw (f, written_at_seven (page_byte a k) s.volatile.active)

    pub configuration_others : (i : ℕ) → ((k : ℕ) → k < length xs → i ≡ configuration_at + page_byte a k → ⊥)
        → at (act c s (issue (write_configuration a xs))).card i ≡ at c i
    configuration_others i h = card_at c s (write_configuration a xs) heeds i ∙ configuration_elsewhere c s.volatile a xs address i h

  pub configuration_told : ignores at88sc1608 c s (issue (write_configuration a xs)) ≡ false
      → (act c s (issue (write_configuration a xs))).report ≡ reporting (timed s s.volatile write_time) []
  unfolding any.apply
  configuration_told heeds = ap (λ (m : Acted State). m.report) (issued at88sc1608 c s (write_configuration a xs) heeds)
