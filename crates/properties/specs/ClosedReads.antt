-- What a read answers for bytes that may not be read ("The byte shown for a closed zone"); and that with F = 7 all is free.
use Rattle.std.specs.Prelude.{ℕ, ◌+◌, ◌*◌, ◌%◌, ◌≤◌, ◌<◌, true, false, List, ◌++◌, ◌≡◌, refl, length, drop}
use Rattle.model.specs.Sizes.{fuse_at}
use Rattle.model.specs.Lists.{at, tab}
use Rattle.model.specs.Volatile.{Volatile, Active}
use Rattle.model.specs.Instruction.{read_zone, read_configuration, issue}
use Rattle.model.specs.Access.{zone_readable, zone_writable, zone_merge, configuration_allows}
use Rattle.model.specs.At88sc1608.{at88sc1608, register_at, configuration_at}
use Rattle.model.specs.Call.{whole, calling}
use Rattle.model.specs.State.{State}
use Rattle.model.specs.Busy.{ignores}
use Rattle.model.specs.Record.{decode}
use Rattle.model.specs.Single.{check, apply, act, command}
use Rattle.laws.specs.AccessLaws.{read_at_seven, written_at_seven}
use Rattle.laws.specs.ReadLaws.{zone_closed, configuration_closed}
use Rattle.properties.specs.ClosedReadsLaws.{zone_shows, zone_called, zone_free, configuration_shows, configuration_called, configuration_free}

module _ (c : List ℕ) (s : Volatile) (a n : ℕ) where
  -- a selected zone that may not be read, for want of a password or of authentication: F for every byte asked for, past $FF too
  pub closed_zone : zone_readable (at c fuse_at) (at c (register_at s.zone)) s ≡ false
      → (apply c s (read_zone a n)).report.answer ≡ tab (λ k. at c fuse_at) n
  closed_zone = zone_closed c s a n

  -- a configuration byte that may not be read, whatever the bytes beside it: $00
  pub closed_configuration : (k : ℕ) → a + n ≤ 128 → k < n → configuration_allows 0 (at c fuse_at) (a + k) s.active ≡ false
      → at (apply c s (read_configuration a n)).report.answer k ≡ 0
  closed_configuration = configuration_closed c s a n

-- ---- on a card that heeds the record

module _ (c : List ℕ) (s : State) (a n : ℕ) where
  -- a closed zone answers F for every byte
  module _ (heeds : ignores at88sc1608 c s (issue (read_zone a n)) ≡ false)
      (closed : zone_readable (at c fuse_at) (at c (register_at s.volatile.zone)) s.volatile ≡ false) where
    pub closed_zone_answer : (act c s (issue (read_zone a n))).report.answer ≡ tab (λ k. at c fuse_at) n
    closed_zone_answer = zone_shows c s a n heeds closed

    -- a single command puts so many at the front of the space and keeps its other bytes
    pub closed_zone_call : (bytes space : List ℕ) → check c s ≡ 0 → decode bytes ≡ whole (issue (read_zone a n)) (length bytes) → n ≤ length space
        → (command c s (calling bytes space)).reply.space ≡ tab (λ k. at c fuse_at) n ++ drop n space
    closed_zone_call bytes space checked decoded room = zone_called c s a n heeds bytes space checked decoded room closed

  -- a closed configuration byte answers $00
  module _ (inside : a + n ≤ 128) (heeds : ignores at88sc1608 c s (issue (read_configuration a n)) ≡ false) where
    pub closed_configuration_answer : (k : ℕ) → k < n → configuration_allows 0 (at c fuse_at) (a + k) s.volatile.active ≡ false
        → at (act c s (issue (read_configuration a n))).report.answer k ≡ 0
    closed_configuration_answer = configuration_shows c s a n inside heeds

    pub closed_configuration_call : (bytes space : List ℕ) → check c s ≡ 0 → decode bytes ≡ whole (issue (read_configuration a n)) (length bytes)
        → n ≤ length space → (k : ℕ) → k < n → configuration_allows 0 (at c fuse_at) (a + k) s.volatile.active ≡ false
        → at (command c s (calling bytes space)).reply.space k ≡ 0
    closed_configuration_call = configuration_called c s a n inside heeds

-- ---- F = 7

-- no zone is closed at F = 7, so a closed one shows $06, $04 or $00
pub open_at_seven : (r : ℕ) (s : Volatile) → zone_readable 7 r s ≡ true
open_at_seven r s = refl

-- every zone may be written, and what is written is stored as it comes, whatever its register
pub writable_at_seven : (r : ℕ) (s : Volatile) → zone_writable 7 r s ≡ true
writable_at_seven r s = refl

pub unmerged_at_seven : (r old new : ℕ) → zone_merge 7 r old new ≡ new
unmerged_at_seven r old new = refl

-- every configuration byte may be read and written
pub configuration_readable_at_seven : (a : ℕ) (x : Active) → configuration_allows 0 7 a x ≡ true
configuration_readable_at_seven = read_at_seven

pub configuration_writable_at_seven : (a : ℕ) (x : Active) → configuration_allows 1 7 a x ≡ true
configuration_writable_at_seven = written_at_seven

-- so a read answers the bytes of the card; what a write stores is in `StoredBytes`
module _ (c : List ℕ) (s : State) (a n : ℕ) (free : at c fuse_at ≡ 7) where
  pub zone_answer_at_seven : ignores at88sc1608 c s (issue (read_zone a n)) ≡ false → s.volatile.zone < 8
      → (act c s (issue (read_zone a n))).report.answer ≡ tab (λ k. at c (s.volatile.zone * 256 + (a + k) % 256)) n
  zone_answer_at_seven heeds zone = zone_free c s a n heeds zone free

  pub configuration_answer_at_seven : ignores at88sc1608 c s (issue (read_configuration a n)) ≡ false → a + n ≤ 128
      → (act c s (issue (read_configuration a n))).report.answer ≡ tab (λ k. at c (configuration_at + (a + k))) n
  configuration_answer_at_seven heeds inside = configuration_free c s a n inside heeds free
