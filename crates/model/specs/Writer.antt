-- The session writer ("A session writer"): a session made from a card, a title, records laid end to end and their count.
use Rattle.std.specs.Prelude.{ℕ, zero, suc, ◌+◌, cond, not, List, [], ◌∷◌, ◌++◌, ltb, eqb, length, drop}
use Rattle.model.specs.Sizes.{card_size, fuse_at, greatest_session, most_records, most_title}
use Rattle.model.specs.Lists.{at}
use Rattle.model.specs.Numbers.{bytes_of}
use Rattle.model.specs.Record.{decode}
use Rattle.model.specs.Refusal.{session_length, too_many_records, fuse_byte, staging_bytes, bytes_left, card_length, title_length}
use Rattle.model.specs.Session.{on_decoded, Ran, rejected, written}
use Rattle.model.specs.Single.{is_fuse_byte, staging_fits}

-- what a session is made from
pub record Parts : Type 0 where
  pub card : List ℕ
  pub title : List ℕ
  pub records : List ℕ
  pub count : ℕ

abbrev pub parts : List ℕ → List ℕ → List ℕ → ℕ → Parts
parts card title records count = record { card = card; title = title; records = records; count = count }

-- ---- the session

-- the start of the records, their count, $53 $45
abbrev pub trailer_bytes : ℕ → ℕ → List ℕ
trailer_bytes start count = bytes_of 4 start ++ (bytes_of 2 count ++ (0x53 ∷ 0x45 ∷ []))

-- the title is the text between the card and the records
abbrev pub session_bytes : Parts → List ℕ
session_bytes p = p.card ++ (p.title ++ (p.records ++ trailer_bytes (length p.card + length p.title) p.count))

-- ---- the checks

-- n records at the front of a part, each behind the one before it, and nothing behind the last: the first refusal's number, or 0
abbrev pub records_refusal : ℕ → List ℕ → ℕ
records_refusal zero part = cond (eqb (length part) 0) 0 bytes_left
records_refusal (suc n) part = on_decoded (decode part) (λ r. r) (λ k m. records_refusal n (drop m part))

-- 11, 1, 4, 5, 16, 15, the records in turn, 9; 0 where none of them applies
unfoldable pub parts_refusal : Parts → ℕ
parts_refusal p =
    cond (not (eqb (length p.card) card_size)) card_length
    (cond (ltb greatest_session (length (session_bytes p))) session_length
    (cond (ltb most_records p.count) too_many_records
    (cond (not (is_fuse_byte (at p.card fuse_at))) fuse_byte
    (cond (not (staging_fits p.card)) staging_bytes
    (cond (ltb most_title (length p.title)) title_length (records_refusal p.count p.records))))))

-- ---- the call: its refusal or 0, the session's length, the whole lent space

-- 10, or the session at the front of the space, where the checks found nothing
abbrev pub placed : Parts → List ℕ → ℕ → Ran
placed p space zero = written (length (session_bytes p)) (session_bytes p) space
placed p space (suc n) = rejected (suc n) space

unfoldable pub write_session : Parts → List ℕ → Ran
write_session p space = placed p space (parts_refusal p)
