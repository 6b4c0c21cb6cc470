-- The log ("Session and log", "The zone named in the log"): how it is laid out.
use Rattle.std.specs.Prelude.{ℕ, ◌-◌, ◌≤◌, Bool, true, cond, not, ◌&&◌, ◌||◌, List, [], ◌∷◌, ◌++◌, ◌≡◌, leb, eqb, length}
use Rattle.model.specs.Sizes.{card_size, fuse_at, most_records}
use Rattle.model.specs.Lists.{at}
use Rattle.model.specs.Numbers.{bytes_of}
use Rattle.model.specs.Busy.{acts_always}
use Rattle.model.specs.Record.{known, length_fits}
use Rattle.model.specs.Single.{is_fuse_byte, staging_fits}

-- ---- the ending

-- a log's last byte, and which kinds of entries name the zone under it
pub record Ending : Type 0 where
  pub last : ℕ
  pub names : ℕ → Bool

-- kinds 4 and 5, answered or ignored
abbrev pub names_zone : ℕ → Bool
names_zone kind = eqb kind 4 || (eqb kind 5 || (eqb kind 132 || eqb kind 133))

-- that of every log
abbrev pub zoned : Ending
zoned = record { last = 0x50; names = names_zone }

-- ---- the layout

-- an entry: the kind that was answered, the zone that was selected when the record came, the response
pub record Entry : Type 0 where
  pub kind : ℕ
  pub zone : ℕ
  pub response : List ℕ

-- the kind byte of an ignored record
abbrev pub ignored_kind : ℕ → Bool
ignored_kind kind = leb 128 kind && (known (kind - 128) && not (acts_always (kind - 128)))

-- a known kind with a response of a length that it may have, or that of an ignored record with none
unfoldable pub entry_fits : ℕ → ℕ → Bool
entry_fits kind n = (known kind && length_fits kind n) || (ignored_kind kind && eqb n 0)

module _ (E : Ending) where
  -- what stands before a response: the kind, the response's length in two bytes, the zone where the kind names it
  abbrev pub zone_bytes : ℕ → ℕ → List ℕ
  zone_bytes kind zone = cond (E.names kind) (zone ∷ []) []

  abbrev pub header_bytes : ℕ → ℕ → ℕ → List ℕ
  header_bytes kind n zone = kind ∷ (bytes_of 2 n ++ zone_bytes kind zone)

  unfoldable pub header_length : ℕ → ℕ
  header_length kind = cond (E.names kind) 4 3

  abbrev pub entry_bytes : Entry → List ℕ
  entry_bytes e = header_bytes e.kind (length e.response) e.zone ++ e.response

  abbrev pub entries_bytes : List Entry → List ℕ
  entries_bytes [] = []
  entries_bytes (e ∷ es) = entry_bytes e ++ entries_bytes es

  -- the offset of the card, the count, $4C and the last byte
  abbrev pub log_trailer : ℕ → ℕ → List ℕ
  log_trailer offset count = bytes_of 4 offset ++ (bytes_of 2 count ++ (0x4C ∷ E.last ∷ []))

  -- the entries, the final card, the trailer
  abbrev pub log_bytes : List Entry → List ℕ → List ℕ
  log_bytes es card = entries_bytes es ++ (card ++ log_trailer (length (entries_bytes es)) (length es))

  -- a zone that is named is one of the eight
  unfoldable pub zone_fits : ℕ → ℕ → Bool
  zone_fits kind zone = not (E.names kind) || leb zone 7

  pub record Fits (e : Entry) : Type 0 where
    pub response_fits : entry_fits e.kind (length e.response) ≡ true
    pub zone_fits_lem : zone_fits e.kind e.zone ≡ true

  abbrev pub AllFit : List Entry → Type 0
  AllFit [] = Unit {0}
  AllFit (e ∷ es) = Fits e × AllFit es

  -- what a log with this ending is the writing of
  pub record LaidOut (es : List Entry) (card l : List ℕ) : Type 0 where
    pub few : length es ≤ most_records
    pub fit : AllFit es
    pub long : length card ≡ card_size
    pub stage : is_fuse_byte (at card fuse_at) ≡ true
    pub staging : staging_fits card ≡ true
    pub same : l ≡ log_bytes es card
