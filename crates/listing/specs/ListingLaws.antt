-- The listing of a log that was written is its entries' lines, and no listing is longer than three times its log.
use Rattle.std.specs.Prelude.{ℕ, suc, ◌+◌, ◌*◌, ◌≤◌, ◌<◌, List, [], ◌∷◌, ◌++◌, ◌≡◌, refl, length}
use Rattle.std.proofs.Common.{ap, ◌∙◌, arith, length-append}
use Rattle.model.specs.Sizes.{fuse_at}
use Rattle.model.specs.Lists.{at, tab}
use Rattle.model.specs.Bits.{tries_left}
use Rattle.model.specs.Device.{tries_of}
use Rattle.model.specs.At88sc1608.{at88sc1608, counter_at, attempts_at}
use Rattle.model.specs.Log.{zoned, Entry, entry_bytes, entries_bytes, log_trailer, AllFit, LaidOut}
use Rattle.properties.specs.TriesLeft.{at_most_eight}
use Rattle.laws.specs.EntryLaws.{header_least}
use Rattle.properties.specs.Written.{length_entry, kind_at, response_at_lem, next_at, fits_two, first_entry, other_entries, count_is, log_length_lem, written_card}
use Rattle.text.specs.Text.{decimal, decimals, line, lines, tries_line, fuses_line}
use Rattle.text.specs.TextLaws.{line_length, decimal_one, decimals_last, decimals_tab}
use Rattle.listing.specs.Listing.{card_lines, lines_at, log_lines}

entries_listed : (es : List Entry) (p q : List ℕ) (k : ℕ) → AllFit zoned es → lines_at (length es) k (p ++ (entries_bytes zoned es ++ q)) (length p) ≡ lines k es
entries_listed [] p q k f = refl
entries_listed (e ∷ es) p q k f =
    let h : length e.response < 65536 = fits_two e f.0.response_fits in
    let rest = entries_listed es (p ++ entry_bytes zoned e) q (suc k) f.1 in
    rw (
      first_entry zoned p e es q,
      response_at_lem zoned p e (entries_bytes zoned es ++ q) h,
      next_at zoned p e (entries_bytes zoned es ++ q) h,
      kind_at zoned p e (entries_bytes zoned es ++ q),
    )
    (ap (λ (x : List ℕ). line k e.kind e.response ++ x) (rw (other_entries zoned p e es q) at rest))

module _ (es : List Entry) (card l : List ℕ) (w : LaidOut zoned es card l) where
  pub log_listed : log_lines l ≡ lines 0 es ++ card_lines card
  log_listed =
      rw (count_is zoned es card l w, written_card zoned es card l w, w.same)
      (ap (λ (x : List ℕ). x ++ card_lines card) (entries_listed es [] (card ++ log_trailer zoned (length (entries_bytes zoned es)) (length es)) 0 w.fit))

-- a card has two lines: seventeen numbers of a digit, and F
pub tries_line_lem : (c : List ℕ) → length (tries_line (tries_of at88sc1608 c)) ≡ 40
unfolding tries_of
tries_line_lem c =
    let a = ap length (decimals_last (tab f 16) last) ∙ length-append (decimals (tab f 16)) (0x20 ∷ decimal last) in
    let b = length-append (decimals (tries_of at88sc1608 c)) (0x0A ∷ []) in
    let d = ap length (decimal_one last (small (at c attempts_at))) in
    let t = decimals_tab f (λ k. small (at c (counter_at k))) 16 in
    omega arith
  where
    f : ℕ → ℕ
    f k = tries_left (at c (counter_at k))

    last : ℕ
    last = tries_left (at c attempts_at)

    small : (x : ℕ) → tries_left x < 10
    small x = let m = at_most_eight x in omega arith

pub card_lines_lem : (c : List ℕ) → length (card_lines c) ≡ 49
unfolding card_lines
card_lines_lem c = let a = length-append (tries_line (tries_of at88sc1608 c)) (fuses_line (at c fuse_at)) in let t = tries_line_lem c in omega arith

lines_length : (es : List Entry) (k : ℕ) → k + length es ≤ 10000 → length (lines k es) ≤ 3 * length (entries_bytes zoned es)
lines_length [] k h = omega arith
lines_length (e ∷ es) k h =
    let r = lines_length es (suc k) (omega arith) in
    let a = length-append (entry_bytes zoned e) (entries_bytes zoned es) in
    let b = length_entry zoned e in
    let m = header_least zoned e.kind in
    let c = line_length k e.kind e.response (omega arith) in
    let d = length-append (line k e.kind e.response) (lines (suc k) es) in
    omega arith

-- so a text space of three times the log space has room for every listing
pub listing_length : (es : List Entry) (card l : List ℕ) → LaidOut zoned es card l → length (log_lines l) ≤ 3 * length l
listing_length es card l w =
    let a = lines_length es 0 (let f = w.few in omega arith) in
    let b = log_length_lem zoned es card l w in
    let c = ap length (log_listed es card l w) ∙ length-append (lines 0 es) (card_lines card) in
    let d = card_lines_lem card in
    omega arith
