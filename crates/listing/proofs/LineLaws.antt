-- Lines put piece by piece, and the lines of a log entry by entry.
use Prim.Native.Nat.{ℕ, suc, ◌+◌, ◌-◌, ◌*◌, ◌≤◌, ◌<◌, ◌^◌}
use mathlib.Core.Bool.{true}
use mathlib.Core.List.{List, [], ◌∷◌, ◌++◌, append_assoc, append-nil}
use mathlib.Core.Path.{◌≡◌, sym, ap, ◌∙◌}
use native.Mathlib.Omega.{arith}
use lib.ListN.{length, take, drop, length-append, length-drop}
use lib.Seq.{length-take-le}
use Rattle.model.specs.Sizes.{card_size, fuse_at}
use Rattle.model.specs.Device.{tries_of}
use Rattle.model.specs.At88sc1608.{at88sc1608}
use Rattle.model.specs.Lists.{at}
use Rattle.laws.specs.BoolLaws.{and_left, and_right}
use Rattle.model.specs.Log.{zoned, header_length}
use Rattle.model.specs.LogCheck.{count_of, offset_of, length_at, response_at, entry_ok, entries_ok, trailer_ok, valid_as}
use Rattle.properties.specs.LogLaws.{entered, Trailed, trailed}
use Rattle.text.specs.declared.Page.{Page}
use Rattle.text.specs.Put.{Puts}
use Rattle.listing.specs.Ready.{EntriesReady, LogReady}
use Rattle.text.specs.Text.{hex, hexes, decimal, decimals, line, tries_line, fuses_line}
use Rattle.text.specs.TextLaws.{hexes_length}
use Rattle.listing.specs.Listing.{lines_at, card_lines, log_lines}
use Rattle.listing.specs.ListingLaws.{tries_line_lem, card_lines_lem}
use Rattle.text.proofs.PutLaws.{puts_none, puts_then}

-- ---- one line

module _ (number kind : ℕ) (response : List ℕ) where
  pub line_is : length (line number kind response) ≡ length (decimal number) + 3 + 3 * length response + 1
  line_is =
      let x = hexes_length (kind ∷ response) in
      let a = length-append (decimal number) (hexes (kind ∷ response) ++ (0x0A ∷ [])) in
      let b = length-append (hexes (kind ∷ response)) (0x0A ∷ []) in
      omega arith

  pub line_put : {p p₁ p₂ p₃ p₄ : Page} → Puts p (decimal number) p₁ → Puts p₁ (hex kind) p₂ → Puts p₂ (hexes response) p₃ → Puts p₃ (0x0A ∷ []) p₄
      → Puts p (line number kind response) p₄
  line_put a b c d = puts_then a (puts_then (puts_then b c) d)

-- a word, a text and the end of the line
pub word_put : {word text : List ℕ} {p p₁ p₂ p₃ : Page} → Puts p word p₁ → Puts p₁ text p₂ → Puts p₂ (0x0A ∷ []) p₃
    → Puts p (word ++ (text ++ (0x0A ∷ []))) p₃
word_put a b c = puts_then a (puts_then b c)

-- ---- the lines of a card

module _ (c : List ℕ) where
  -- from the numbers that were counted
  pub numbers_length : (ns : List ℕ) → ns ≡ tries_of at88sc1608 c → length (decimals ns) ≡ 34
  numbers_length ns counted =
      let d = tries_line_lem c in
      let e = length-append (decimals (tries_of at88sc1608 c)) (0x0A ∷ []) in
      ap (λ (x : List ℕ). length (decimals x)) counted ∙ (omega arith)

  pub fuses_room : {p p₁ : Page} → Puts p (tries_line (tries_of at88sc1608 c)) p₁ → p.at + 100 < 2 ^ 64 → p₁.at + 9 < 2 ^ 64
  fuses_room a h = omega (arith, a.put.past, tries_line_lem c)

  pub card_put : {p p₁ p₂ : Page} → Puts p (tries_line (tries_of at88sc1608 c)) p₁ → Puts p₁ (fuses_line (at c fuse_at)) p₂ → Puts p (card_lines c) p₂
  unfolding card_lines
  card_put a b = puts_then a b

-- ---- the entries of a log

-- the first i lines are put, and the rest make up the whole
pub record Lining (page : Page) (l : List ℕ) (count end i place : ℕ) (page' : Page) : Type 0 where
  pub few : i ≤ count
  pub well : entries_ok zoned (count - i) l place end ≡ true
  pub within : end ≤ length l
  pub done : List ℕ
  pub front : Puts page done page'
  pub whole : done ++ lines_at (count - i) i l place ≡ lines_at count 0 l 0
  pub small : length (lines_at count 0 l 0) < 2 ^ 64
  pub from_front : page.at ≡ 0

pub lining_start : (page : Page) (l : List ℕ) (count end : ℕ) → EntriesReady l count end → page.at ≡ 0 → Lining page l count end 0 0 page
lining_start page l count end r e =
    let z : count - 0 ≡ count = omega arith in
    record {
      few = omega arith;
      well = rw z r.well;
      within = r.within;
      done = [];
      front = puts_none page;
      whole = ap (λ (n : ℕ). lines_at n 0 l 0) z;
      small = r.small;
      from_front = e;
    }

module _ {page : Page} {l : List ℕ} {count end i place : ℕ} {page' : Page} (g : Lining page l count end i place page') (more : i < count) where
  one_fewer : count - i ≡ suc (count - (i + 1))
  one_fewer = omega arith

  here : entry_ok zoned l place end ≡ true
  here = and_left (entry_ok zoned l place end) _ (sym (ap (λ (n : ℕ). entries_ok zoned n l place end) one_fewer) ∙ g.well)

  pub header_within : place + 3 ≤ length l
  header_within = let e = (entered zoned l place end here).header in let w = g.within in omega arith

  pub response_begins : {h : ℕ} → h ≡ header_length zoned (at l place) → place + h ≤ length l
  response_begins header = let e = (entered zoned l place end here).next in let w = g.within in let d = header in omega arith

  module _ {h n : ℕ} (header : h ≡ header_length zoned (at l place)) (long : n ≡ length_at l place) where
    pub entry_ends : place + h + n ≤ length l
    entry_ends = let e = (entered zoned l place end here).next in let w = g.within in let o = long in let d = header in omega arith

    -- the part of the log that is its response
    abbrev part : List ℕ
    part = take (place + h + n - (place + h)) (drop (place + h) l)

    -- its line is the next of the log's
    same_line : line i (at l place) part ≡ line i (at l place) (take (length_at l place) (drop (response_at zoned l place) l))
    same_line =
        let e : place + h + n - (place + h) ≡ length_at l place = let o = long in omega arith in
        λ j. line i (at l place) (take (e j) (drop (place + header j) l))

    next_lines : lines_at (count - i) i l place ≡ line i (at l place) part ++ lines_at (count - (i + 1)) (i + 1) l (place + h + n)
    next_lines =
        let z : suc i ≡ i + 1 = omega arith in
        ap (λ (m : ℕ). lines_at m i l place) one_fewer
        ∙ rw (same_line, z, long, header)

    pub line_fits : page'.at + length (line i (at l place) part) < 2 ^ 64
    line_fits =
        let a = g.front.put.past in
        let b = length-append g.done (lines_at (count - i) i l place) in
        let c = ap length g.whole in
        let d = ap length next_lines ∙ length-append (line i (at l place) part) (lines_at (count - (i + 1)) (i + 1) l (place + h + n)) in
        let s = g.small in
        let z = g.from_front in
        omega arith

    pub lining_next : {page'' : Page} → Puts page' (line i (at l place) part) page'' → Lining page l count end (i + 1) (place + h + n) page''
    lining_next q =
        record {
          few = omega arith;
          well = rw (long, header) (and_right (entry_ok zoned l place end) _ (sym (ap (λ (m : ℕ). entries_ok zoned m l place end) one_fewer) ∙ g.well));
          within = g.within;
          done = g.done ++ line i (at l place) part;
          front = puts_then g.front q;
          whole = append_assoc g.done (line i (at l place) part) _ ∙ ap (λ (x : List ℕ). g.done ++ x) (sym next_lines) ∙ g.whole;
          small = g.small;
          from_front = g.from_front;
        }

pub lining_done : (page : Page) (l : List ℕ) (count end i place : ℕ) (page' : Page) → Lining page l count end i place page' → count ≤ i
    → Puts page (lines_at count 0 l 0) page'
lining_done page l count end i place page' g h =
    let z : count - i ≡ 0 = omega arith in
    let e : lines_at count 0 l 0 ≡ g.done = sym g.whole ∙ ap (λ (n : ℕ). g.done ++ lines_at n i l place) z ∙ append-nil g.done in
    rw e g.front

-- ---- a log

module _ (l : List ℕ) (r : LogReady l) where
  pub log_trailed : Trailed zoned l
  unfolding valid_as
  log_trailed = trailed zoned l (and_left (trailer_ok zoned l) _ r.well)

  log_long : length (log_lines l) ≡ length (lines_at (count_of l) 0 l 0) + 49
  log_long =
      let c : List ℕ = take card_size (drop (offset_of l) l) in
      let a = length-append (lines_at (count_of l) 0 l 0) (card_lines c) in
      let b = card_lines_lem c in
      omega arith

  module _ (count start : ℕ) (counted : count ≡ count_of l) (points : start ≡ offset_of l) where
    pub entries_ready : EntriesReady l count start
    unfolding valid_as
    entries_ready =
        record {
          well = rw (counted, points) (and_right (trailer_ok zoned l) _ r.well);
          within = let m = log_trailed.meets in let p = points in omega arith;
          small = rw counted (let s = r.small in let a = log_long in omega arith);
        }

    -- the lines of the card have room behind those of the entries
    pub entries_room : {p p₁ : Page} → p.at ≡ 0 → Puts p (lines_at count 0 l 0) p₁ → p₁.at + 100 < 2 ^ 64
    entries_room z p =
        let a = p.put.past in
        let b = log_long in
        let c = ap (λ (n : ℕ). length (lines_at n 0 l 0)) counted in
        let s = r.small in
        omega arith

    -- the card as a part of the log
    pub card_within : start + card_size ≤ length l
    card_within = let m = log_trailed.meets in let p = points in omega arith

    part_size : start + card_size - start ≡ card_size
    part_size = omega arith

    pub card_long : length (take (start + card_size - start) (drop start l)) ≡ card_size
    card_long =
        let a = length-drop start l in
        let b = card_within in
        ap (λ (n : ℕ). length (take n (drop start l))) part_size ∙ length-take-le card_size (drop start l) (omega arith)

    pub log_put : {p p₁ p₂ : Page} → Puts p (lines_at count 0 l 0) p₁ → Puts p₁ (card_lines (take (start + card_size - start) (drop start l))) p₂
        → Puts p (log_lines l) p₂
    log_put p q = rw (← counted, ← points, ← part_size) (puts_then p q)
