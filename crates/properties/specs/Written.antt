-- A log that was written is accepted, and every answer that was written is given back.
use Rattle.std.specs.Prelude.{ℕ, zero, suc, ◌+◌, ◌-◌, ◌*◌, ◌≤◌, ◌<◌, Bool, not, ◌&&◌, ◌||◌, List, [], ◌∷◌, ◌++◌, ◌≡◌, eqb, drop}
use Rattle.std.proofs.Math.Bool.{true, false, cond}
use Rattle.std.proofs.Common.{append_assoc, sym, ap, ◌∙◌, add-zero, le_of_suc-le-suc, arith, length-append, get_or-append-add, take_at, get_or-drop}
use Rattle.std.proofs.Math.Path.{refl}
use borrow.Author.Tests.{eq-eqb, lt-ltb, le-ltb, eqb-true, leb-true}
use Rattle.std.proofs.Math.Dec.{leb}
use Rattle.std.proofs.Math.ListN.{length, take, get_or-append}
use Rattle.std.proofs.Math.Seq.{get_or-append_seam, drop-append-add, drop-append_seam, take-append_seam}
use Rattle.model.specs.Sizes.{card_size, fuse_at, trailer_size, least_log}
use Rattle.model.specs.Lists.{at}
use Rattle.laws.specs.BoolLaws.{and_right}
use Rattle.model.specs.Numbers.{bytes_of, number_at}
use Rattle.laws.specs.KindLaws.{each_row}
use Rattle.laws.specs.NumberLaws.{number_append, number_bytes}
use Rattle.model.specs.At88sc1608.{at88sc1608}
use Rattle.laws.specs.StagingLaws.{staging_same}
use Rattle.model.specs.Log.{Ending, zoned, Entry, zone_bytes, header_bytes, header_length, entry_bytes, entries_bytes, log_trailer, ignored_kind, entry_fits}
use Rattle.model.specs.Log.{zone_fits, AllFit, Fits, LaidOut}
use Rattle.model.specs.LogCheck.{count_of, offset_of, length_at, response_at, next_entry, entry_ok, entries_ok, valid_as, valid, entry_place, place_of, find, missing}
use Rattle.model.specs.LogCheck.{located, answer_in}
use Rattle.model.specs.Record.{Kind, kinds, known, length_fits}
use Rattle.model.specs.Refusal.{no_such_answer}
use Rattle.laws.specs.EntryLaws.{header_least, header_most}
use Rattle.properties.specs.AcceptedSession.{entry_of}
use Rattle.properties.specs.LogLaws.{entry_well, Trailed, trailer_well}

-- ---- lengths

-- no response is longer than 256 bytes
pub fits_small : (kind n : ℕ) → length_fits kind n ≡ true → n ≤ 256
unfolding kinds length_fits
fits_small kind n =
    each_row (λ (r : Kind). r.answers n ≡ true → n ≤ 256)
    (small 0 (omega arith)) (small 4 (omega arith)) (small 0 (omega arith)) (below 256 (omega arith)) (small 0 (omega arith)) (below 128 (omega arith))
    (small 0 (omega arith)) (small 1 (omega arith)) (small 0 (omega arith)) (small 0 (omega arith)) (small 0 (omega arith)) (small 0 (omega arith))
    (small 0 (omega arith)) (small 1 (omega arith)) (small 0 (omega arith)) (small 0 (omega arith))
    kind
  where
    small : (m : ℕ) → m ≤ 256 → eqb n m ≡ true → n ≤ 256
    small m h e = let q = eqb-true n m e in omega arith

    below : (m : ℕ) → m ≤ 256 → (leb 1 n && leb n m) ≡ true → n ≤ 256
    below m h e = let q = leb-true n m (and_right (leb 1 n) _ e) in omega arith

pub entry_small : (kind n : ℕ) → entry_fits kind n ≡ true → n ≤ 256
unfolding entry_fits
entry_small kind n = go (known kind && length_fits kind n) refl
  where
    go : (t : Bool) → (known kind && length_fits kind n) ≡ t → (t || (ignored_kind kind && eqb n 0)) ≡ true → n ≤ 256
    go true q e = fits_small kind n (and_right (known kind) _ q)
    go false q e = let z = eqb-true n 0 (and_right (ignored_kind kind) _ e) in omega arith

pub fits_two : (e : Entry) → entry_fits e.kind (length e.response) ≡ true → length e.response < 65536
fits_two e f = let c = entry_small e.kind (length e.response) f in omega arith

module _ (E : Ending) where
  pub length_header : (kind n zone : ℕ) → length (header_bytes E kind n zone) ≡ header_length E kind
  unfolding header_length
  length_header kind n zone = go (E.names kind)
    where
      go : (t : Bool) → length (kind ∷ (bytes_of 2 n ++ cond t (zone ∷ []) [])) ≡ cond t 4 3
      go true = refl
      go false = refl

  pub length_entry : (e : Entry) → length (entry_bytes E e) ≡ header_length E e.kind + length e.response
  length_entry e =
      length-append (header_bytes E e.kind (length e.response) e.zone) e.response
      ∙ ap (λ (n : ℕ). n + length e.response) (length_header e.kind (length e.response) e.zone)

  pub entry_most : (e : Entry) → Fits E e → length (entry_bytes E e) ≤ 260
  entry_most e f =
      let b = length_entry e in
      let c = entry_small e.kind (length e.response) f.response_fits in
      let h = header_most E e.kind in
      omega arith

  pub entries_small : (es : List Entry) → AllFit E es → length (entries_bytes E es) ≤ 260 * length es
  entries_small [] f = omega arith
  entries_small (e ∷ es) f =
      let a = length-append (entry_bytes E e) (entries_bytes E es) in
      let b = entry_most e f.0 in
      let d = entries_small es f.1 in
      omega arith

  -- ---- an entry behind a prefix

  module _ (p : List ℕ) (e : Entry) (q : List ℕ) where
    abbrev whole : List ℕ
    whole = p ++ (entry_bytes E e ++ q)

    abbrev header : List ℕ
    header = header_bytes E e.kind (length e.response) e.zone

    pub kind_at : at whole (length p) ≡ e.kind
    kind_at = get_or-append_seam p e.kind (((bytes_of 2 (length e.response) ++ zone_bytes E e.kind e.zone) ++ e.response) ++ q) 0

    pub length_at_lem : length e.response < 65536 → length_at whole (length p) ≡ length e.response
    length_at_lem h =
        number_append p (entry_bytes E e ++ q) 1 2
        ∙ number_bytes 2 (length e.response) ((zone_bytes E e.kind e.zone ++ e.response) ++ q) h

    pub zone_at : E.names e.kind ≡ true → at whole (length p + 3) ≡ e.zone
    zone_at n = get_or-append-add p (entry_bytes E e ++ q) 3 0 ∙ rw n

    pub response_is : response_at E whole (length p) ≡ length p + length header
    response_is =
        ap (λ (k : ℕ). length p + header_length E k) kind_at
        ∙ ap (λ (n : ℕ). length p + n) (sym (length_header e.kind (length e.response) e.zone))

    pub next_at : length e.response < 65536 → next_entry E whole (length p) ≡ length (p ++ entry_bytes E e)
    next_at h =
        let a = length-append p (entry_bytes E e) in
        let b = length-append header e.response in
        (λ i. response_is i + length_at_lem h i) ∙ (omega arith)

    pub response_at_lem : length e.response < 65536 → take (length_at whole (length p)) (drop (response_at E whole (length p)) whole) ≡ e.response
    response_at_lem h =
        rw (length_at_lem h, response_is, drop-append-add p (entry_bytes E e ++ q) (length header), append_assoc header e.response q)
        (ap (take (length e.response)) (drop-append_seam header (e.response ++ q)) ∙ take-append_seam e.response q)

  -- ---- all entries

  -- the first entry, and the others behind it
  pub first_entry : (p : List ℕ) (e : Entry) (es : List Entry) (q : List ℕ)
      → p ++ (entries_bytes E (e ∷ es) ++ q) ≡ whole p e (entries_bytes E es ++ q)
  first_entry p e es q = ap (λ (l : List ℕ). p ++ l) (append_assoc (entry_bytes E e) (entries_bytes E es) q)

  pub other_entries : (p : List ℕ) (e : Entry) (es : List Entry) (q : List ℕ)
      → (p ++ entry_bytes E e) ++ (entries_bytes E es ++ q) ≡ whole p e (entries_bytes E es ++ q)
  other_entries p e es q = append_assoc p (entry_bytes E e) (entries_bytes E es ++ q)

  zone_here : (p : List ℕ) (e : Entry) (q : List ℕ) → Fits E e → zone_fits E (at (whole p e q) (length p)) (at (whole p e q) (length p + 3)) ≡ true
  unfolding zone_fits
  zone_here p e q f = rw (kind_at p e q) (go (E.names e.kind) refl f.zone_fits_lem)
    where
      go : (t : Bool) → E.names e.kind ≡ t → (not t || leb e.zone 7) ≡ true → (not t || leb (at (whole p e q) (length p + 3)) 7) ≡ true
      go true n g = rw (zone_at p e q n) g
      go false n g = refl

  pub entries_well : (es : List Entry) (p q : List ℕ) (end : ℕ) → AllFit E es → length p + length (entries_bytes E es) ≡ end
      → entries_ok E (length es) (p ++ (entries_bytes E es ++ q)) (length p) end ≡ true
  entries_well [] p q end f t = let z : length p ≡ end = sym (add-zero (length p)) ∙ t in eq-eqb (length p) end z
  entries_well (e ∷ es) p q end f t =
      let l : List ℕ = whole p e (entries_bytes E es ++ q) in
      let h : length e.response < 65536 = fits_two e f.0.response_fits in
      let a = length-append p (entry_bytes E e) in
      let b = length-append (entry_bytes E e) (entries_bytes E es) in
      let d = length_entry e in
      let g = header_least E e.kind in
      let n : next_entry E l (length p) ≡ length (p ++ entry_bytes E e) = next_at p e (entries_bytes E es ++ q) h in
      let here : entry_ok E l (length p) end ≡ true =
      entry_well E l (length p) end
      (record {
        header = omega arith;
        fits = rw (kind_at p e (entries_bytes E es ++ q), length_at_lem p e (entries_bytes E es ++ q) h) f.0.response_fits;
        zone = zone_here p e (entries_bytes E es ++ q) f.0;
        next = omega arith;
      }) in
      let rest : entries_ok E (length es) l (next_entry E l (length p)) end ≡ true =
      rw n (rw (other_entries p e es q) at (entries_well es (p ++ entry_bytes E e) q end f.1 (omega arith))) in
      rw (first_entry p e es q, here) rest

  -- what holds of every entry behind a prefix, at its place, holds of entry k
  pub each_entry : (P : Entry → List ℕ → ℕ → Type 0) → ((p : List ℕ) (e : Entry) (q : List ℕ) → Fits E e → P e (whole p e q) (length p))
      → (es : List Entry) (p q : List ℕ) → AllFit E es → (k : ℕ) → k < length es
      → P (entry_of es k) (p ++ (entries_bytes E es ++ q)) (entry_place E k (p ++ (entries_bytes E es ++ q)) (length p))
  each_entry P here [] p q f k h = absurd (let z : ⊥ = omega arith in z)
  each_entry P here (e ∷ es) p q f zero h = rw (first_entry p e es q) (here p e (entries_bytes E es ++ q) f.0)
  each_entry P here (e ∷ es) p q f (suc k) h =
      rw (first_entry p e es q, next_at p e (entries_bytes E es ++ q) (fits_two e f.0.response_fits))
      (rw (other_entries p e es q) at (each_entry P here es (p ++ entry_bytes E e) q f.1 k (le_of_suc-le-suc h)))

  -- entry k lies behind the k entries before it
  entry_place_lem : (es : List Entry) (p q : List ℕ) → AllFit E es → (k : ℕ) → k < length es
      → entry_place E k (p ++ (entries_bytes E es ++ q)) (length p) ≡ length p + length (entries_bytes E (take k es))
  entry_place_lem [] p q f k h = absurd (let z : ⊥ = omega arith in z)
  entry_place_lem (e ∷ es) p q f zero h = omega arith
  entry_place_lem (e ∷ es) p q f (suc k) h =
      let a = length-append p (entry_bytes E e) in
      let b = length-append (entry_bytes E e) (entries_bytes E (take k es)) in
      rw (first_entry p e es q, next_at p e (entries_bytes E es ++ q) (fits_two e f.0.response_fits))
      (rw (other_entries p e es q) at (entry_place_lem es (p ++ entry_bytes E e) q f.1 k (le_of_suc-le-suc h)) ∙ (omega arith))

  -- ---- the trailer, and the whole log

  module _ (es : List Entry) (card l : List ℕ) (w : LaidOut E es card l) where
    abbrev front : List ℕ
    front = entries_bytes E es ++ card

    abbrev offset : ℕ
    offset = length (entries_bytes E es)

    front_length : length front ≡ offset + card_size
    front_length = length-append (entries_bytes E es) card ∙ ap (λ (n : ℕ). offset + n) w.long

    behind : l ≡ front ++ log_trailer E offset (length es)
    behind = w.same ∙ sym (append_assoc (entries_bytes E es) card (log_trailer E offset (length es)))

    pub log_length_lem : length l ≡ offset + least_log
    log_length_lem =
        let a = length-append front (log_trailer E offset (length es)) in
        let b = front_length in
        ap length behind ∙ (omega arith)

    -- a number, and a byte, of the trailer
    trailer_number : (i width : ℕ) → number_at l (offset + card_size + i) width ≡ number_at (log_trailer E offset (length es)) i width
    trailer_number i width =
        rw (behind, ← front_length) (number_append front (log_trailer E offset (length es)) i width)

    trailer_byte : (i : ℕ) → at l (offset + card_size + i) ≡ at (log_trailer E offset (length es)) i
    trailer_byte i = rw (behind, ← front_length) (get_or-append-add front (log_trailer E offset (length es)) i 0)

    pub offset_is : offset_of l ≡ offset
    offset_is =
        let a = log_length_lem in
        let b = entries_small es w.fit in
        let c = w.few in
        let e : length l - trailer_size ≡ offset + card_size + 0 = omega arith in
        ap (λ (i : ℕ). number_at l i 4) e ∙ trailer_number 0 4 ∙ number_bytes 4 offset (bytes_of 2 (length es) ++ (0x4C ∷ E.last ∷ [])) (omega arith)

    pub count_is : count_of l ≡ length es
    count_is =
        let a = log_length_lem in
        let c = w.few in
        let e : length l - 4 ≡ offset + card_size + 4 = omega arith in
        ap (λ (i : ℕ). number_at l i 2) e ∙ trailer_number 4 2 ∙ number_bytes 2 (length es) (0x4C ∷ E.last ∷ []) (omega arith)

    card_is : (j : ℕ) → j < card_size → at l (offset + j) ≡ at card j
    card_is j h =
        ap (λ (x : List ℕ). at x (offset + j)) w.same
        ∙ get_or-append-add (entries_bytes E es) (card ++ log_trailer E offset (length es)) j 0
        ∙ get_or-append card (log_trailer E offset (length es)) 0 j (let n = w.long in omega arith)

    pub trailer_is : Trailed E l
    trailer_is =
        let a = log_length_lem in
        let e₂ : length l - 2 ≡ offset + card_size + 6 = omega arith in
        let e₁ : length l - 1 ≡ offset + card_size + 7 = omega arith in
        record {
          long = omega arith;
          first = ap (at l) e₂ ∙ trailer_byte 6;
          second = ap (at l) e₁ ∙ trailer_byte 7;
          few = rw count_is w.few;
          meets = rw offset_is (sym a);
          stage = rw (offset_is, card_is fuse_at (omega arith)) w.stage;
          staging = staging_same at88sc1608 card (drop (offset_of l) l)
              (λ j p q. get_or-drop (offset_of l) l j 0 ∙ ap (λ (o : ℕ). at l (o + j)) offset_is ∙ card_is j (omega arith)) ∙ w.staging;
        }

    entries_are : entries_ok E (length es) l 0 offset ≡ true
    entries_are = rw w.same (entries_well es [] (card ++ log_trailer E offset (length es)) offset w.fit (omega arith))

    -- the log is accepted under its ending
    pub written_well : valid_as E l ≡ true
    unfolding valid_as
    written_well = rw (trailer_well E l trailer_is, count_is, offset_is) entries_are

    -- what holds of every entry at its place holds of entry k of the log
    pub written_each : (P : Entry → List ℕ → ℕ → Type 0) → ((p : List ℕ) (e : Entry) (q : List ℕ) → Fits E e → P e (whole p e q) (length p))
        → (k : ℕ) → k < length es → P (entry_of es k) l (entry_place E k l 0)
    written_each P here k h = rw w.same (each_entry P here es [] (card ++ log_trailer E offset (length es)) w.fit k h)

    pub written_place : (k : ℕ) → k < length es → entry_place E k l 0 ≡ length (entries_bytes E (take k es))
    written_place k h =
        rw w.same (entry_place_lem es [] (card ++ log_trailer E offset (length es)) w.fit k h ∙ (omega arith))

    -- its card is the card that was written
    pub written_card : take card_size (drop (offset_of l) l) ≡ card
    written_card =
        rw (offset_is, w.same, drop-append_seam (entries_bytes E es) (card ++ log_trailer E offset (length es)))
        (take_at card (log_trailer E offset (length es)) card_size w.long)

-- ---- as the reader takes it

module _ (es : List Entry) (card l : List ℕ) (w : LaidOut zoned es card l) where
  -- its last byte
  pub written_ending : at l (length l - 1) ≡ zoned.last
  written_ending = (trailer_is zoned es card l w).second

  -- the log is accepted
  pub written_valid : valid l ≡ true
  written_valid = written_well zoned es card l w

  -- answer k is the response of entry k
  pub written_answer : (k : ℕ) → k < length es → answer_in l (find l k) ≡ (entry_of es k).response
  unfolding find
  written_answer k h =
      rw (written_valid, count_is zoned es card l w, lt-ltb _ _ h)
      (written_each zoned es card l w (λ e l i. take (length_at l i) (drop (response_at zoned l i) l) ≡ e.response)
      (λ p e q f. response_at_lem zoned p e q (fits_two e f.response_fits)) k h)

  -- its kind is that of entry k, and so is its zone where it is named
  pub written_kind : (k : ℕ) → k < length es → at l (place_of l k) ≡ (entry_of es k).kind
  written_kind k h = (written_each zoned es card l w (λ e l i. at l i ≡ e.kind) (λ p e q f. kind_at zoned p e q) k h)

  pub written_zone : (k : ℕ) → k < length es → zoned.names (entry_of es k).kind ≡ true → at l (place_of l k + 3) ≡ (entry_of es k).zone
  written_zone k h =
      (written_each zoned es card l w (λ e l i. zoned.names e.kind ≡ true → at l (i + 3) ≡ e.zone) (λ p e q f. zone_at zoned p e q) k h)

  -- answer k is found: behind the entries before it and its own header
  pub written_found : (k : ℕ) → k < length es
      → find l k ≡ located (length (entries_bytes zoned (take k es)) + header_length zoned (entry_of es k).kind) (length (entry_of es k).response)
  unfolding find
  written_found k h =
      rw (written_valid, count_is zoned es card l w, lt-ltb _ _ h)
      (λ i. located (written_place zoned es card l w k h i + header_length zoned (written_kind k h i)) (size i))
    where
      size : length_at l (place_of l k) ≡ length (entry_of es k).response
      size =
          written_each zoned es card l w (λ e l i. length_at l i ≡ length e.response)
          (λ p e q f. length_at_lem zoned p e q (fits_two e f.response_fits)) k h

  -- and past the last entry there is none
  pub written_none : (k : ℕ) → length es ≤ k → find l k ≡ missing no_such_answer
  unfolding find
  written_none k h = rw (written_valid, count_is zoned es card l w, le-ltb _ _ h)
