-- The session written, from what the parts of the code leave.
use Rattle.std.specs.Prelude.{ℕ, ◌+◌, ◌≤◌, ◌<◌, List, ◌++◌, ◌≡◌, Result, Err}
use Rattle.std.proofs.Common.{sym, ap, ◌∙◌, arith, append_assoc}
use borrow.Author.Tests.{lt-ltb, le-ltb}
use lib.ListN.{length, take, length-append}
use lib.Seq.{sets, take_all}
use Rattle.model.specs.Sizes.{card_size, trailer_size, greatest_session}
use Rattle.model.specs.Refusal.{no_space}
use Rattle.model.specs.Session.{rejected}
use Rattle.model.specs.Writer.{Parts, trailer_bytes, session_bytes, parts_refusal, write_session}
use Rattle.laws.specs.NumberLaws.{sets_append, sets_front}
use Rattle.laws.specs.WriterLaws.{session_length_lem, writable}
use Rattle.record.specs.RefusalNumber.{refusal_number, number_some}
use Rattle.writer.specs.Writing.{written_of}
use Rattle.record.specs.declared.refusal.Refusal.{Refusal}

-- what is known of parts that are not refused
pub record Fitting (p : Parts) : Type 0 where
  pub long : length p.card ≡ card_size
  pub size : length (session_bytes p) ≡ card_size + length p.title + length p.records + trailer_size
  pub within : length (session_bytes p) ≤ greatest_session

pub fitting : (p : Parts) → 0 ≡ parts_refusal p → Fitting p
fitting p e =
    let w = writable p (sym e) in
    let l = session_length_lem p in
    let c = w.long in
    record { long = c; size = omega arith; within = w.short }

module _ (p : Parts) (space : List ℕ) where
  -- refused by a check
  pub not_written : (why : Refusal) (r : Result ℕ Refusal) → refusal_number why ≡ parts_refusal p → r ≡ Err why
      → written_of r space ≡ write_session p space
  unfolding write_session
  not_written why r e told = rw (told, ← e, (number_some why).1)

  module _ (accepted : 0 ≡ parts_refusal p) where
    pub no_space_lem : length space < length (session_bytes p) → rejected no_space space ≡ write_session p space
    unfolding write_session
    no_space_lem h = rw (← accepted, lt-ltb _ _ h)

    -- the card, the title, the records and the trailer, one after the other
    module _ (l₁ l₂ l₃ l₄ : List ℕ) (start end : ℕ) (put₁ : l₁ ≡ sets space 0 (take card_size p.card))
        (put₂ : l₂ ≡ sets l₁ card_size (take (length p.title) p.title))
        (put₃ : l₃ ≡ sets l₂ start (take (length p.records) p.records)) (put₄ : l₄ ≡ sets l₃ end (trailer_bytes start p.count))
        (starts : start ≡ card_size + length p.title) (ends : end ≡ start + length p.records) where
      long : length p.card ≡ card_size
      long = (fitting p accepted).long

      abbrev tail : List ℕ
      tail = trailer_bytes (length p.card + length p.title) p.count

      put_card : l₁ ≡ sets space 0 p.card
      put_card = put₁ ∙ ap (sets space 0) (take_all card_size p.card (omega (arith, long)))

      put_title : l₂ ≡ sets space 0 (p.card ++ p.title)
      put_title =
          let z : card_size ≡ 0 + length p.card = omega (arith, long) in
          put₂ ∙ (λ t. sets (put_card t) (z t) (take_all (length p.title) p.title (omega arith) t)) ∙ sets_append space 0 p.card p.title

      put_records : l₃ ≡ sets space 0 ((p.card ++ p.title) ++ p.records)
      put_records =
          let a = length-append p.card p.title in
          let z : start ≡ 0 + length (p.card ++ p.title) = omega (arith, long) in
          put₃ ∙ (λ t. sets (put_title t) (z t) (take_all (length p.records) p.records (omega arith) t))
          ∙ sets_append space 0 (p.card ++ p.title) p.records

      put_all : l₄ ≡ sets space 0 (session_bytes p)
      put_all =
          let a = length-append p.card p.title in
          let b = length-append (p.card ++ p.title) p.records in
          let z : end ≡ 0 + length ((p.card ++ p.title) ++ p.records) = omega (arith, long) in
          let s : start ≡ length p.card + length p.title = omega (arith, long) in
          put₄ ∙ (λ t. sets (put_records t) (z t) (trailer_bytes (s t) p.count))
          ∙ sets_append space 0 ((p.card ++ p.title) ++ p.records) tail
          ∙ ap (sets space 0) (append_assoc (p.card ++ p.title) p.records tail ∙ append_assoc p.card p.title (p.records ++ tail))

      pub session_put : (size : ℕ) → size ≡ length (session_bytes p) → size ≤ length space
          → record { refusal = 0; size = size; space = l₄ } ≡ write_session p space
      unfolding write_session
      session_put size e h =
          (λ t. record { refusal = 0; size = e t; space = (put_all ∙ sets_front space (session_bytes p) (omega arith)) t })
          ∙ rw (← accepted, le-ltb _ _ (let f : length (session_bytes p) ≤ length space = omega arith in f))
