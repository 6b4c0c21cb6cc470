-- Laws of the session writer: how long its session is, and what its checks found.
use Rattle.std.specs.Prelude.{ℕ, zero, suc, ◌+◌, ◌≤◌, Bool, true, false, cond, not, List, ◌++◌, ◌≡◌, ltb, eqb, length, drop}
use Rattle.std.proofs.Common.{arith, eqb-true, ltb-false, length-append}
use Rattle.std.proofs.lemmas.Bool.{not-false}
use Rattle.model.specs.Sizes.{card_size, fuse_at, trailer_size, greatest_session, most_records, most_title}
use Rattle.model.specs.Lists.{at}
use Rattle.model.specs.Refusal.{no_space}
use Rattle.model.specs.Session.{Ran, rejected}
use Rattle.model.specs.Single.{is_fuse_byte, staging_fits}
use Rattle.model.specs.Writer.{Parts, trailer_bytes, session_bytes, records_refusal, parts_refusal, placed, write_session}
use Rattle.laws.specs.CallLaws.{clear}

pub session_length_lem : (p : Parts) → length (session_bytes p) ≡ length p.card + length p.title + length p.records + trailer_size
session_length_lem p =
    let tail : List ℕ = trailer_bytes (length p.card + length p.title) p.count in
    let a = length-append p.card (p.title ++ (p.records ++ tail)) in
    let b = length-append p.title (p.records ++ tail) in
    let c = length-append p.records tail in
    omega arith

-- parts that are not refused
pub record Writable (p : Parts) : Type 0 where
  pub long : length p.card ≡ card_size
  pub short : length (session_bytes p) ≤ greatest_session
  pub few : p.count ≤ most_records
  pub stage : is_fuse_byte (at p.card fuse_at) ≡ true
  pub staging : staging_fits p.card ≡ true
  pub brief : length p.title ≤ most_title
  pub well : records_refusal p.count p.records ≡ 0

pub writable : (p : Parts) → parts_refusal p ≡ 0 → Writable p
unfolding parts_refusal
writable p e =
    let p₁ = clear (not (eqb (length p.card) card_size)) 10 _ e in
    let p₂ = clear (ltb greatest_session (length (session_bytes p))) 0 _ p₁.1 in
    let p₃ = clear (ltb most_records p.count) 3 _ p₂.1 in
    let p₄ = clear (not (is_fuse_byte (at p.card fuse_at))) 4 _ p₃.1 in
    let p₅ = clear (not (staging_fits p.card)) 15 _ p₄.1 in
    let p₆ = clear (ltb most_title (length p.title)) 14 _ p₅.1 in
    record {
      long = eqb-true _ _ (not-false _ p₁.0);
      short = ltb-false _ _ p₂.0;
      few = ltb-false _ _ p₃.0;
      stage = not-false _ p₄.0;
      staging = not-false _ p₅.0;
      brief = ltb-false _ _ p₆.0;
      well = p₆.1;
    }

-- what is given back lies within the space
pub writing_within : (p : Parts) (space : List ℕ) (x : Ran) → x ≡ write_session p space → x.size ≤ length x.space
unfolding write_session
writing_within p space x e = rw e (on_checks (parts_refusal p))
  where
    whole : Ran
    whole = record { refusal = 0; size = length (session_bytes p); space = session_bytes p ++ drop (length (session_bytes p)) space }

    on_room : (t : Bool) → (cond t (rejected no_space space) whole).size ≤ length (cond t (rejected no_space space) whole).space
    on_room true = omega arith
    on_room false = omega (arith, length-append (session_bytes p) (drop (length (session_bytes p)) space))

    on_checks : (n : ℕ) → (placed p space n).size ≤ length (placed p space n).space
    on_checks zero = on_room (ltb (length space) (length (session_bytes p)))
    on_checks (suc n) = omega arith
