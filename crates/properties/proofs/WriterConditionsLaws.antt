-- Of the conditions of the session writer: the first that applies is its refusal.
use Rattle.std.specs.Prelude.{ℕ, zero, suc, Bool, true, false, cond, not, List, ◌≡◌, refl, ltb, eqb, length, drop}
use Rattle.std.proofs.Common.{sym, ap, ◌∙◌}
use Rattle.model.specs.Sizes.{card_size, fuse_at, greatest_session, most_records, most_title}
use Rattle.model.specs.Lists.{at}
use Rattle.model.specs.Call.{Decoded, refused, whole}
use Rattle.model.specs.Instruction.{Instruction}
use Rattle.model.specs.Record.{record_length, decode}
use Rattle.model.specs.Refusal.{bytes_left, no_space}
use Rattle.model.specs.Session.{on_decoded, rejected}
use Rattle.model.specs.Single.{is_fuse_byte, staging_fits}
use Rattle.model.specs.Writer.{Parts, session_bytes, records_refusal, parts_refusal, placed, write_session}
use Rattle.laws.specs.RecordLaws.{accepted}
use Rattle.properties.specs.SessionLaws.{refusal_nonzero}
use Rattle.properties.specs.Conditions.{record_conditions, first}
use Rattle.properties.specs.ConditionsLaws.{first_append, Numbered, numbered_append, some, record_numbered, first_record}
use Rattle.properties.specs.WriterConditions.{behind, end_to_end, last_of, writer_conditions}
use Rattle.properties.specs.AcceptedSession.{accepting}

-- a refusal's number, or another one where there is none
abbrev or_else : ℕ → ℕ → ℕ
or_else zero d = d
or_else (suc n) d = suc n

-- ---- the records in turn

records_first : (n : ℕ) (part : List ℕ) (d : ℕ)
    → first (end_to_end n part) (cond (not (eqb (length (behind n part)) 0)) bytes_left d) ≡ or_else (records_refusal n part) d
records_first zero part d = go (eqb (length part) 0)
  where
    go : (t : Bool) → cond (not t) bytes_left d ≡ or_else (cond t 0 bytes_left) d
    go true = refl
    go false = refl
records_first (suc n) part d =
    first_append (record_conditions part) (end_to_end n (drop (record_length part) part)) _ ∙ go (records_first n) (decode part) refl
  where
    itself : (r : ℕ) → (r ≡ 0 → ⊥) → r ≡ or_else r d
    itself zero h = absurd (h refl)
    itself (suc r) h = refl

    go : ((p : List ℕ) (d : ℕ) → first (end_to_end n p) (cond (not (eqb (length (behind n p)) 0)) bytes_left d) ≡ or_else (records_refusal n p) d)
        → (x : Decoded Instruction) → decode part ≡ x
        → first (record_conditions part) (first (end_to_end n (drop (record_length part) part))
        (cond (not (eqb (length (behind n (drop (record_length part) part))) 0)) bytes_left d))
        ≡ or_else (on_decoded x (λ r. r) (λ k m. records_refusal n (drop m part))) d
    go ih (refused r) q = first_record part _ _ q ∙ itself r (refusal_nonzero part r q)
    go ih (whole k m) q =
        first_record part _ _ q ∙ ih (drop (record_length part) part) d
        ∙ ap (λ (m : ℕ). or_else (records_refusal n (drop m part)) d) (accepted part k m q).size

-- ---- the writer

past_parts : (a b c e f g : Bool) (r d : ℕ) → or_else (cond a 11 (cond b 1 (cond c 4 (cond e 5 (cond f 16 (cond g 15 r)))))) d
    ≡ cond a 11 (cond b 1 (cond c 4 (cond e 5 (cond f 16 (cond g 15 (or_else r d))))))
past_parts true b c e f g r d = refl
past_parts false true c e f g r d = refl
past_parts false false true e f g r d = refl
past_parts false false false true f g r d = refl
past_parts false false false false true g r d = refl
past_parts false false false false false true r d = refl
past_parts false false false false false false r d = refl

past_checks : (p : Parts) (space : List ℕ) (n : ℕ)
    → (placed p space n).refusal ≡ or_else n (cond (ltb (length space) (length (session_bytes p))) no_space 0)
past_checks p space zero = go (ltb (length space) (length (session_bytes p)))
  where
    go : (t : Bool) → (cond t (rejected no_space space) (accepting (session_bytes p) space)).refusal ≡ cond t no_space 0
    go true = refl
    go false = refl
past_checks p space (suc n) = refl

pub writer_first : (p : Parts) (space : List ℕ) → (write_session p space).refusal ≡ first (writer_conditions p space) 0
unfolding write_session parts_refusal
writer_first p space =
    past_checks p space (parts_refusal p)
    ∙ past_parts (not (eqb (length p.card) card_size)) (ltb greatest_session (length (session_bytes p))) (ltb most_records p.count)
    (not (is_fuse_byte (at p.card fuse_at))) (not (staging_fits p.card)) (ltb most_title (length p.title)) (records_refusal p.count p.records) _
    ∙ ap (λ (n : ℕ). cond (not (eqb (length p.card) card_size)) 11 (rest n))
    (sym (first_append (end_to_end p.count p.records) (last_of p space) 0 ∙ records_first p.count p.records _))
  where
    rest : ℕ → ℕ
    rest n =
        cond (ltb greatest_session (length (session_bytes p))) 1
        (cond (ltb most_records p.count) 4
        (cond (not (is_fuse_byte (at p.card fuse_at))) 5
        (cond (not (staging_fits p.card)) 16 (cond (ltb most_title (length p.title)) 15 n))))

list_numbered : (n : ℕ) (part : List ℕ) → Numbered (end_to_end n part)
list_numbered zero part = tt
list_numbered (suc n) part =
    numbered_append (record_conditions part) (end_to_end n (drop (record_length part) part))
    (record_numbered part) (list_numbered n (drop (record_length part) part))

pub writer_numbered : (p : Parts) (space : List ℕ) → Numbered (writer_conditions p space)
writer_numbered p space = (
  some _,
  (
    some _,
    (
      some _,
      (
        some _,
        (
          some _,
          (
            some _,
            numbered_append (end_to_end p.count p.records) (last_of p space) (list_numbered p.count p.records) (some _, (some _, tt)),
          ),
        ),
      ),
    ),
  ),
)
