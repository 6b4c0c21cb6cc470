-- Of the conditions of a session's records: of all accepted ones none applies, of others the first is their refusal.
use Rattle.std.specs.Prelude.{ℕ, zero, suc, ◌+◌, List, ◌≡◌, refl}
use Rattle.std.proofs.Common.{sym, ap, ◌∙◌, arith}
use Rattle.model.specs.Sizes.{least_log}
use Rattle.model.specs.Instruction.{Instruction}
use Rattle.model.specs.Log.{zoned, header_length}
use Rattle.model.specs.Call.{Decoded, refused, whole}
use Rattle.model.specs.Reader.{part_at, next_of}
use Rattle.model.specs.Record.{record_length}
use Rattle.laws.specs.RecordLaws.{accepted, decode_kind}
use Rattle.model.specs.Session.{start_of, count_of}
use Rattle.model.specs.Session.{Read, stopped, all, on_decoded, more, read_from, full_entries, initial}
use Rattle.properties.specs.SessionLaws.{read_first, read_none, full_total, full_total_lem}
use Rattle.properties.specs.Conditions.{record_conditions, first}
use Rattle.properties.specs.ConditionsLaws.{first_append}
use Rattle.properties.specs.ConditionsLaws.{first_record, decode_answer}
use Rattle.properties.specs.SessionConditions.{place_past, records_conditions, full_length, log_length}

-- records that are all accepted: none of their conditions applies, where they end, and how long their entries in full are
pub record Clean (n : ℕ) (s : List ℕ) (i : ℕ) (ks : List Instruction) (j : ℕ) : Type 0 where
  pub none : (d : ℕ) → first (records_conditions n s i) d ≡ d
  pub place : j ≡ place_past n s i
  pub entries : full_total ks ≡ full_length n s i

pub records_clean : (n : ℕ) (s : List ℕ) (i : ℕ) (ks : List Instruction) (j : ℕ) → read_from n s i ≡ all ks j → Clean n s i ks j
records_clean zero s i ks j e =
    let q = read_none s i ks j e in
    rw q.0 (record { none = λ d. refl; place = sym q.1; entries = refl })
records_clean (suc n) s i ks j e =
    let f = read_first n s i ks j e in
    let r = records_clean n s (i + f.size) f.others j f.rest in
    let l : record_length (part_at s i) ≡ f.size = (accepted (part_at s i) f.command f.size f.next).size in
    rw f.list (record {
      none = λ d. first_append (record_conditions (part_at s i)) (records_conditions n s (i + record_length (part_at s i))) d
          ∙ first_record (part_at s i) _ _ f.next ∙ ap (λ (m : ℕ). first (records_conditions n s (i + m)) d) l ∙ r.none d;
      place = rw l r.place;
      entries = rw l (λ t. header_length zoned (decode_kind (part_at s i) f.command f.size f.next t)
          + decode_answer (part_at s i) f.command f.size f.next t + r.entries t);
    })

-- records of which one is refused
pub first_stopped : (n : ℕ) (s : List ℕ) (i r : ℕ) → read_from n s i ≡ stopped r → (d : ℕ) → first (records_conditions n s i) d ≡ r
first_stopped zero s i r e d = absurd (let z : ◌≡◌ {A = ℕ} 0 1 = cc in let w : ⊥ = omega arith in w)
first_stopped (suc n) s i r e d =
    first_append (record_conditions (part_at s i)) (records_conditions n s (i + record_length (part_at s i))) d
    ∙ go (λ m q. first_stopped n s (i + m) r q d) (next_of s i) refl e
  where
    later : (k : Instruction) (x : Read) → more k x ≡ stopped r → x ≡ stopped r
    later k (stopped y) e = e
    later k (all ks j) e = absurd (let z : ◌≡◌ {A = ℕ} 0 1 = cc in let w : ⊥ = omega arith in w)

    go : ((m : ℕ) → read_from n s (i + m) ≡ stopped r → first (records_conditions n s (i + m)) d ≡ r) → (x : Decoded Instruction) → next_of s i ≡ x
        → on_decoded x stopped (λ k m. more k (read_from n s (i + m))) ≡ stopped r
        → first (record_conditions (part_at s i)) (first (records_conditions n s (i + record_length (part_at s i))) d) ≡ r
    go ih (refused x) q e = first_record (part_at s i) _ _ q ∙ (let w : x ≡ r = cc in w)
    go ih (whole k m) q e =
        first_record (part_at s i) _ _ q
        ∙ ap (λ (m : ℕ). first (records_conditions n s (i + m)) d) (accepted (part_at s i) k m q).size
        ∙ ih m (later k (read_from n s (i + m)) e)

pub full_length_lem : (s : List ℕ) (ks : List Instruction) (j : ℕ) → read_from (count_of s) s (start_of s) ≡ all ks j
    → full_entries ks (initial s) + least_log ≡ log_length s
full_length_lem s ks j e = ap (λ (n : ℕ). n + least_log) (full_total_lem ks (initial s) ∙ (records_clean (count_of s) s (start_of s) ks j e).entries)
