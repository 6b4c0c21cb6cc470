-- Two sessions that agree outside places of their cards: they are refused alike, and their records are the same.
use Rattle.std.specs.Prelude.{ℕ, zero, suc, ◌+◌, ◌-◌, ◌*◌, ◌≤◌, Bool, not, ◌&&◌, List, ◌∷◌, ◌≡◌, length}
use Rattle.std.proofs.Math.Bool.{true, false, cond}
use Rattle.std.proofs.Math.Path.{refl, ap}
use Rattle.std.proofs.Common.{◌∙◌, arith, leb-true}
use Rattle.std.proofs.lemmas.Bool.{not-false}
use Rattle.std.proofs.Math.Dec.{leb}
use Rattle.model.specs.Sizes.{fuse_at, trailer_size, least_session, greatest_session}
use Rattle.model.specs.Lists.{at}
use Rattle.laws.specs.BoolLaws.{and_left}
use Rattle.model.specs.Numbers.{number_at}
use Rattle.model.specs.Reader.{part_at}
use Rattle.model.specs.Record.{record_length}
use Rattle.model.specs.Refusal.{session_length, session_trailer, start_out_of_range, too_many_records, fuse_byte, staging_bytes}
use Rattle.model.specs.At88sc1608.{at88sc1608}
use Rattle.laws.specs.StagingLaws.{staging_same}
use Rattle.model.specs.Session.{start_of, count_of, wrong_length, wrong_trailer, wrong_start, wrong_count, wrong_fuses, wrong_staging}
use Rattle.model.specs.Session.{frame, read_from}
use Rattle.secrecy.specs.Secret.{AgreeOutside}
use Rattle.properties.specs.AsCalls.{call_of, calls_from}
use Rattle.properties.specs.SameRecords.{SameBody, part_same}
use Rattle.properties.specs.SameRecords as records

-- 2 to 5 and 16
abbrev rest : List ℕ → ℕ
rest s =
    cond (wrong_trailer s) session_trailer
    (cond (wrong_start s) start_out_of_range (cond (wrong_count s) too_many_records (cond (wrong_fuses s) fuse_byte (cond (wrong_staging s) staging_bytes 0))))

module _ (hidden : ℕ → Bool) (in-card : (i : ℕ) → fuse_at ≤ i → hidden i ≡ false) (s₁ s₂ : List ℕ) (agree : AgreeOutside hidden s₁ s₂) where
  -- so they hold the same from the fuse byte on
  pub same_body : SameBody s₁ s₂
  same_body = record { long = agree.long; same = λ i h l. agree.same i (in-card i h) }

  number_same : (w i : ℕ) → fuse_at ≤ i → number_at s₁ i w ≡ number_at s₂ i w
  number_same zero i h = refl
  number_same (suc w) i h = λ t. agree.same i (in-card i h) t + 256 * number_same w (suc i) (omega arith) t

  pub read_same : (n i : ℕ) → fuse_at ≤ i → read_from n s₁ i ≡ read_from n s₂ i
  read_same = records.read_same s₁ s₂ same_body

  pub calls_same : (n i : ℕ) → fuse_at ≤ i → calls_from n s₁ i ≡ calls_from n s₂ i
  calls_same zero i h = refl
  calls_same (suc n) i h =
      let part = part_same s₁ s₂ same_body i h in
      let others = ap (λ (p : List ℕ). calls_from n s₁ (i + record_length p)) part ∙ calls_same n (i + record_length (part_at s₂ i)) (omega arith) in
      λ t. call_of (part t) ∷ others t

  -- ---- the frame

  module _ (long : least_session ≤ length s₁) where
    pub start_same : start_of s₁ ≡ start_of s₂
    start_same = number_same 4 (length s₁ - trailer_size) (omega arith) ∙ ap (λ (n : ℕ). number_at s₂ (n - trailer_size) 4) agree.long

    pub count_same : count_of s₁ ≡ count_of s₂
    count_same = number_same 2 (length s₁ - 4) (omega arith) ∙ ap (λ (n : ℕ). number_at s₂ (n - 4) 2) agree.long

    pub byte_same : (k : ℕ) → k ≤ 8 → at s₁ (length s₁ - k) ≡ at s₂ (length s₂ - k)
    byte_same k h = agree.same (length s₁ - k) (in-card (length s₁ - k) (omega arith)) ∙ ap (λ (n : ℕ). at s₂ (n - k)) agree.long

    rest_same : rest s₁ ≡ rest s₂
    rest_same =
        rw (
          byte_same 2 (omega arith),
          byte_same 1 (omega arith),
          start_same,
          count_same,
          agree.long,
          agree.same fuse_at (in-card fuse_at (omega arith)),
          staging_same at88sc1608 s₂ s₁ (λ j l h. agree.same j (in-card j (omega arith))),
        )

  pub frame_same : frame s₁ ≡ frame s₂
  unfolding frame
  frame_same =
      go (wrong_length s₁) refl ∙ ap (λ (n : ℕ). cond (not (leb least_session n && leb n greatest_session)) session_length (rest s₂)) agree.long
    where
      go : (t : Bool) → wrong_length s₁ ≡ t → cond t session_length (rest s₁) ≡ cond t session_length (rest s₂)
      go true e = refl
      go false e = rest_same (leb-true _ _ (and_left (leb least_session (length s₁)) _ (not-false _ e)))
