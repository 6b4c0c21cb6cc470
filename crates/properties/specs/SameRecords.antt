-- Two sessions that hold the same from the fuse byte up to the trailer: their records are the same, and so is the start that a search finds.
use Prim.Native.Nat.{ℕ, zero, suc, ◌+◌, ◌-◌, ◌≤◌, ◌<◌}
use Rattle.std.proofs.Math.Bool.{cond}
use mathlib.Core.List.{List}
use Rattle.std.specs.Prelude.{◌≡◌, eqb, length, drop}
use Rattle.std.proofs.Math.Path.{refl, ap}
use Rattle.std.proofs.Common.{sym, ◌∙◌, arith, ext_get_or, get_or-take, get_or-drop}
use Rattle.model.specs.Sizes.{card_size, fuse_at, most_records}
use Rattle.model.specs.Lists.{at}
use Rattle.model.specs.Instruction.{Instruction}
use Rattle.model.specs.Call.{Decoded, refused, whole}
use Rattle.model.specs.Reader.{records_end, part_at, next_of}
use Rattle.laws.specs.ReaderLaws.{part_length}
use Rattle.model.specs.Record.{decode}
use Rattle.model.specs.Session.{stopped, on_decoded, more, read_from}
use Rattle.model.specs.Mender.{another, count_from, sooner, start_from, smallest_start}

pub record SameBody (s₁ s₂ : List ℕ) : Type 0 where
  pub long : length s₁ ≡ length s₂
  pub same : (i : ℕ) → fuse_at ≤ i → i < records_end (length s₁) → at s₁ i ≡ at s₂ i

module _ (s₁ s₂ : List ℕ) (body : SameBody s₁ s₂) where
  pub end_same : records_end (length s₁) ≡ records_end (length s₂)
  end_same = ap records_end body.long

  pub part_same : (i : ℕ) → fuse_at ≤ i → part_at s₁ i ≡ part_at s₂ i
  part_same i h =
      ext_get_or 0 (part_at s₁ i) (part_at s₂ i) (part_length s₁ i ∙ ap (λ (n : ℕ). n - i) end_same ∙ sym (part_length s₂ i)) bytes
    where
      bytes : (k : ℕ) → k < length (part_at s₁ i) → at (part_at s₁ i) k ≡ at (part_at s₂ i) k
      bytes k l =
          let e = part_length s₁ i in
          let f = end_same in
          get_or-take (records_end (length s₁) - i) (drop i s₁) k 0 (omega arith) ∙ get_or-drop i s₁ k 0 ∙ body.same (i + k) (omega arith) (omega arith)
          ∙ sym (get_or-take (records_end (length s₂) - i) (drop i s₂) k 0 (omega arith) ∙ get_or-drop i s₂ k 0)

  pub read_same : (n i : ℕ) → fuse_at ≤ i → read_from n s₁ i ≡ read_from n s₂ i
  read_same zero i h = refl
  read_same (suc n) i h =
      ap (λ (p : List ℕ). on_decoded (decode p) stopped (λ k m. more k (read_from n s₁ (i + m)))) (part_same i h)
      ∙ go (λ m. read_same n (i + m) (omega arith)) (next_of s₂ i)
    where
      go : ((m : ℕ) → read_from n s₁ (i + m) ≡ read_from n s₂ (i + m)) → (d : Decoded Instruction)
          → on_decoded d stopped (λ k m. more k (read_from n s₁ (i + m))) ≡ on_decoded d stopped (λ k m. more k (read_from n s₂ (i + m)))
      go ih (refused r) = refl
      go ih (whole k m) = ap (more k) (ih m)

  count_same : (n i : ℕ) → fuse_at ≤ i → count_from n s₁ i ≡ count_from n s₂ i
  unfolding count_from
  count_same zero i h = refl
  count_same (suc n) i h =
      ap (λ (p : List ℕ). on_decoded (decode p) (λ r. 0) (λ k m. cond (eqb (i + m) (records_end (length s₁))) 1 (another (count_from n s₁ (i + m)))))
      (part_same i h)
      ∙ go (λ m. count_same n (i + m) (omega arith)) (next_of s₂ i)
    where
      go : ((m : ℕ) → count_from n s₁ (i + m) ≡ count_from n s₂ (i + m)) → (d : Decoded Instruction)
          → on_decoded d (λ r. 0) (λ k m. cond (eqb (i + m) (records_end (length s₁))) 1 (another (count_from n s₁ (i + m))))
          ≡ on_decoded d (λ r. 0) (λ k m. cond (eqb (i + m) (records_end (length s₂))) 1 (another (count_from n s₂ (i + m))))
      go ih (refused r) = refl
      go ih (whole k m) = λ t. cond (eqb (i + m) (end_same t)) 1 (another (ih m t))

  starts_same : (n i : ℕ) → fuse_at ≤ i → start_from n s₁ i ≡ start_from n s₂ i
  unfolding start_from
  starts_same zero i h = refl
  starts_same (suc n) i h = λ t. sooner i (count_same most_records i h t) (starts_same n (i + 1) (omega arith) t)

  pub search_same : smallest_start s₁ ≡ smallest_start s₂
  search_same =
      starts_same (records_end (length s₁) - card_size) card_size (omega arith) ∙ ap (λ (n : ℕ). start_from (n - card_size) s₂ card_size) end_same
