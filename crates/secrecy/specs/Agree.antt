-- Stores into two cards that agree outside some places.
use Rattle.std.specs.Prelude.{ℕ, suc, Bool, true, false, cond, ◌&&◌, ◌≡◌, refl, ltb, eqb, length, set}
use mathlib.Core.List.{List, [], ◌∷◌}
use Rattle.std.proofs.Common.{sym, subst, ◌∙◌, eqb-true, length-set}
use Rattle.std.proofs.Math.Path.{ap}
use Rattle.model.specs.Lists.{at, stores}
use Rattle.laws.specs.ListLaws.{at_set}
use Rattle.laws.specs.BoolLaws.{and_left}
use Rattle.secrecy.specs.Secret.{AgreeOutside}

module _ (hidden : ℕ → Bool) where
  -- a store into both cards, of equal values where the place is not hidden
  pub set_agree : (c₁ c₂ : List ℕ) (i v₁ v₂ : ℕ) → AgreeOutside hidden c₁ c₂ → (hidden i ≡ false → v₁ ≡ v₂)
      → AgreeOutside hidden (set c₁ i v₁) (set c₂ i v₂)
  set_agree c₁ c₂ i v₁ v₂ h e =
      record {
        long = length-set c₁ i v₁ ∙ h.long ∙ sym (length-set c₂ i v₂);
        same = λ j o. at_set c₁ i v₁ j ∙ go j o (eqb j i && ltb i (length c₁)) refl
            ∙ ap (λ (n : ℕ). cond (eqb j i && ltb i n) v₂ (at c₂ j)) h.long ∙ sym (at_set c₂ i v₂ j);
      }
    where
      go : (j : ℕ) → hidden j ≡ false → (t : Bool) → (eqb j i && ltb i (length c₁)) ≡ t → cond t v₁ (at c₁ j) ≡ cond t v₂ (at c₂ j)
      go j o true q = e (subst (λ (k : ℕ). hidden k ≡ false) (eqb-true j i (and_left _ _ q)) o)
      go j o false q = h.same j o

  pub stores_agree : (rule : ℕ → ℕ → ℕ → ℕ) (cell : ℕ → ℕ) (xs : List ℕ) (k : ℕ) (c₁ c₂ : List ℕ) → AgreeOutside hidden c₁ c₂
      → AgreeOutside hidden (stores rule cell xs k c₁) (stores rule cell xs k c₂)
  unfolding stores
  stores_agree rule cell [] k c₁ c₂ h = h
  stores_agree rule cell (x ∷ xs) k c₁ c₂ h =
      stores_agree rule cell xs (suc k) _ _
      (set_agree c₁ c₂ (cell k) _ _ h (λ o. ap (λ (v : ℕ). rule (cell k) v x) (h.same (cell k) o)))
