-- Cell writes into two cards that agree outside some places: rows of the same places, with equal values where the place is not hidden.
use Rattle.std.specs.Prelude.{ℕ, zero, suc, ◌/◌, ◌*◌, ◌%◌, ◌+◌, ◌<◌, Bool, false, cond, List, [], ◌∷◌, ◌++◌, ◌≡◌, refl, eqb, length, set}
use Rattle.std.proofs.Common.{ap, arith}
use Rattle.model.specs.Lists.{at}
use Rattle.model.specs.Cells.{Cell, cell, write_cells, row, torn}
use Rattle.model.specs.Device.{Device}
use Rattle.model.specs.State.{Tear, untorn, tear_after}
use Rattle.model.specs.Staging.{spoilt, cells_under}
use Rattle.secrecy.specs.Secret.{AgreeOutside}
use Rattle.secrecy.specs.Agree.{set_agree}

module _ (hidden : ℕ → Bool) where
  pub data Like : List Cell → List Cell → Type 0 where
    none : Like [] []
    one_more : {ws us : List Cell} (i v w : ℕ) → (hidden i ≡ false → v ≡ w) → Like ws us → Like (cell i v ∷ ws) (cell i w ∷ us)

  pub like_cells : (ws us : List Cell) (c₁ c₂ : List ℕ) → Like ws us → AgreeOutside hidden c₁ c₂
      → AgreeOutside hidden (write_cells ws c₁) (write_cells us c₂)
  unfolding write_cells
  like_cells ws us c₁ c₂ none h = h
  like_cells ws us c₁ c₂ (one_more {ws = ws'} {us = us'} i v w e l) h =
      like_cells ws' us' (set c₁ i v) (set c₂ i w) l (set_agree hidden c₁ c₂ i v w h e)

  pub like_length : (ws us : List Cell) → Like ws us → length ws ≡ length us
  like_length ws us none = refl
  like_length ws us (one_more {ws = ws'} {us = us'} i v w e l) = ap suc (like_length ws' us' l)

  pub like_append : (ws us ws' us' : List Cell) → Like ws us → Like ws' us' → Like (ws ++ ws') (us ++ us')
  like_append ws us ws' us' none m = m
  like_append ws us ws' us' (one_more {ws = vs} {us = ts} i v w e l) m = one_more i v w e (like_append vs ts ws' us' l m)

  pub like_one : (i v : ℕ) → Like (cell i v ∷ []) (cell i v ∷ [])
  like_one i v = one_more i v v (λ o. refl) none

  pub like_row : (place : ℕ → ℕ) (vs us : List ℕ) → length vs ≡ length us
      → ((k : ℕ) → k < length vs → hidden (place k) ≡ false → at vs k ≡ at us k) → Like (row place vs) (row place us)
  like_row place [] [] l e = none
  like_row place [] (u ∷ us) l e = absurd (let z : ⊥ = omega arith in z)
  like_row place (v ∷ vs) [] l e = absurd (let z : ⊥ = omega arith in z)
  like_row place (v ∷ vs) (u ∷ us) l e =
      one_more (place 0) v u (λ o. e 0 (omega arith) o)
      (like_row (λ k. place (suc k)) vs us (omega arith) (λ k h o. e (suc k) (omega arith) o))

  -- a tear spoils both alike
  pub like_under : (D : Device) (tear : Tear) (ws us : List Cell) → Like ws us → Like (cells_under D tear ws) (cells_under D tear us)
  like_under D untorn ws us l = l
  like_under D (tear_after k junk) ws us l = go k ws us l
    where
      go : (k : ℕ) (ws us : List Cell) → Like ws us → Like (torn (spoilt D junk) k ws) (torn (spoilt D junk) k us)
      go k ws us none = none
      go zero ws us (one_more {ws = ws'} {us = us'} i v w e l) =
          one_more i _ _ (λ o. ap (λ (x : ℕ). cond (eqb i D.flag_at) (x / 2 * 2 + junk % 2) junk) (e o)) none
      go (suc k) ws us (one_more {ws = ws'} {us = us'} i v w e l) = one_more i v w e (go k ws' us' l)
