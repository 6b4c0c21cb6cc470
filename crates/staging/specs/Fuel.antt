-- A row of cells by its fuel: how many of them are written, the spoilt one among them. What is armed as fuel and junk.
use Rattle.std.specs.Prelude.{ℕ, zero, suc, ◌-◌, ◌<◌, Bool, true, false, List, [], ◌∷◌, ◌++◌, ◌≡◌, refl, ltb, eqb, length, Option, Some, None}
use Rattle.std.proofs.Common.{ap, ◌∙◌, arith, ltb-true, ltb-false, eq-eqb, ne_eqb}
use Rattle.model.specs.Cells.{Cell, torn, write_cells, row}
use Rattle.model.specs.Staging.{spoilt, cells_under, tears_in}
use Rattle.model.specs.State as model
use Rattle.model.specs.At88sc1608.{at88sc1608}
use Rattle.laws.specs.CellLaws.{torn_none}
use Rattle.staging.specs.declared.tear.Tear.{Tear}
use Rattle.staging.specs.declared.cells.Fuel.{Fuel}

-- the tear of the code as that of the model
abbrev pub tear_of : Option Tear → model.Tear
tear_of None = model.untorn
tear_of (Some t) = model.tear_after t.cells t.junk

-- the cells that the fuel lasts for
abbrev pub fueled : (junk fuel : ℕ) → List Cell → List Cell
fueled junk zero ws = []
fueled junk (suc k) ws = torn (spoilt at88sc1608 junk) k ws

-- what writing a row of cells leaves of the card and of the fuel
pub record Writes (fuel : Fuel) (ws : List Cell) (card : List ℕ) (fuel' : Fuel) (card' : List ℕ) : Type 0 where
  pub cells : card' ≡ write_cells (fueled fuel.junk fuel.cells ws) card
  pub lasts : fuel'.cells ≡ fuel.cells - length ws
  pub same_junk : fuel'.junk ≡ fuel.junk

-- the same of values, at whatever places their numbers are given
abbrev pub WritesRow : (post : ℕ → ℕ → Type 0) (fuel : Fuel) (vs card : List ℕ) (fuel' : Fuel) (card' : List ℕ) → Type 0
WritesRow post fuel vs card fuel' card' =
    (place : ℕ → ℕ) → ((k p : ℕ) → k < length vs → post k p → p ≡ place k) → Writes fuel (row place vs) card fuel' card'

-- what is armed as fuel and junk
abbrev pub fuel_of : model.Tear → ℕ
fuel_of model.untorn = 256
fuel_of (model.tear_after k junk) = suc k

abbrev pub junk_of : model.Tear → ℕ
junk_of model.untorn = 0
junk_of (model.tear_after k junk) = junk

-- one row behind the other
pub fueled_append : (junk fuel : ℕ) (ws us : List Cell) → fueled junk fuel (ws ++ us) ≡ fueled junk fuel ws ++ fueled junk (fuel - length ws) us
fueled_append junk zero ws us = ap (λ (n : ℕ). fueled junk n us) (let e : 0 ≡ 0 - length ws = omega arith in e)
fueled_append junk (suc k) [] us = ap (λ (n : ℕ). fueled junk n us) (let e : suc k ≡ suc k - 0 = omega arith in e)
fueled_append junk (suc zero) (w ∷ ws) us =
    ap (λ (n : ℕ). spoilt at88sc1608 junk w ∷ fueled junk n us) (let e : 0 ≡ 1 - suc (length ws) = omega arith in e)
fueled_append junk (suc (suc k)) (w ∷ ws) us =
    ap (λ (vs : List Cell). w ∷ vs) (fueled_append junk (suc k) ws us)
    ∙ ap (λ (n : ℕ). w ∷ (fueled junk (suc k) ws ++ fueled junk n us)) (let e : suc k - length ws ≡ suc (suc k) - suc (length ws) = omega arith in e)

-- as the model has it, for rows of fewer than 256 cells
pub fueled_under : (t : model.Tear) (ws : List Cell) → length ws < 256 → fueled (junk_of t) (fuel_of t) ws ≡ cells_under at88sc1608 t ws
fueled_under model.untorn ws h = torn_none (spoilt at88sc1608 0) 255 ws (omega arith)
fueled_under (model.tear_after k junk) ws h = refl

pub fuel_out : (t : model.Tear) (n : ℕ) → n < 256 → eqb (fuel_of t - n) 0 ≡ tears_in t n
fuel_out model.untorn n h = ne_eqb (256 - n) 0 (λ e. omega arith)
fuel_out (model.tear_after k junk) n h = go (ltb k n) refl
  where
    go : (b : Bool) → ltb k n ≡ b → eqb (suc k - n) 0 ≡ b
    go true e = let l = ltb-true k n e in eq-eqb (suc k - n) 0 (omega arith)
    go false e = let l = ltb-false k n e in ne_eqb (suc k - n) 0 (λ q. omega arith)
