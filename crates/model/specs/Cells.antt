-- Writes of single cells, one after the other, and a row of them in which the power is lost ("Writes that survive a pulled card").
use Rattle.std.specs.Prelude.{ℕ, zero, suc, List, [], ◌∷◌, set}

-- a place of the card, and what it is to hold
pub record Cell : Type 0 where
  pub place : ℕ
  pub value : ℕ

abbrev pub cell : ℕ → ℕ → Cell
cell place value = record { place = place; value = value }

-- the cells written in turn
unfoldable pub write_cells : List Cell → List ℕ → List ℕ
write_cells [] c = c
write_cells (w ∷ ws) c = write_cells ws (set c w.place w.value)

-- values for the cells of their numbers, from 0 on
abbrev pub row : (ℕ → ℕ) → List ℕ → List Cell
row place [] = []
row place (v ∷ vs) = cell (place 0) v ∷ row (λ k. place (suc k)) vs

-- k cells, and the next one spoilt; all of them, where there is no next one
abbrev pub torn : (Cell → Cell) → ℕ → List Cell → List Cell
torn spoilt k [] = []
torn spoilt zero (w ∷ ws) = spoilt w ∷ []
torn spoilt (suc k) (w ∷ ws) = w ∷ torn spoilt k ws
