-- Staged writes ("Writes that survive a pulled card"), for any device: what the staging bytes say, the cells that a staged write and its
-- finishing write, in their order, and what a tear leaves of them.
use Rattle.std.specs.Prelude.{ℕ, ◌+◌, ◌*◌, ◌/◌, ◌%◌, Bool, false, cond, ◌&&◌, ◌||◌, List, [], ◌∷◌, ◌++◌, ltb, leb, eqb, length}
use Rattle.model.specs.Lists.{at, tab}
use Rattle.model.specs.Cells.{Cell, cell, row, torn}
use Rattle.model.specs.Volatile.{Volatile}
use Rattle.model.specs.State.{Tear, untorn, tear_after}
use Rattle.model.specs.Device.{Device}
use Rattle.model.specs.Apply.{rules}

-- the two values of the flag
abbrev pub idle_flag : ℕ
idle_flag = 0xFF

abbrev pub ready_flag : ℕ
ready_flag = 0xFE

module _ (D : Device) where
  -- ---- the staging bytes

  -- a write is staged that is not finished
  abbrev pub is_ready : List ℕ → Bool
  is_ready c = eqb (at c D.flag_at) ready_flag

  -- behind the flag: a zone, an address, how many bytes, their values
  abbrev pub staged_at : ℕ → ℕ
  staged_at k = D.flag_at + 1 + k

  abbrev pub staged_zone : List ℕ → ℕ
  staged_zone c = at c (staged_at 0)

  abbrev pub staged_address : List ℕ → ℕ
  staged_address c = at c (staged_at 1)

  abbrev pub staged_length : List ℕ → ℕ
  staged_length c = at c (staged_at 2)

  abbrev pub staged_values : List ℕ → List ℕ
  staged_values c = tab (λ k. at c (staged_at (3 + k))) (staged_length c)

  -- a flag with one of its two values, and a zone and a length that exist where it is ready
  abbrev pub staging_fits : List ℕ → Bool
  staging_fits c =
      eqb (at c D.flag_at) idle_flag || (is_ready c && (ltb (staged_zone c) D.zones && leb (staged_length c) D.most_staged))

  -- ---- the cells of a write

  -- whether the zone that is selected may be written
  abbrev pub may_stage : List ℕ → Volatile → ℕ → Bool
  may_stage c v a = D.may_write (rules D c) v (D.zone_cell v.zone a 0)

  -- what the bytes are to hold in the end: under PGO, old AND new
  abbrev pub final_values : List ℕ → ℕ → ℕ → List ℕ → List ℕ
  final_values c z a xs = tab (λ k. D.merge (rules D c) (D.zone_cell z a k) (at c (D.zone_cell z a k)) (at xs k)) (length xs)

  -- the bytes of the zone, then the flag to idle
  abbrev pub finish_cells : ℕ → ℕ → List ℕ → List Cell
  finish_cells z a vs = row (D.zone_cell z a) vs ++ (cell D.flag_at idle_flag ∷ [])

  -- zone, address, length, values, then the flag to ready, then as above
  abbrev pub stage_cells : ℕ → ℕ → List ℕ → List Cell
  stage_cells z a vs = row staged_at (z ∷ a ∷ length vs ∷ vs) ++ (cell D.flag_at ready_flag ∷ finish_cells z a vs)

  -- those that finish the write that a card has staged
  abbrev pub pending_cells : List ℕ → List Cell
  pending_cells c = finish_cells (staged_zone c) (staged_address c) (staged_values c)

  -- the cell at which the power is lost holds the junk; of the flag bit 0 alone is the junk's
  abbrev pub spoilt : ℕ → Cell → Cell
  spoilt junk w = cell w.place (cond (eqb w.place D.flag_at) (w.value / 2 * 2 + junk % 2) junk)

  -- the cells that are written of a row, by what is armed
  abbrev pub cells_under : Tear → List Cell → List Cell
  cells_under untorn ws = ws
  cells_under (tear_after k junk) ws = torn (spoilt junk) k ws

-- whether the power is lost in a row of n cells
abbrev pub tears_in : Tear → ℕ → Bool
tears_in untorn n = false
tears_in (tear_after k junk) n = ltb k n
