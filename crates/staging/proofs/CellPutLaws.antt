-- Cells written while the fuel lasts: one, rows one behind the other, and a row of them in a loop.
use Rattle.std.specs.Prelude.{ℕ, zero, suc, ◌+◌, ◌-◌, ◌≤◌, ◌<◌, List, [], ◌∷◌, ◌++◌, ◌≡◌, refl, length, take, set}
use Rattle.std.proofs.Common.{sym, ap, ◌∙◌, arith, add-one, take_all, length-append}
use Rattle.std.proofs.Math.Nat.{le_of_suc-le-suc}
use Rattle.std.proofs.Math.Seq.{length-take-le}
use Rattle.model.specs.Lists.{at}
use Rattle.model.specs.Cells.{Cell, cell, write_cells, row}
use Rattle.model.specs.Staging.{spoilt}
use Rattle.model.specs.At88sc1608.{at88sc1608}
use Rattle.laws.specs.CellLaws.{cells_append}
use Rattle.staging.specs.Fuel.{fueled, fueled_append, Writes, WritesRow}
use Rattle.staging.specs.declared.cells.Fuel.{Fuel}

-- ---- one cell

module _ (fuel : Fuel) (place value : ℕ) (c : List ℕ) where
  pub put_none : fuel.cells ≡ 0 → Writes fuel (cell place value ∷ []) c fuel c
  unfolding write_cells
  put_none e = record { cells = rw e; lasts = omega arith; same_junk = refl }

  -- a cell of which v is left
  module _ (v : ℕ) where
    abbrev used : Fuel
    used = record { cells = fuel.cells - 1; junk = fuel.junk }

    pub put_spoilt : fuel.cells ≡ 1 → v ≡ (spoilt at88sc1608 fuel.junk (cell place value)).value → Writes fuel (cell place value ∷ []) c used (set c place v)
    unfolding write_cells
    put_spoilt e q = record { cells = rw (e, q); lasts = refl; same_junk = refl }

    pub put_whole : (fuel.cells ≡ 0 → ⊥) → (fuel.cells ≡ 1 → ⊥) → v ≡ value → Writes fuel (cell place value ∷ []) c used (set c place v)
    unfolding write_cells
    put_whole p q e = record { cells = rw e (go fuel.cells p q); lasts = refl; same_junk = refl }
      where
        go : (n : ℕ) → (n ≡ 0 → ⊥) → (n ≡ 1 → ⊥) → set c place value ≡ write_cells (fueled fuel.junk n (cell place value ∷ [])) c
        go zero p q = absurd (p refl)
        go (suc zero) p q = absurd (q refl)
        go (suc (suc n)) p q = refl

pub ruleset one_cell = (put_none, put_spoilt, put_whole)

-- ---- rows one behind the other

pub behind : (f f' f'' : Fuel) (ws us : List Cell) (c c' c'' : List ℕ) → Writes f ws c f' c' → Writes f' us c' f'' c'' → Writes f (ws ++ us) c f'' c''
behind f f' f'' ws us c c' c'' p q =
    let l = p.lasts in
    let m = q.lasts in
    let n = length-append ws us in
    record {
      cells =
          q.cells ∙ (λ t. write_cells (fueled (p.same_junk t) (p.lasts t) us) (p.cells t))
          ∙ sym (cells_append (fueled f.junk f.cells ws) (fueled f.junk (f.cells - length ws) us) c)
          ∙ ap (λ (vs : List Cell). write_cells vs c) (sym (fueled_append f.junk f.cells ws us));
      lasts = omega arith;
      same_junk = q.same_junk ∙ p.same_junk;
    }

-- ---- a row, one cell after the other

row_next : (place : ℕ → ℕ) (vs : List ℕ) (k : ℕ) → k < length vs → row place (take (suc k) vs) ≡ row place (take k vs) ++ (cell (place k) (at vs k) ∷ [])
row_next place [] k h = absurd (let z : ⊥ = omega arith in z)
row_next place (v ∷ vs) zero h = refl
row_next place (v ∷ vs) (suc k) h = ap (λ (ws : List Cell). cell (place 0) v ∷ ws) (row_next (λ j. place (suc j)) vs k (le_of_suc-le-suc h))

module _ (post : ℕ → ℕ → Type 0) (fuel : Fuel) (vs c : List ℕ) where
  -- what is known when i cells are written or past the fuel
  abbrev pub Putting : (i : ℕ) (fuel' : Fuel) (c' : List ℕ) → Type 0
  Putting i fuel' c' = WritesRow post fuel (take i vs) c fuel' c'

  pub putting_start : Putting 0 fuel c
  unfolding write_cells
  putting_start place given = record { cells = none fuel.cells; lasts = omega arith; same_junk = refl }
    where
      none : (n : ℕ) → c ≡ write_cells (fueled fuel.junk n []) c
      none zero = refl
      none (suc n) = refl

  module _ (i : ℕ) (fuel' : Fuel) (c' : List ℕ) (p : Putting i fuel' c') where
    pub putting_next : (n : ℕ) (fuel'' : Fuel) (c'' : List ℕ) → i < length vs → post i n → Writes fuel' (cell n (at vs i) ∷ []) c' fuel'' c''
        → Putting (i + 1) fuel'' c''
    putting_next n fuel'' c'' more here w place given =
        let m = length-take-le (i + 1) vs (omega arith) in
        let m' = length-take-le i vs (omega arith) in
        let e : n ≡ place i = given i n (omega arith) here in
        let q = p place (λ k x h. given k x (omega arith)) in
        rw (add-one i, row_next place vs i more, ← e) (behind fuel fuel' fuel'' (row place (take i vs)) (cell n (at vs i) ∷ []) c c' c'' q w)

    pub putting_done : length vs ≤ i → WritesRow post fuel vs c fuel' c'
    putting_done h = rw (take_all i vs h) at p
