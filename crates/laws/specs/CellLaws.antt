-- Laws of cell writes: which places keep their bytes, what a row leaves, and what is written of a row that is torn.
use Rattle.std.specs.Prelude.{ℕ, zero, suc, ◌+◌, ◌≤◌, ◌<◌, List, [], ◌∷◌, ◌++◌, ◌≡◌, refl, length, set, take, get_or}
use Rattle.std.proofs.Common.{ap, ◌∙◌, le_of_suc-le-suc, arith, length-set, get_or-set_same}
use Rattle.model.specs.Lists.{at, stores}
use Rattle.model.specs.Cells.{Cell, cell, write_cells, row, torn}
use Rattle.laws.specs.ListLaws.{at_set_other}

pub length_cells : (ws : List Cell) (c : List ℕ) → length (write_cells ws c) ≡ length c
unfolding write_cells
length_cells [] c = refl
length_cells (w ∷ ws) c = length_cells ws (set c w.place w.value) ∙ length-set c w.place w.value

pub length_row : (place : ℕ → ℕ) (vs : List ℕ) → length (row place vs) ≡ length vs
length_row place [] = refl
length_row place (v ∷ vs) = ap suc (length_row (λ k. place (suc k)) vs)

pub cells_append : (ws us : List Cell) (c : List ℕ) → write_cells (ws ++ us) c ≡ write_cells us (write_cells ws c)
unfolding write_cells
cells_append [] us c = refl
cells_append (w ∷ ws) us c = cells_append ws us (set c w.place w.value)

pub cells_one : (i v : ℕ) (c : List ℕ) → write_cells (cell i v ∷ []) c ≡ set c i v
unfolding write_cells
cells_one i v c = refl

-- ---- what is kept

-- what holds of the place of every cell
abbrev pub Places : (ℕ → Type 0) → List Cell → Type 0
Places P [] = Unit {0}
Places P (w ∷ ws) = P w.place × Places P ws

pub places_append : (P : ℕ → Type 0) (ws us : List Cell) → Places P ws → Places P us → Places P (ws ++ us)
places_append P [] us p q = q
places_append P (w ∷ ws) us p q = (p.0, places_append P ws us p.1 q)

pub places_row : (P : ℕ → Type 0) (place : ℕ → ℕ) (vs : List ℕ) → ((k : ℕ) → k < length vs → P (place k)) → Places P (row place vs)
places_row P place [] h = tt
places_row P place (v ∷ vs) h = (h 0 (omega arith), places_row P (λ k. place (suc k)) vs (λ k l. h (suc k) (omega arith)))

-- a spoilt cell is in its place
pub places_torn : (P : ℕ → Type 0) (spoilt : Cell → Cell) → ((w : Cell) → (spoilt w).place ≡ w.place) → (k : ℕ) (ws : List Cell) → Places P ws
    → Places P (torn spoilt k ws)
places_torn P spoilt same k [] p = tt
places_torn P spoilt same zero (w ∷ ws) p = (rw (same w) p.0, tt)
places_torn P spoilt same (suc k) (w ∷ ws) p = (p.0, places_torn P spoilt same k ws p.1)

pub cells_keep : (j : ℕ) (ws : List Cell) (c : List ℕ) → Places (λ i. j ≡ i → ⊥) ws → at (write_cells ws c) j ≡ at c j
unfolding write_cells
cells_keep j [] c p = refl
cells_keep j (w ∷ ws) c p = cells_keep j ws (set c w.place w.value) p.1 ∙ at_set_other c w.place w.value j p.0

-- ---- what a row leaves, at places apart from each other and within the list

pub row_at : (place : ℕ → ℕ) (vs c : List ℕ) → ((k : ℕ) → k < length vs → place k < length c)
    → ((j k : ℕ) → j < length vs → k < length vs → place j ≡ place k → j ≡ k)
    → (j : ℕ) → j < length vs → at (write_cells (row place vs) c) (place j) ≡ at vs j
unfolding write_cells
row_at place [] c within apart j h = absurd (let z : ⊥ = omega arith in z)
row_at place (v ∷ vs) c within apart zero h =
    cells_keep (place 0) (row (λ k. place (suc k)) vs) (set c (place 0) v)
    (places_row _ _ vs (λ k l e. let z : 0 ≡ suc k = apart 0 (suc k) (omega arith) (omega arith) e in omega arith))
    ∙ get_or-set_same c (place 0) v 0 (within 0 (omega arith))
row_at place (v ∷ vs) c within apart (suc j) h =
    row_at (λ k. place (suc k)) vs (set c (place 0) v)
    (λ k l. let w = within (suc k) (omega arith) in let n = length-set c (place 0) v in omega arith)
    (λ i k l m e. let z : suc i ≡ suc k = apart (suc i) (suc k) (omega arith) (omega arith) e in omega arith)
    j (le_of_suc-le-suc h)

-- ---- a row that is torn

-- the tear falls into the first of two rows, or behind it
pub data Falls (spoilt : Cell → Cell) (k : ℕ) (xs ys : List Cell) : Type 0 where
  within : torn spoilt k (xs ++ ys) ≡ torn spoilt k xs → Falls spoilt k xs ys
  past : (m : ℕ) → torn spoilt k (xs ++ ys) ≡ xs ++ torn spoilt m ys → Falls spoilt k xs ys

pub falls : (spoilt : Cell → Cell) (k : ℕ) (xs ys : List Cell) → Falls spoilt k xs ys
falls spoilt k [] ys = past k refl
falls spoilt zero (x ∷ xs) ys = within refl
falls spoilt (suc k) (x ∷ xs) ys = go (falls spoilt k xs ys)
  where
    go : Falls spoilt k xs ys → Falls spoilt (suc k) (x ∷ xs) ys
    go (within e) = within (ap (λ (ws : List Cell). x ∷ ws) e)
    go (past m e) = past m (ap (λ (ws : List Cell). x ∷ ws) e)

-- a tear behind the last cell spoils none
pub torn_none : (spoilt : Cell → Cell) (k : ℕ) (ws : List Cell) → length ws ≤ k → torn spoilt k ws ≡ ws
torn_none spoilt k [] h = refl
torn_none spoilt zero (w ∷ ws) h = absurd (let z : ⊥ = omega arith in z)
torn_none spoilt (suc k) (w ∷ ws) h = ap (λ (us : List Cell). w ∷ us) (torn_none spoilt k ws (le_of_suc-le-suc h))

-- one before it leaves the cells before it, and spoils the next one
pub torn_take : (spoilt : Cell → Cell) (k : ℕ) (ws : List Cell) (default : Cell) → k < length ws
    → torn spoilt k ws ≡ take k ws ++ (spoilt (get_or ws k default) ∷ [])
torn_take spoilt k [] default h = absurd (let z : ⊥ = omega arith in z)
torn_take spoilt zero (w ∷ ws) default h = refl
torn_take spoilt (suc k) (w ∷ ws) default h = ap (λ (us : List Cell). w ∷ us) (torn_take spoilt k ws default (le_of_suc-le-suc h))

-- ---- stores one after the other, at places apart from each other: what is at the place of one of them, and at any other place

pub stores_other : (rule : ℕ → ℕ → ℕ → ℕ) (place : ℕ → ℕ) (xs : List ℕ) (n i : ℕ) (c : List ℕ) → ((k : ℕ) → k < length xs → i ≡ place (n + k) → ⊥)
    → at (stores rule place xs n c) i ≡ at c i
unfolding stores
stores_other rule place [] n i c h = refl
stores_other rule place (x ∷ xs) n i c h =
    stores_other rule place xs (suc n) i (set c (place n) (rule (place n) (at c (place n)) x))
    (λ k l e. h (suc k) (omega arith) (e ∙ ap place (let q : suc n + k ≡ n + suc k = omega arith in q)))
    ∙ at_set_other c (place n) _ i (λ e. h 0 (omega arith) (e ∙ ap place (let q : n ≡ n + 0 = omega arith in q)))

pub stores_at : (rule : ℕ → ℕ → ℕ → ℕ) (place : ℕ → ℕ) (xs : List ℕ) (n : ℕ) (c : List ℕ) → ((k : ℕ) → k < length xs → place (n + k) < length c)
    → ((j k : ℕ) → j < length xs → k < length xs → place (n + j) ≡ place (n + k) → j ≡ k)
    → (j : ℕ) → j < length xs → at (stores rule place xs n c) (place (n + j)) ≡ rule (place (n + j)) (at c (place (n + j))) (at xs j)
unfolding stores
stores_at rule place [] n c inside apart j h = absurd (let z : ⊥ = omega arith in z)
stores_at rule place (x ∷ xs) n c inside apart zero h =
    let q : n + 0 ≡ n = omega arith in
    rw q
    (stores_other rule place xs (suc n) (place n) (set c (place n) (rule (place n) (at c (place n)) x))
    (λ k l e. let w : 0 ≡ suc k = apart 0 (suc k) (omega arith) (omega arith)
    (ap place q ∙ e ∙ ap place (let r : suc n + k ≡ n + suc k = omega arith in r)) in omega arith)
    ∙ get_or-set_same c (place n) _ 0 (rw q at (inside 0 (omega arith))))
stores_at rule place (x ∷ xs) n c inside apart (suc j) h =
    let q : n + suc j ≡ suc n + j = omega arith in
    let d : List ℕ = set c (place n) (rule (place n) (at c (place n)) x) in
    rw q
    (stores_at rule place xs (suc n) d
    (λ k l. let w = inside (suc k) (omega arith) in let r : suc n + k ≡ n + suc k = omega arith in
    rw (r, length-set c (place n) (rule (place n) (at c (place n)) x)) w)
    (λ i k l m e. let r : suc n + i ≡ n + suc i = omega arith in let t : suc n + k ≡ n + suc k = omega arith in
    let w : suc i ≡ suc k = apart (suc i) (suc k) (omega arith) (omega arith) (rw (r, t) at e) in omega arith)
    j (le_of_suc-le-suc h)
    ∙ ap (λ (v : ℕ). rule (place (suc n + j)) v (at xs j))
    (at_set_other c (place n) _ (place (suc n + j))
    (λ e. let w : suc j ≡ 0 = apart (suc j) 0 (omega arith) (omega arith) (rw q e ∙ ap place (let r : n ≡ n + 0 = omega arith in r)) in omega arith)))
