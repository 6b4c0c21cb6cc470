-- Laws for code that fills an answer or stores bytes one after the other: what holds before a turn gives what holds after it.
-- And the tests of an if as facts, in one set for `search`.
use Prim.Native.Nat.{ℕ, suc, ◌+◌, ◌≤◌, ◌<◌}
use mathlib.Core.List.{List, [], ◌∷◌, ◌++◌, append_assoc}
use Rattle.std.specs.Prelude.{◌≡◌, refl, length, drop, set}
use Rattle.std.proofs.Math.Path.{sym, ap}
use Rattle.std.proofs.Common.{◌∙◌, le_antisymm, add-one, arith, rules, lt-ltb, le-ltb, le-leb, eq-eqb, ne_eqb, drop_of_length-le, length-set, drop-cons}
use Rattle.std.proofs.lemmas.Bool.{lt-leb}
use Rattle.std.proofs.Math.ListN.{take, take-append-drop}
use Rattle.std.proofs.lemmas.List.{set_at, set-get_or, take-set-le}
use Rattle.std.proofs.Math.Seq.{get_or-take, get_or-drop, take-set-lt, drop-set-lt, drop-set-add}
use Rattle.model.specs.Lists.{at, tab, stores}
use Rattle.laws.specs.ListLaws.{length_tab}

pub ruleset tests = (rules, lt-ltb, le-ltb, le-leb, lt-leb, eq-eqb, ne_eqb)

-- ---- an answer at the front of a space

pub tab_start : (f : ℕ → ℕ) (d : List ℕ) → d ≡ tab f 0 ++ drop 0 d
unfolding tab
tab_start f d = refl

pub tab_next : (f : ℕ → ℕ) (n v m : ℕ) (d l : List ℕ) → l ≡ tab f n ++ drop n d → n < m → m ≤ length d → v ≡ f n
    → set l n v ≡ tab f (n + 1) ++ drop (n + 1) d
unfolding tab
tab_next f n v m d l e h k q =
    let w : n < length d = omega arith in
    ap (λ (x : List ℕ). set x n v) (e ∙ ap (λ (x : List ℕ). tab f n ++ x) (drop-cons d n 0 w))
    ∙ set_at (tab f n) (at d n) (drop (suc n) d) v n (length_tab f n)
    ∙ ap (λ (x : ℕ). tab f n ++ (x ∷ drop (suc n) d)) q
    ∙ rw (add-one n) (sym (append_assoc (tab f n) (f n ∷ []) (drop (suc n) d)))

pub tab_done : (f : ℕ → ℕ) (i n : ℕ) (d l : List ℕ) → l ≡ tab f i ++ drop i d → i ≤ n → n ≤ i → l ≡ tab f n ++ drop n d
tab_done f i n d l e h k = let q : i ≡ n = le_antisymm h k in rw (← q) e

-- the last element of the space
pub tab_last : (f : ℕ → ℕ) (n v : ℕ) (d l : List ℕ) → l ≡ tab f n ++ drop n d → length d ≡ suc n → set l n v ≡ tab f n ++ (v ∷ [])
tab_last f n v d l e h =
    ap (λ (x : List ℕ). set x n v) (e ∙ ap (λ (x : List ℕ). tab f n ++ x) (drop-cons d n 0 (omega arith)))
    ∙ set_at (tab f n) (at d n) (drop (suc n) d) v n (length_tab f n)
    ∙ ap (λ (x : List ℕ). tab f n ++ (v ∷ x)) (drop_of_length-le d {i = suc n} (omega arith))

-- ---- stores

pub stores_next : (rule : ℕ → ℕ → ℕ → ℕ) (cell : ℕ → ℕ) (xs s c : List ℕ) (k i v : ℕ) → stores rule cell (drop k xs) k c ≡ s → k < length xs → i ≡ cell k
    → v ≡ rule i (at c i) (at xs k) → stores rule cell (drop (k + 1) xs) (k + 1) (set c i v) ≡ s
unfolding stores
stores_next rule cell xs s c k i v e h q w = rw (w, q, add-one k) (rw (drop-cons xs k 0 h) at e)

pub stores_done : (rule : ℕ → ℕ → ℕ → ℕ) (cell : ℕ → ℕ) (xs s c : List ℕ) (k : ℕ) → stores rule cell (drop k xs) k c ≡ s → length xs ≤ k → c ≡ s
unfolding stores
stores_done rule cell xs s c k e h = rw (drop_of_length-le xs h) at e

-- two rules and two maps that agree at the cells
pub stores_cong : (rule rule' : ℕ → ℕ → ℕ → ℕ) (cell cell' : ℕ → ℕ) → ((k : ℕ) → cell k ≡ cell' k)
    → ((k old new : ℕ) → rule (cell k) old new ≡ rule' (cell k) old new)
    → (xs : List ℕ) (k : ℕ) (c : List ℕ) → stores rule cell xs k c ≡ stores rule' cell' xs k c
unfolding stores
stores_cong rule rule' cell cell' p r [] k c = refl
stores_cong rule rule' cell cell' p r (x ∷ xs) k c =
    stores_cong rule rule' cell cell' p r xs (suc k) (set c (cell k) (rule (cell k) (at c (cell k)) x))
    ∙ ap (λ (v : ℕ). stores rule' cell' xs (suc k) (set c (cell k) v)) (r k (at c (cell k)) x)
    ∙ ap (λ (i : ℕ). stores rule' cell' xs (suc k) (set c i (rule' i (at c i) x))) (p k)

-- a rule that keeps what every cell holds
pub stores_kept : (rule : ℕ → ℕ → ℕ → ℕ) (cell : ℕ → ℕ) → ((k old new : ℕ) → rule (cell k) old new ≡ old) → (xs : List ℕ) (k : ℕ) (c : List ℕ)
    → stores rule cell xs k c ≡ c
unfolding stores
stores_kept rule cell r [] k c = refl
stores_kept rule cell r (x ∷ xs) k c = rw (r k (at c (cell k)) x, set-get_or c (cell k) 0) (stores_kept rule cell r xs (suc k) c)

-- Stores into a part of w elements from base on, which is put back where it was taken from: stores into the whole.
module _ (rule rule' : ℕ → ℕ → ℕ → ℕ) (cell : ℕ → ℕ) (base w : ℕ) (inside : (k : ℕ) → cell k < w)
    (alike : (k old new : ℕ) → rule' (base + cell k) old new ≡ rule (cell k) old new) where
  pub stores_part : (xs : List ℕ) (k : ℕ) (c : List ℕ) → base + w ≤ length c
      → take base c ++ (stores rule cell xs k (take w (drop base c)) ++ drop w (drop base c)) ≡ stores rule' (λ n. base + cell n) xs k c
  unfolding stores
  stores_part [] k c h = ap (λ (l : List ℕ). take base c ++ l) (take-append-drop w (drop base c)) ∙ take-append-drop base c
  stores_part (x ∷ xs) k c h =
      let i : ℕ = cell k in
      let v : ℕ = rule i (at (take w (drop base c)) i) x in
      let l : i < w = inside k in
      let e : at (take w (drop base c)) i ≡ at c (base + i) = get_or-take w (drop base c) i 0 l ∙ get_or-drop base c i 0 in
      let ih = stores_part xs (suc k) (set c (base + i) v) (rw (length-set c (base + i) v) h) in
      rw (take-set-le base c (base + i) v (omega arith), drop-set-add base c i v, take-set-lt w (drop base c) i v l, drop-set-lt w (drop base c) i v l) at ih
      ∙ ap (λ (n : ℕ). stores rule' (λ m. base + cell m) xs (suc k) (set c (base + i) n)) (ap (λ (o : ℕ). rule i o x) e ∙ sym (alike k (at c (base + i)) x))
