-- Laws of lists: what is at a place of a table or of a list with one element set, and when two lists are equal.
use Rattle.std.specs.Prelude.{ℕ, zero, suc, ◌+◌, ◌-◌, ◌≤◌, ◌<◌, Bool, true, false, cond, ◌&&◌, List, [], ◌∷◌, ◌++◌, ◌≡◌, refl, ltb, eqb, length, take, drop, set}
use Rattle.std.proofs.Common.{true≢false, append_assoc, append-nil, sym, ap, ◌∙◌, not-suc-le-zero, add-zero, add-suc, add-one, arith, ltb-true, ltb-false, eqb-true, eq-eqb, length-append, length-drop, ext_get_or, get_or-set_same, get_or-set_other, get_or-drop, take-suc}
use Rattle.std.proofs.Math.Nat.{sub-zero}
use Rattle.std.proofs.lemmas.Bool.{eqb-false}
use Rattle.std.proofs.Math.ListN.{get_or-append, get_or-eq_default}
use Rattle.std.proofs.Math.Seq.{set_out, take-nil}
use Rattle.std.proofs.lemmas.List.{get_or_at}
use Rattle.model.specs.Lists.{at, tab, same_list, Bytes}
use Rattle.laws.specs.BoolLaws.{choice, and_left, and_right}

pub no_elements : (xs : List ℕ) → length xs ≡ 0 → xs ≡ []
no_elements [] e = refl
no_elements (x ∷ xs) e = absurd (let z : ⊥ = omega arith in z)

pub length_tab : (f : ℕ → ℕ) (n : ℕ) → length (tab f n) ≡ n
unfolding tab
length_tab f zero = refl
length_tab f (suc n) = length-append (tab f n) (f n ∷ []) ∙ add-one (length (tab f n)) ∙ ap suc (length_tab f n)

pub tab_cong : (f g : ℕ → ℕ) (n : ℕ) → ((i : ℕ) → i < n → f i ≡ g i) → tab f n ≡ tab g n
unfolding tab
tab_cong f g zero e = refl
tab_cong f g (suc n) e =
    let here : f n ≡ g n = e n (omega arith) in
    λ i. tab_cong f g n (λ j h. e j (omega arith)) i ++ (here i ∷ [])

pub at_tab : (f : ℕ → ℕ) (n i : ℕ) → i < n → at (tab f n) i ≡ f i
unfolding tab
at_tab f zero i h = absurd (not-suc-le-zero h)
at_tab f (suc n) i h = go (at_tab f n i) (eqb i n) refl
  where
    go : (i < n → at (tab f n) i ≡ f i) → (t : Bool) → eqb i n ≡ t → at (tab f n ++ (f n ∷ [])) i ≡ f i
    go ih true e =
        let q : i ≡ n = eqb-true i n e in
        rw q (get_or_at (tab f n) (f n) [] 0 n (length_tab f n))
    go ih false e =
        let ne : i ≡ n → ⊥ = eqb-false i n e in
        let l : i < n = omega arith in
        get_or-append (tab f n) (f n ∷ []) 0 i (rw (length_tab f n) l) ∙ ih l

-- a list is the table of its elements
pub tab_list : (l : List ℕ) → tab (at l) (length l) ≡ l
tab_list l =
    ext_get_or 0 (tab (at l) (length l)) l (length_tab (at l) (length l)) (λ i h. at_tab (at l) (length l) i (let n = length_tab (at l) (length l) in omega
    arith))

pub tab_bytes : (f : ℕ → ℕ) (n : ℕ) → ((i : ℕ) → f i < 256) → Bytes (tab f n)
tab_bytes f n b i = go (ltb i n) refl
  where
    go : (t : Bool) → ltb i n ≡ t → at (tab f n) i < 256
    go true e = rw (at_tab f n i (ltb-true i n e)) (b i)
    go false e =
        let l = length_tab f n in
        let o : n ≤ i = ltb-false i n e in
        let past = get_or-eq_default (tab f n) 0 (let h : length (tab f n) ≤ i = omega arith in h) in omega arith

pub tab_add : (f : ℕ → ℕ) (m n : ℕ) → tab f (m + n) ≡ tab f m ++ tab (λ k. f (m + k)) n
unfolding tab
tab_add f m zero = ap (tab f) (add-zero m) ∙ sym (append-nil (tab f m))
tab_add f m (suc n) =
    ap (tab f) (add-suc m n)
    ∙ ap (λ (x : List ℕ). x ++ (f (m + n) ∷ [])) (tab_add f m n)
    ∙ append_assoc (tab f m) (tab (λ k. f (m + k)) n) (f (m + n) ∷ [])

-- a part of a list
pub tab_part : (l : List ℕ) (i n : ℕ) → i + n ≤ length l → tab (λ k. at l (i + k)) n ≡ take n (drop i l)
unfolding tab
tab_part l i zero h = refl
tab_part l i (suc n) h =
    let d = length-drop i l in
    let e = sym (get_or-drop i l n 0) in
    (λ t. tab_part l i n (omega arith) t ++ (e t ∷ [])) ∙ sym (take-suc (drop i l) n 0 (omega arith))

-- the end of a front
pub drop_take : (m n : ℕ) (l : List ℕ) → drop m (take n l) ≡ take (n - m) (drop m l)
drop_take zero n l = ap (λ (k : ℕ). take k l) (sym (sub-zero n))
drop_take (suc m) zero l =
    let z : 0 - suc m ≡ 0 = omega arith in
    sym (ap (λ (k : ℕ). take k (drop (suc m) l)) z)
drop_take (suc m) (suc n) [] = sym (take-nil (suc n - suc m))
drop_take (suc m) (suc n) (x ∷ xs) =
    let z : n - m ≡ suc n - suc m = omega arith in
    drop_take m n xs ∙ ap (λ (k : ℕ). take k (drop m xs)) z

pub at_set : (c : List ℕ) (i v j : ℕ) → at (set c i v) j ≡ cond (eqb j i && ltb i (length c)) v (at c j)
at_set c i v j = go (eqb j i) (ltb i (length c)) refl refl
  where
    go : (e l : Bool) → eqb j i ≡ e → ltb i (length c) ≡ l → at (set c i v) j ≡ cond (e && l) v (at c j)
    go true true p q = let r : j ≡ i = eqb-true j i p in rw r (get_or-set_same c i v 0 (ltb-true _ _ q))
    go true false p q = rw (set_out c i v (ltb-false _ _ q))
    go false l p q = get_or-set_other c i j v 0 (eqb-false j i p)

-- a place other than the one that is set keeps its element
pub at_set_other : (c : List ℕ) (i v j : ℕ) → (j ≡ i → ⊥) → at (set c i v) j ≡ at c j
at_set_other c i v j ne = get_or-set_other c i j v 0 ne

-- a place keeps its element also where the new one is the old one
pub at_set_kept : (c : List ℕ) (i v j : ℕ) → (j ≡ i → v ≡ at c j) → at (set c i v) j ≡ at c j
at_set_kept c i v j h = at_set c i v j ∙ go (eqb j i && ltb i (length c)) refl
  where
    go : (t : Bool) → (eqb j i && ltb i (length c)) ≡ t → cond t v (at c j) ≡ at c j
    go true e = h (eqb-true j i (and_left _ _ e))
    go false e = refl

-- what holds of the new element and of the old one at a place holds of the one that is there
pub at_set_either : (P : ℕ → Type 0) (c : List ℕ) (i v j : ℕ) → P v → P (at c j) → P (at (set c i v) j)
at_set_either P c i v j p q = rw (at_set c i v j) (choice P (eqb j i && ltb i (length c)) v (at c j) p q)

pub same_list_true : (xs ys : List ℕ) → same_list xs ys ≡ true → xs ≡ ys
unfolding same_list
same_list_true [] [] e = refl
same_list_true [] (y ∷ ys) e = absurd (true≢false (sym e))
same_list_true (x ∷ xs) [] e = absurd (true≢false (sym e))
same_list_true (x ∷ xs) (y ∷ ys) e =
    let p = eqb-true x y (and_left (eqb x y) _ e) in
    let q = same_list_true xs ys (and_right (eqb x y) _ e) in
    λ i. p i ∷ q i

pub same_list_refl : (xs : List ℕ) → same_list xs xs ≡ true
unfolding same_list
same_list_refl [] = refl
same_list_refl (x ∷ xs) = rw (eq-eqb x x refl) (same_list_refl xs)

pub same_list_false : (xs ys : List ℕ) → (xs ≡ ys → ⊥) → same_list xs ys ≡ false
same_list_false xs ys ne = go (same_list xs ys) refl
  where
    go : (t : Bool) → same_list xs ys ≡ t → t ≡ false
    go true e = absurd (ne (same_list_true xs ys e))
    go false e = refl
