-- Laws of numbers of more than one byte, once over the width; and of runs of bytes put into a list.
use Rattle.std.specs.Prelude.{ℕ, zero, suc, ◌+◌, ◌*◌, ◌/◌, ◌%◌, ◌^◌, ◌≤◌, ◌<◌, Bool, true, false, List, [], ◌∷◌, ◌++◌, ◌↔◌, ◌≡◌, refl, eqb, length, take, drop, set}
use Rattle.std.proofs.Common.{sym, ap, ◌∙◌, add-suc, add-zero, suc-add, pow-suc, add-one, arith, eqb-true, get_or-append-add, drop-cons, take_all}
use Rattle.std.proofs.Math.Numerals.{add-two}
use Rattle.std.proofs.lemmas.Bool.{eqb-false}
use Rattle.std.proofs.lemmas.List.Edits.{sets, sets-eq}
use Rattle.model.specs.Lists.{at, Bytes, same_list}
use Rattle.model.specs.Numbers.{bytes_of, number_at}
use Rattle.laws.specs.ListLaws.{same_list_refl, same_list_false}

pub length_bytes : (w n : ℕ) → length (bytes_of w n) ≡ w
length_bytes zero n = refl
length_bytes (suc w) n = ap suc (length_bytes w (n / 256))

-- a number behind a prefix
pub number_append : (p q : List ℕ) (i w : ℕ) → number_at (p ++ q) (length p + i) w ≡ number_at q i w
number_append p q i zero = refl
number_append p q i (suc w) =
    λ j. get_or-append-add p q i 0 j + 256 * (ap (λ (k : ℕ). number_at (p ++ q) k w) (sym (add-suc (length p) i)) ∙ number_append p q (suc i) w) j

number_cons : (x : ℕ) (s : List ℕ) (i w : ℕ) → number_at (x ∷ s) (suc i) w ≡ number_at s i w
number_cons x s i zero = refl
number_cons x s i (suc w) = ap (λ (n : ℕ). at s i + 256 * n) (number_cons x s (suc i) w)

-- what was written is read
pub number_bytes : (w n : ℕ) (q : List ℕ) → n < 256 ^ w → number_at (bytes_of w n ++ q) 0 w ≡ n
number_bytes zero n q h = let e : n < 1 = h in omega arith
number_bytes (suc w) n q h =
    let g : n < 256 ^ w * 256 = rw pow-suc at h in
    let k : n / 256 < 256 ^ w = omega arith in
    let e : number_at (bytes_of (suc w) n ++ q) 1 w ≡ n / 256 = number_cons (n % 256) (bytes_of w (n / 256) ++ q) 0 w ∙ number_bytes w (n / 256) q k in
    ap (λ (m : ℕ). n % 256 + 256 * m) e ∙ (omega arith)

-- and the other way round, where the list holds bytes
pub bytes_number : (w : ℕ) (s : List ℕ) (i : ℕ) → Bytes s → i + w ≤ length s → bytes_of w (number_at s i w) ≡ take w (drop i s)
bytes_number zero s i b h = refl
bytes_number (suc w) s i b h =
    let l : at s i < 256 = b i in
    let m : (at s i + 256 * number_at s (suc i) w) % 256 ≡ at s i = omega arith in
    let d : (at s i + 256 * number_at s (suc i) w) / 256 ≡ number_at s (suc i) w = omega arith in
    (λ j. m j ∷ (ap (bytes_of w) d ∙ bytes_number w s (suc i) b (omega arith)) j) ∙ ap (take (suc w)) (sym (drop-cons s i 0 (omega arith)))

bytes_whole : (w : ℕ) (s : List ℕ) → Bytes s → length s ≡ w → bytes_of w (number_at s 0 w) ≡ s
bytes_whole w s b l = bytes_number w s 0 b (omega arith) ∙ take_all w s (omega arith)

-- lists of bytes of one width have equal numbers exactly when they are equal
pub equal_numbers : (w : ℕ) (s t : List ℕ) → Bytes s → Bytes t → length s ≡ w → length t ≡ w → (number_at s 0 w ≡ number_at t 0 w) ↔ (s ≡ t)
equal_numbers w s t b c l m = ((λ e. sym (bytes_whole w s b l) ∙ ap (bytes_of w) e ∙ bytes_whole w t c m), ap (λ (x : List ℕ). number_at x 0 w))

-- the same as tests
pub numbers_tested : (w : ℕ) (s t : List ℕ) → Bytes s → Bytes t → length s ≡ w → length t ≡ w
    → eqb (number_at s 0 w) (number_at t 0 w) ≡ same_list s t
numbers_tested w s t b c l m = go (eqb (number_at s 0 w) (number_at t 0 w)) refl
  where
    same : (number_at s 0 w ≡ number_at t 0 w) ↔ (s ≡ t)
    same = equal_numbers w s t b c l m

    go : (r : Bool) → eqb (number_at s 0 w) (number_at t 0 w) ≡ r → r ≡ same_list s t
    go true e = rw (same.0 (eqb-true _ _ e)) (sym (same_list_refl t))
    go false e = sym (same_list_false s t (λ q. eqb-false _ _ e (same.1 q)))

pub number_small : (w : ℕ) (s : List ℕ) (i : ℕ) → Bytes s → number_at s i w < 256 ^ w
number_small zero s i b = omega arith
number_small (suc w) s i b = let h = number_small w s (suc i) b in let l = b i in rw pow-suc (omega arith)

-- three bytes, one by one
pub number_three : (s : List ℕ) (i : ℕ) → number_at (at s i ∷ at s (i + 1) ∷ at s (i + 2) ∷ []) 0 3 ≡ number_at s i 3
number_three s i = rw (add-one, add-two)

-- four bytes are twice two
pub number_four : (s : List ℕ) (i : ℕ) → number_at s i 4 ≡ number_at s i 2 + 65536 * number_at s (i + 2) 2
number_four s i = rw add-two (omega arith)

-- ---- runs of bytes put into a list

pub sets_append : (l : List ℕ) (i : ℕ) (xs ys : List ℕ) → sets (sets l i xs) (i + length xs) ys ≡ sets l i (xs ++ ys)
sets_append l i [] ys = ap (λ (k : ℕ). sets l k ys) (add-zero i)
sets_append l i (x ∷ xs) ys =
    ap (λ (k : ℕ). sets (sets (set l i x) (suc i) xs) k ys) (add-suc i (length xs) ∙ sym (suc-add i (length xs))) ∙ sets_append (set l i x) (suc i) xs ys

pub sets_front : (l vs : List ℕ) → length vs ≤ length l → sets l 0 vs ≡ vs ++ drop (length vs) l
sets_front l vs h = sets-eq vs l 0 (omega arith) ∙ ap (λ (k : ℕ). vs ++ drop k l) (let e : 0 + length vs ≡ length vs = omega arith in e)
