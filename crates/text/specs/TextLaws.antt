-- Laws of the text: decimal numbers by their last digit, and how long lines are.
use Rattle.std.specs.Prelude.{ℕ, zero, suc, ◌+◌, ◌*◌, ◌/◌, ◌%◌, ◌^◌, ◌≤◌, ◌<◌, Bool, true, false, cond, List, [], ◌∷◌, ◌++◌, ◌≡◌, refl, ltb, length}
use Rattle.std.proofs.Common.{append_assoc, append-nil, sym, ap, ◌∙◌, arith, pow-suc, ltb-false, lt-ltb, le-ltb, length-append}
use Rattle.text.specs.Text.{hex, hexes, digits, decimal, decimals, line}
use Rattle.model.specs.Lists.{tab}

-- as many digits as are enough give the same
digits_enough : (j k n : ℕ) → n < j → n < k → digits j n ≡ digits k n
digits_enough zero k n g h = absurd (let z : ⊥ = omega arith in z)
digits_enough (suc j) zero n g h = absurd (let z : ⊥ = omega arith in z)
digits_enough (suc j) (suc k) n g h = go (digits_enough j k (n / 10)) (ltb n 10) refl
  where
    go : (n / 10 < j → n / 10 < k → digits j (n / 10) ≡ digits k (n / 10)) → (t : Bool) → ltb n 10 ≡ t
        → cond t ((0x30 + n) ∷ []) (digits j (n / 10) ++ ((0x30 + n % 10) ∷ [])) ≡ cond t ((0x30 + n) ∷ []) (digits k (n / 10) ++ ((0x30 + n % 10) ∷ []))
    go ih true e = refl
    go ih false e = let l : 10 ≤ n = ltb-false n 10 e in ap (λ (x : List ℕ). x ++ ((0x30 + n % 10) ∷ [])) (ih (omega arith) (omega arith))

pub decimal_one : (n : ℕ) → n < 10 → decimal n ≡ (0x30 + n) ∷ []
unfolding decimal
decimal_one n h = rw (lt-ltb _ _ h)

pub decimal_more : (n : ℕ) → 10 ≤ n → decimal n ≡ decimal (n / 10) ++ ((0x30 + n % 10) ∷ [])
unfolding decimal
decimal_more n h = rw (le-ltb _ _ h) (ap (λ (x : List ℕ). x ++ ((0x30 + n % 10) ∷ [])) (digits_enough n (suc (n / 10)) (n / 10) (omega arith) (omega arith)))

-- ---- lengths

digits_few : (k w n : ℕ) → n < 10 ^ suc w → length (digits k n) ≤ suc w
digits_few zero w n h = omega arith
digits_few (suc k) w n h = go (ltb n 10) refl w h (λ v. digits_few k v (n / 10))
  where
    go : (t : Bool) → ltb n 10 ≡ t → (w : ℕ) → n < 10 ^ suc w → ((v : ℕ) → n / 10 < 10 ^ suc v → length (digits k (n / 10)) ≤ suc v)
        → length (cond t ((0x30 + n) ∷ []) (digits k (n / 10) ++ ((0x30 + n % 10) ∷ []))) ≤ suc w
    go true e w h ih = omega arith
    go false e zero h ih = absurd (let l : 10 ≤ n = ltb-false n 10 e in let p : 10 ^ 1 ≡ 10 = refl in let z : ⊥ = omega arith in z)
    go false e (suc v) h ih =
        let p : 10 ^ suc (suc v) ≡ 10 ^ suc v * 10 = pow-suc 10 (suc v) in
        let i = ih v (omega arith) in
        let a = length-append (digits k (n / 10)) ((0x30 + n % 10) ∷ []) in
        omega arith

-- a record's number has at most four digits
pub decimal_few : (n : ℕ) → n < 10000 → length (decimal n) ≤ 4
unfolding decimal
decimal_few n h = digits_few (suc n) 3 n h

pub hexes_length : (bs : List ℕ) → length (hexes bs) ≡ 3 * length bs
hexes_length [] = refl
hexes_length (b ∷ bs) = let i = hexes_length bs in omega arith

pub line_length : (number kind : ℕ) (response : List ℕ) → number < 10000 → length (line number kind response) ≤ 3 * length response + 8
line_length number kind response h =
    let d = decimal_few number h in
    let x = hexes_length (kind ∷ response) in
    let a = length-append (decimal number) (hexes (kind ∷ response) ++ (0x0A ∷ [])) in
    let b = length-append (hexes (kind ∷ response)) (0x0A ∷ []) in
    omega arith

pub hexes_append : (xs ys : List ℕ) → hexes (xs ++ ys) ≡ hexes xs ++ hexes ys
hexes_append [] ys = refl
hexes_append (x ∷ xs) ys = ap (λ (t : List ℕ). hex x ++ t) (hexes_append xs ys)

pub decimals_last : (xs : List ℕ) (x : ℕ) → decimals (xs ++ (x ∷ [])) ≡ decimals xs ++ (0x20 ∷ decimal x)
decimals_last [] x = append-nil (0x20 ∷ decimal x)
decimals_last (y ∷ xs) x =
    ap (λ (t : List ℕ). (0x20 ∷ decimal y) ++ t) (decimals_last xs x) ∙ sym (append_assoc (0x20 ∷ decimal y) (decimals xs) (0x20 ∷ decimal x))

-- numbers of one digit each
pub decimals_tab : (f : ℕ → ℕ) → ((k : ℕ) → f k < 10) → (n : ℕ) → length (decimals (tab f n)) ≡ 2 * n
unfolding tab
decimals_tab f h zero = refl
decimals_tab f h (suc n) =
    let i = decimals_tab f h n in
    let a = ap length (decimals_last (tab f n) (f n)) ∙ length-append (decimals (tab f n)) (0x20 ∷ decimal (f n)) in
    let d = ap length (decimal_one (f n) (h n)) in
    omega arith
