-- A rule over a table or over all bytes: one test that is computed at every number below n, and the law that turns it into the
-- rule at each.
use Rattle.std.specs.Prelude.{ℕ, zero, suc, ◌+◌, ◌≤◌, ◌<◌, Bool, true, false, not, ◌&&◌, ◌≡◌, refl, eqb}
use Rattle.std.proofs.Common.{true≢false, sym, not-suc-le-zero, arith, eqb-true}
use Rattle.std.proofs.lemmas.Bool.{eqb-false}
use Rattle.laws.specs.BoolLaws.{and_left, and_right}

-- the test passes at 0, .., n - 1
abbrev pub every_below : (ℕ → Bool) → ℕ → Bool
every_below f zero = true
every_below f (suc n) = f n && every_below f n

pub passes_at : (f : ℕ → Bool) (n : ℕ) → every_below f n ≡ true → (k : ℕ) → k < n → f k ≡ true
passes_at f zero e k h = absurd (not-suc-le-zero h)
passes_at f (suc n) e k h = go (passes_at f n (and_right (f n) (every_below f n) e) k) (eqb k n) refl
  where
    go : (k < n → f k ≡ true) → (t : Bool) → eqb k n ≡ t → f k ≡ true
    go ih true q = let r : k ≡ n = eqb-true k n q in rw r (and_left (f n) (every_below f n) e)
    go ih false q = let r : k ≡ n → ⊥ = eqb-false k n q in ih (omega arith)

pub agree_at : (f g : ℕ → ℕ) (n : ℕ) → every_below (λ k. eqb (f k) (g k)) n ≡ true → (k : ℕ) → k < n → f k ≡ g k
agree_at f g n e k h = eqb-true (f k) (g k) (passes_at (λ i. eqb (f i) (g i)) n e k h)

-- two tests with one outcome
abbrev pub alike : Bool → Bool → Bool
alike true b = b
alike false b = not b

alike_same : (a b : Bool) → alike a b ≡ true → a ≡ b
alike_same true true e = refl
alike_same true false e = absurd (true≢false (sym e))
alike_same false true e = absurd (true≢false (sym e))
alike_same false false e = refl

pub tests_at : (f g : ℕ → Bool) (n : ℕ) → every_below (λ k. alike (f k) (g k)) n ≡ true → (k : ℕ) → k < n → f k ≡ g k
tests_at f g n e k h = alike_same (f k) (g k) (passes_at (λ i. alike (f i) (g i)) n e k h)

-- proofs of P at i, .., i + n - 1
abbrev pub Each : (ℕ → Type 0) → ℕ → ℕ → Type 0
Each P i zero = Unit {0}
Each P i (suc n) = P i × Each P (suc i) n

pub each : (P : ℕ → Type 0) (i n : ℕ) → Each P i n → (k : ℕ) → i ≤ k → k < i + n → P k
each P i zero p k l h = absurd (let z : ⊥ = omega arith in z)
each P i (suc n) p k l h = go (each P (suc i) n p.1 k) (eqb k i) refl
  where
    go : (suc i ≤ k → k < suc i + n → P k) → (t : Bool) → eqb k i ≡ t → P k
    go ih true q = let r : k ≡ i = eqb-true k i q in rw r p.0
    go ih false q = let r : k ≡ i → ⊥ = eqb-false k i q in ih (omega arith) (omega arith)
