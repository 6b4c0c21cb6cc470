-- Laws of the 1 bits among the n lowest of a number.
use Rattle.std.specs.Prelude.{ℕ, zero, suc, ◌+◌, ◌-◌, ◌*◌, ◌/◌, ◌%◌, ◌^◌, ◌≤◌, ◌<◌, Bool, true, false, cond, ◌≡◌, refl, eqb}
use Rattle.std.proofs.Common.{pow-suc, arith, eqb-true}
use Rattle.std.proofs.lemmas.Bool.{eqb-false}
use Rattle.model.specs.Bits.{lowest_cleared, bit_count}

pub bits_most : (n x : ℕ) → bit_count n x ≤ n
bits_most zero x = omega arith
bits_most (suc n) x = let i = bits_most n (x / 2) in omega arith

pub bits_none : (n : ℕ) → bit_count n 0 ≡ 0
bits_none zero = refl
bits_none (suc n) = let i = bits_none n in omega arith

pub none_zero : (n x : ℕ) → x < 2 ^ n → bit_count n x ≡ 0 → x ≡ 0
none_zero zero x h e = let p : 2 ^ 0 ≡ 1 = refl in omega arith
none_zero (suc n) x h e =
    let p = pow-suc 2 n in
    let i = none_zero n (x / 2) (omega arith) (omega arith) in
    omega arith

-- the lowest 1 bit cleared, there is one fewer
pub cleared_fewer : (n x : ℕ) → x < 2 ^ n → (x ≡ 0 → ⊥) → suc (bit_count n (lowest_cleared n x)) ≡ bit_count n x
cleared_fewer zero x h ne = absurd (let p : 2 ^ 0 ≡ 1 = refl in ne (omega arith))
cleared_fewer (suc n) x h ne = go (eqb (x % 2) 1) refl (cleared_fewer n (x / 2))
  where
    go : (t : Bool) → eqb (x % 2) 1 ≡ t → (x / 2 < 2 ^ n → (x / 2 ≡ 0 → ⊥) → suc (bit_count n (lowest_cleared n (x / 2))) ≡ bit_count n (x / 2))
        → suc (bit_count (suc n) (cond t (x - 1) (lowest_cleared n (x / 2) * 2))) ≡ x % 2 + bit_count n (x / 2)
    go true e ih =
        let o : x % 2 ≡ 1 = eqb-true _ _ e in
        let a : (x - 1) % 2 ≡ 0 = omega arith in
        let b : (x - 1) / 2 ≡ x / 2 = omega arith in
        rw (a, b, o) (omega arith)
    go false e ih =
        let o : x % 2 ≡ 1 → ⊥ = eqb-false _ _ e in
        let z : x % 2 ≡ 0 = omega arith in
        let y : ℕ = lowest_cleared n (x / 2) in
        let p = pow-suc 2 n in
        let a : y * 2 % 2 ≡ 0 = omega arith in
        let b : y * 2 / 2 ≡ y = omega arith in
        let i = ih (omega arith) (λ q. ne (omega arith)) in
        rw (a, b, z) (omega arith)
