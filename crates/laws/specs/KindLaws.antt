-- Laws of the table of kinds: what holds of its sixteen rows holds of every kind.
use Rattle.std.specs.Prelude.{ℕ, ◌-◌, ◌≤◌, ◌<◌, Bool, true, false, not, ◌&&◌, ◌≡◌, refl, leb, eqb}
use Rattle.std.proofs.Common.{sym, subst, arith, leb-true, leb-false, le-leb, eqb-true, ne_eqb}
use Rattle.std.proofs.lemmas.Bool.{eqb-false, not-true}
use Rattle.std.proofs.Math.ListN.{get_or-eq_default}
use Rattle.model.specs.Record.{Kind, kinds, known, row_of}
use Rattle.laws.specs.BoolLaws.{and_left, and_right}
use Rattle.laws.specs.Tables.{each}

-- the known kinds are 1 to 16
pub known_within : (kind : ℕ) → known kind ≡ true → (1 ≤ kind) × (kind ≤ 16)
known_within kind e =
    let z : kind ≡ 0 → ⊥ = eqb-false kind 0 (not-true _ (and_left (not (eqb kind 0)) (leb kind 16) e)) in
    let m : kind ≤ 16 = leb-true kind 16 (and_right (not (eqb kind 0)) (leb kind 16) e) in
    (omega arith, m)

pub within_known : (kind : ℕ) → (1 ≤ kind) × (kind ≤ 16) → known kind ≡ true
within_known kind h = rw (ne_eqb kind 0 (λ e. omega arith), le-leb kind 16 h.1)

-- what holds at each of the sixteen kinds holds at every known kind
pub each_kind : (P : ℕ → Type 0) → P 1 → P 2 → P 3 → P 4 → P 5 → P 6 → P 7 → P 8 → P 9 → P 10 → P 11 → P 12
    → P 13 → P 14 → P 15 → P 16 → (kind : ℕ) → known kind ≡ true → P kind
each_kind P p₁ p₂ p₃ p₄ p₅ p₆ p₇ p₈ p₉ p₁₀ p₁₁ p₁₂ p₁₃ p₁₄ p₁₅ p₁₆ kind w =
    let h = known_within kind w in
    each P 1 16 (p₁, (p₂, (p₃, (p₄, (p₅, (p₆, (p₇, (p₈, (p₉, (p₁₀, (p₁₁, (p₁₂, (p₁₃, (p₁₄, (p₁₅, (p₁₆, tt)))))))))))))))) kind
    h.0 (let m = h.1 in omega arith)

-- every unknown kind has the row of kind 1: no fields, no data, no answer
pub unknown_row : (kind : ℕ) → known kind ≡ false → row_of kind ≡ row_of 1
unfolding kinds
unknown_row kind u = go (eqb kind 0) refl u
  where
    go : (z : Bool) → eqb kind 0 ≡ z → (not z && leb kind 16) ≡ false → row_of kind ≡ row_of 1
    go true e u = let q : kind ≡ 0 = eqb-true kind 0 e in rw q
    go false e u = let l : 16 < kind = leb-false kind 16 u in get_or-eq_default kinds (row_of 1) (let h : 16 ≤ kind - 1 = omega arith in h)

-- what holds of each row holds of every kind's
pub each_row : (Q : Kind → Type 0) → Q (row_of 1) → Q (row_of 2) → Q (row_of 3) → Q (row_of 4) → Q (row_of 5) → Q (row_of 6) → Q (row_of 7)
    → Q (row_of 8) → Q (row_of 9) → Q (row_of 10) → Q (row_of 11) → Q (row_of 12) → Q (row_of 13) → Q (row_of 14) → Q (row_of 15) → Q (row_of 16)
    → (kind : ℕ) → Q (row_of kind)
each_row Q q₁ q₂ q₃ q₄ q₅ q₆ q₇ q₈ q₉ q₁₀ q₁₁ q₁₂ q₁₃ q₁₄ q₁₅ q₁₆ kind = go (known kind) refl
  where
    go : (t : Bool) → known kind ≡ t → Q (row_of kind)
    go true e = each_kind (λ k. Q (row_of k)) q₁ q₂ q₃ q₄ q₅ q₆ q₇ q₈ q₉ q₁₀ q₁₁ q₁₂ q₁₃ q₁₄ q₁₅ q₁₆ kind e
    go false e = subst Q (sym (unknown_row kind e)) q₁
