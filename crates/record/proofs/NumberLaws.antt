-- A number of a few bytes, got from its highest byte down and put from its lowest up.
use Rattle.std.specs.Prelude.{ℕ, zero, suc, ◌+◌, ◌-◌, ◌*◌, ◌/◌, ◌%◌, ◌^◌, ◌<◌, ◌≤◌, List, ◌≡◌, refl, set, get_or}
use Rattle.std.proofs.Common.{arith, ap, ◌∙◌}
use Rattle.std.proofs.Math.Nat.{pow-suc}
use Rattle.std.proofs.lemmas.List.Edits.{sets}
use Rattle.model.specs.Numbers.{bytes_of, number_at}

-- ---- got

pub got_none : (bytes : List ℕ) (at width : ℕ) → (0 ≡ number_at bytes (at + width) (width - width)) × (0 < 256 ^ (width - width))
got_none bytes at width = let none : width - width ≡ 0 = omega arith in rw none (refl, omega arith)

pub got_all : (bytes : List ℕ) (at i width number : ℕ) → i ≤ 0
    → (number ≡ number_at bytes (at + i) (width - i)) × (number < 256 ^ (width - i)) → (number ≡ number_at bytes at width) × (number < 256 ^ width)
got_all bytes at i width number last h =
    let here : at + i ≡ at = omega arith in
    let all : width - i ≡ width = omega arith in
    rw (here, all) at h

-- the bytes from a place on that stand behind the one there
pub got_next : (bytes : List ℕ) (at i width number : ℕ) → 0 < i → i ≤ width → number ≡ number_at bytes (at + i) (width - i)
    → 256 * number + get_or bytes (at + (i - 1)) 0 ≡ number_at bytes (at + (i - 1)) (width - (i - 1))
got_next bytes at i width number some within e =
    let more : width - (i - 1) ≡ suc (width - i) = omega arith in
    let next : at + i ≡ suc (at + (i - 1)) = omega arith in
    rw more (let n = e ∙ ap (λ k. number_at bytes k (width - i)) next in omega arith)

pub below_next : (byte i width number : ℕ) → 0 < i → i ≤ width → byte < 256 → number < 256 ^ (width - i)
    → 256 * number + byte < 256 ^ (width - (i - 1))
below_next byte i width number some within small h =
    let more : width - (i - 1) ≡ suc (width - i) = omega arith in
    rw (more, pow-suc 256 (width - i)) (go (256 ^ (width - i)) h)
  where
    go : (p : ℕ) → number < p → 256 * number + byte < p * 256
    go p l = omega arith

pub narrow_power : (w : ℕ) → w ≤ 3 → 256 ^ w ≤ 16777216
narrow_power zero h = omega arith
narrow_power (suc zero) h = omega arith
narrow_power (suc (suc zero)) h = omega arith
narrow_power (suc (suc (suc zero))) h = omega arith
narrow_power (suc (suc (suc (suc w)))) h = absurd (let f : ⊥ = omega arith in f)

-- ---- put

pub put_next : (bytes : List ℕ) (at i width rest : ℕ) → i < width
    → sets (set bytes (at + i) (rest % 256)) (at + (i + 1)) (bytes_of (width - (i + 1)) (rest / 256)) ≡ sets bytes (at + i) (bytes_of (width - i) rest)
put_next bytes at i width rest some =
    let more : width - i ≡ suc (width - (i + 1)) = omega arith in
    let next : at + (i + 1) ≡ suc (at + i) = omega arith in
    rw (more, next) refl
