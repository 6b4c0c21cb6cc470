-- What the result of at88sc1608_answer is made of can be read off it: the refusal or 0 is the first 8 bits, the answer's length the next 16, the
-- entry headers that were read the next 16, and where the answer begins the rest.
use Rattle.std.specs.Prelude.{ℕ, ◌/◌, ◌%◌, ◌≤◌, ◌^◌, Bool, true, false, cond, not, List, ◌≡◌, ltb}
use Rattle.std.proofs.Common.{arith}
use Rattle.model.specs.LogCheck.{missing, located, response_at, length_at, count_of, valid, place_of, find, fetch}
use Rattle.model.specs.Log.{zoned}
use Rattle.model.specs.Refusal.{not_a_log, no_such_answer}
use Rattle.properties.specs.HeadersRead.{fetched_found, headers_most}
use Rattle.exports.specs.Exports.{exported_answer}
use Rattle.exports.specs.Lengths.{answer_small}

-- a refusal is 13 or 14
refusal_small : (l : List ℕ) (k n : ℕ) → find l k ≡ missing n → n ≤ no_such_answer
unfolding find
refusal_small l k n e = go (valid l) (ltb k (count_of l)) e
  where
    go : (v u : Bool) → cond (not v) (missing not_a_log) (cond (not u) (missing no_such_answer)
        (located (response_at zoned l (place_of l k)) (length_at l (place_of l k)))) ≡ missing n → n ≤ no_such_answer
    go false u e = let z : not_a_log ≡ n = cc in omega arith
    go true false e = let z : no_such_answer ≡ n = cc in omega arith
    go true true e = absurd (let z : ◌≡◌ {A = ℕ} 0 1 = cc in let w : ⊥ = omega arith in w)

pub refusal_read : (l : List ℕ) (k refusal : ℕ) → find l k ≡ missing refusal
    → (let n = exported_answer (fetch l k) in
    (n % 2 ^ 8 ≡ refusal) × (n / 2 ^ 8 % 2 ^ 16 ≡ 0) × (n / 2 ^ 24 % 2 ^ 16 ≡ (fetch l k).headers) × (n / 2 ^ 40 ≡ 0))
refusal_read l k refusal e =
    let r = refusal_small l k refusal e in
    let h = headers_most l k in
    rw (fetched_found l k, e) (omega arith, omega arith, omega arith, omega arith)

pub answer_read : (l : List ℕ) (k from size : ℕ) → find l k ≡ located from size
    → (let n = exported_answer (fetch l k) in
    (n % 2 ^ 8 ≡ 0) × (n / 2 ^ 8 % 2 ^ 16 ≡ size) × (n / 2 ^ 24 % 2 ^ 16 ≡ (fetch l k).headers) × (n / 2 ^ 40 ≡ from))
answer_read l k from size e =
    let s = answer_small l k from size e in
    let h = headers_most l k in
    rw (fetched_found l k, e) (omega arith, omega arith, omega arith, omega arith)
