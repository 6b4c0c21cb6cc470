-- What the result of at88sc1608_mend is made of can be read off it.
use Rattle.std.specs.Prelude.{ℕ, ◌/◌, ◌%◌, ◌^◌, List, ◌≡◌}
use Rattle.std.proofs.Common.{arith}
use Rattle.model.specs.Mender.{mend}
use Rattle.exports.specs.Exports.{exported_mending}
use Rattle.exports.specs.Lengths.{mending_small}
use Rattle.properties.proofs.SessionMendingLaws.{mend_refusal_small}

-- the refusal is the first 8 bits, the count the next 24, of which it needs 16, and the start the rest
pub mending_read : (s : List ℕ)
    → (let n = (exported_mending s).result in (n % 2 ^ 8 ≡ (mend s).refusal) × (n / 2 ^ 8 % 2 ^ 24 ≡ (mend s).count) × (n / 2 ^ 32 ≡ (mend s).start))
mending_read s =
    let r = mend_refusal_small s in
    let q = mending_small s in
    let c = q.0 in
    let t = q.1 in
    (omega arith, omega arith, omega arith)
