-- A law of the parts that hold a record's data.
use Rattle.std.specs.Prelude.{ℕ, ◌-◌, ◌≤◌, ◌<◌, List, length, drop}
use Rattle.std.proofs.Common.{arith, length-take}
use Rattle.record.specs.DecodedRecord.{between}

-- a part with a byte in it ends past its start
pub between_some : (from to : ℕ) (part : List ℕ) → 1 ≤ length (between from to part) → from < to
between_some from to part h = let e = length-take (to - from) (drop from part) in omega arith
