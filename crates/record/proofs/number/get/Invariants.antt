use Rattle.std.proofs.Common.{◌≡◌, ◌+◌, ◌-◌, ◌^◌, ◌<◌}
use Rattle.model.specs.Numbers.{number_at}
use Rattle.record.proofs.number.get.Given as goal

-- the number in the bytes that were read
abbrev pub invariant-loop-i : goal.invariant-loop-i
invariant-loop-i g l =
    (l.number ≡ number_at l.fn.bytes (l.fn.at + l.i) (g.row.WIDTH - l.i)) × (l.number < 256 ^ (g.row.WIDTH - l.i))
