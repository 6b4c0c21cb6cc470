use Rattle.std.proofs.Common.{◌≡◌, ◌+◌, ◌-◌}
use Rattle.std.proofs.lemmas.List.Edits.{sets}
use Rattle.model.specs.Numbers.{bytes_of}
use Rattle.record.proofs.number.put.Given as goal

-- what the bytes are to become, by those that are still to be put
abbrev pub invariant-loop-i : goal.invariant-loop-i
invariant-loop-i g l = sets l.bytes (l.fn.at + l.i) (bytes_of (g.row.WIDTH - l.i) l.rest) ≡ sets l.fn.bytes l.fn.at (bytes_of g.row.WIDTH l.fn.number)
