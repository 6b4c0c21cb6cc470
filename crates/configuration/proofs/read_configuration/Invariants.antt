-- The answer so far stands at the front of the space, and the rest of it is untouched.
use Rattle.std.proofs.Common.{◌≡◌, cond, ◌++◌, ◌+◌, drop}
use Rattle.access.specs.Column.{allows_of}
use Rattle.model.specs.At88sc1608.{configuration_at}
use Rattle.model.specs.Lists.{at, tab}
use Rattle.configuration.proofs.read_configuration.Given as goal

abbrev pub invariant-loop-i : goal.invariant-loop-i
invariant-loop-i l = l.byte-items
    ≡ tab (λ k. cond (allows_of l.column (l.address + k)) (at l.card (configuration_at + (l.address + k))) 0) l.i ++ drop l.i l.initial.byte-items
