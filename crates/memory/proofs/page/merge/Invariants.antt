-- As many values as were looked at stand at the front of the space.
use Rattle.std.specs.Prelude.{◌+◌, ◌%◌, ◌++◌, ◌≡◌, drop}
use Rattle.model.specs.Lists.{at, tab}
use Rattle.memory.specs.ZonePage.{merged_of}
use Rattle.memory.proofs.page.merge.Given as goal

abbrev pub invariant-loop-i : goal.invariant-loop-i
invariant-loop-i l = l.values ≡ tab (λ k. merged_of l.pgo (at l.page ((l.low + k) % 16)) (at l.bytes k)) l.i ++ drop l.i l.initial.values
