-- What is known when i bytes are answered is `Rolling`.
use Prim.Native.Nat.{◌-◌}
use Rattle.memory.proofs.RollLaws.{Rolling}
use Rattle.memory.proofs.zone.roll.Given as goal

abbrev pub invariant-loop-i : goal.invariant-loop-i
invariant-loop-i l = Rolling l.card l.base l.address l.count l.i l.next l.initial.response l.response

abbrev pub decreases-loop-i : goal.decreases-loop-i
decreases-loop-i l = l.count - l.i
