-- What is known between two turns is `Filled`.
use Rattle.mender.specs.Mending.{found_by}
use Rattle.mender.proofs.TableLaws.{Filled}
use Rattle.mender.proofs.table.smallest_start.Given as goal

abbrev pub invariant-loop-start : goal.invariant-loop-start
invariant-loop-start l = Filled l.session l.counts l.start (found_by l.found)
