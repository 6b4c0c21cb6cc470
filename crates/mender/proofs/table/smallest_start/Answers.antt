-- By the laws of `Filled`.
use Rattle.std.proofs.Common.{rules}
use Rattle.mender.proofs.TableLaws.{filled_start, filled_none, filled_some, filled_done}
use Rattle.mender.proofs.table.smallest_start.Goals as goal

pub loop-start-init : goal.loop-start-init
loop-start-init c = filled_start _ _ _ c.records_end-end.ensures (search rules)

pub loop-start-preserved-in-Some : goal.loop-start-preserved-in-Some
loop-start-preserved-in-Some c = filled_some _ _ _ _ c.loop-start.invariant _ c.loop-start-test.true c.count_at-count.ensures _ c.in-Some.is

pub loop-start-preserved : goal.loop-start-preserved
loop-start-preserved c = filled_none _ _ _ _ c.loop-start.invariant _ c.loop-start-test.true c.count_at-count.ensures c.in_default.is

pub returns : goal.returns
returns c = filled_done _ _ _ _ c.loop-start.invariant c.loop-start-test.false
