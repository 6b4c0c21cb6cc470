-- One cell after the other.
use Rattle.staging.proofs.CellPutLaws.{putting_start, putting_next, putting_done}
use Rattle.staging.proofs.cells.Fuel.put_row.Goals as goal

pub loop-i-init : goal.loop-i-init
loop-i-init g c = putting_start _ _ c.args.values.now _

pub loop-i-preserved : goal.loop-i-preserved
loop-i-preserved g c = putting_next _ _ _ _ _ _ _ c.loop-i.invariant _ _ _ c.loop-i-test.true c.place.ensures c.put.ensures

pub returns : goal.returns
returns g c = putting_done _ _ _ _ _ _ _ c.loop-i.invariant c.loop-i-test.false
