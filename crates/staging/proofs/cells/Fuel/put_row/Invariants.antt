-- As many cells as the loop has come.
use Rattle.staging.proofs.CellPutLaws.{Putting}
use Rattle.staging.proofs.cells.Fuel.put_row.Given as goal

abbrev pub invariant-loop-i : goal.invariant-loop-i
invariant-loop-i g l = Putting (goal.F-post g l.place) l.fn.self l.values l.initial.card l.i l.self l.card
