use Rattle.std.proofs.Common.{rules}
use Rattle.laws.specs.Loops.{stores_next, stores_done}
use Rattle.configuration.proofs.page.store_column.Goals as goal

pub loop-i-preserved : goal.loop-i-preserved
loop-i-preserved c = search (rules, stores_next)

pub returns : goal.returns
returns c = search stores_done
