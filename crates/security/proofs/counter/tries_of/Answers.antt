use Rattle.std.proofs.Common.{rules}
use Rattle.model.specs.Lists.{tab}
use Rattle.model.specs.Device as model
use Rattle.laws.specs.Loops.{tab_start, tab_next, tab_done}
use Rattle.security.proofs.counter.tries_of.Goals as goal

pub loop-k-init : goal.loop-k-init
loop-k-init c = search tab_start

pub loop-k-preserved : goal.loop-k-preserved
loop-k-preserved c = search (rules, tab_next)

pub returns : goal.returns
unfolding model.tries_of tab
returns c = search (rules, tab_done)
