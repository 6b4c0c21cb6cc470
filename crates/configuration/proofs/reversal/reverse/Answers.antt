-- The table of the code is the model's list.
use Rattle.std.proofs.Common.{rules}
use Rattle.laws.specs.Loops.{tab_start, tab_next, tab_done}
use Rattle.laws.specs.Reversal.{reversals}
use Rattle.laws.specs.ReversalLaws.{reversal_rule}
use Rattle.configuration.proofs.reversal.reverse.Goals as goal

pub loop-i-init : goal.loop-i-init
loop-i-init c = search tab_start

pub loop-i-preserved : goal.loop-i-preserved
unfolding reversals
loop-i-preserved c = search (rules, tab_next, reversal_rule)

pub returns : goal.returns
returns c = search (rules, tab_done)
