use borrow.Author.Rules.{rules}
use Rattle.memory.proofs.RollLaws.{rolling_start, rolling_next, rolling_done}
use Rattle.memory.proofs.zone.roll.Goals as goal

pub loop-i-init : goal.loop-i-init
loop-i-init c = rolling_start _ _ _ _ _ c.requires.1

pub loop-i-preserved : goal.loop-i-preserved
loop-i-preserved c =
    rolling_next _ _ _ _ _ _ _ _ c.loop-i.invariant _ _ c.loop-i-test.true c.requires.0 c.min-run.ensures c.copy.ensures

pub returns : goal.returns
returns c = rolling_done _ _ _ _ _ _ _ _ c.loop-i.invariant (search rules) c.requires.2
