-- From the lowest byte up.
use Rattle.std.proofs.Common.{◌∙◌}
use Rattle.record.proofs.NumberLaws.{put_next}
use Rattle.record.proofs.number.put.Goals as goal

pub loop-i-preserved : goal.loop-i-preserved
loop-i-preserved g c = put_next c.loop-i.bytes c.args.at c.loop-i.i g.row.WIDTH c.loop-i.rest c.loop-i-test.true ∙ c.loop-i.invariant
