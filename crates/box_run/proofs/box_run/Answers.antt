-- 18, or the run.
use Rattle.box_run.proofs.BoxRunLaws.{run_limited, run_unlimited}
use Rattle.box_run.proofs.box_run.Goals as goal

pub returns-then-box_refuses : goal.returns-then-box_refuses
returns-then-box_refuses c = run_limited _ _ _ c.box_refuses.ensures c.if-box_refuses.true

pub returns : goal.returns
returns c = run_unlimited _ _ _ c.box_refuses.ensures c.if-box_refuses.false _ c.run.ensures
