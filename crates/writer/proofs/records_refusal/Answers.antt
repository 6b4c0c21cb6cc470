-- Each record lies in the part that is left, and the rest of it decides.
use Rattle.writer.proofs.PartsCheckLaws.{listed_within, listed_next}
use Rattle.writer.proofs.records_refusal.Goals as goal

pub slice_bounds-rest-count : goal.slice_bounds-rest-count
slice_bounds-rest-count c = listed_within _ _ _ _ c.loop.invariant c.loop-test.true _ _ c.in_ok-lengths.ensures

pub slice_bounds-rest-start : goal.slice_bounds-rest-start
slice_bounds-rest-start c = listed_within _ _ _ _ c.loop.invariant c.loop-test.true _ _ c.in_ok-lengths.ensures

pub loop-preserved : goal.loop-preserved
loop-preserved c = listed_next _ _ _ _ c.loop.invariant c.loop-test.true _ _ c.in_ok-lengths.ensures
