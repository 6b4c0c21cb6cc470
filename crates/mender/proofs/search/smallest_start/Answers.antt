use Rattle.std.proofs.Common.{◌≡◌, ap, ◌∙◌, arith}
use Rattle.model.specs.Sizes.{most_records}
use Rattle.model.specs.Mender.{count_from}
use Rattle.mender.specs.Mending.{found_by}
use Rattle.mender.proofs.PartLaws.{next_whole}
use Rattle.mender.proofs.SearchLaws.{reading_full, reading_refused, reading_last, reading_next}
use Rattle.mender.proofs.SearchLaws.{trying_none, trying_next, trying_found}
use Rattle.mender.proofs.search.smallest_start.Goals as goal
use Rattle.mender.proofs.search.smallest_start.Goals.{else-loop-count-test, then-loop-count-test+in_default}

pub overflow_add-at : goal.overflow_add-at
overflow_add-at c = let w = (next_whole c.args.session.now c.loop-count.at _ c.records_end-end.ensures _ _ c.in-Ok.ensures).within in omega arith

pub loop-count-preserved : goal.loop-count-preserved
loop-count-preserved c = (
  c.loop-count.invariant.0,
  reading_next _ _ _ _ c.loop-count.invariant.1 (omega arith) _ c.records_end-end.ensures _ _ c.in-Ok.ensures _ (omega arith) c.if-at-end.false,
)

pub starts-preserved : goal.starts-preserved
starts-preserved c =
    let reading = c.loop-count.invariant.1 in
    let ends = c.records_end-end.ensures in
    let none : 0 ≡ count_from most_records c.args.session.now c.starts.start =
    elim c.loop-count-test.branch [
      | else-loop-count-test w ↦ reading_full _ _ _ _ reading (let h = w.loop-count-test.false in omega arith)
      | then-loop-count-test+in_default w ↦ reading_refused _ _ _ _ reading (let h = w.loop-count-test.true in omega arith) _ ends _ w.in_default.ensures
    ]
    in
    (c.loop-count.invariant.0, trying_next _ _ c.starts.invariant.1 (omega (arith, c.starts-test.true, ends)) none)

pub returns-after-starts : goal.returns-after-starts
returns-after-starts c =
    ap found_by c.starts.invariant.0 ∙ trying_none _ _ c.starts.invariant.1 (omega (arith, c.starts-test.false, c.records_end-end.ensures))

pub returns-then-at-end : goal.returns-then-at-end
returns-then-at-end c =
    trying_found _ _ c.starts.invariant.1 (let e = c.records_end-end.ensures in omega (arith, c.starts-test.true)) _ _ (omega arith)
    (reading_last _ _ _ _ c.loop-count.invariant.1 (omega arith) _ c.records_end-end.ensures _ _ c.in-Ok.ensures c.if-at-end.true)
