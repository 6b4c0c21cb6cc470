use native.Mathlib.Omega.{arith}
use Rattle.laws.specs.KindLaws.{within_known}
use Rattle.session.proofs.SessionWriteLaws.{going_known, going_ready, going_forth, going_next}
use Rattle.session.proofs.write.run_records.Goals as goal

pub write_entry-entered-requires : goal.write_entry-entered-requires
write_entry-entered-requires c =
    (c.head_of-head.ensures, rw c.records_end-end.ensures (going_ready _ _ _ _ _ _ _ _ _ _ _ c.loop.invariant c.loop-test.true))

pub kind-requires : goal.kind-requires
kind-requires c =
    within_known _ (going_known _ _ _ _ _ _ _ _ _ _ _ c.loop.invariant c.loop-test.true _ (rw c.records_end-end.ensures at c.head_of-head.ensures))

pub overflow_add-at : goal.overflow_add-at
overflow_add-at c =
    let h = rw c.records_end-end.ensures at c.head_of-head.ensures in
    let w = going_forth _ _ _ _ _ _ _ _ _ _ _ c.loop.invariant c.loop-test.true _ h _ (rw c.kind.ensures at c.record_length-at.ensures) in omega arith

pub loop-preserved : goal.loop-preserved
loop-preserved c =
    going_next _ _ _ _ _ _ _ _ _ _ _ c.loop.invariant c.loop-test.true _ _ _ _ (rw c.records_end-end.ensures at c.write_entry-entered.ensures)
    _ (rw c.records_end-end.ensures at c.head_of-head.ensures) _ (rw c.kind.ensures at c.record_length-at.ensures)
