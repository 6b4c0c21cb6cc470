-- The entry that was read is kept if it is the one asked for.
use Rattle.std.proofs.Common.{arith}
use Rattle.session_log.proofs.LogCheckLaws.{entry_within, walking_found, walking_on}
use Rattle.session_log.proofs.check.scan.Goals as goal
use Rattle.session_log.proofs.check.scan.Goals.{then-i-number, else-i-number}

pub overflow_add-at : goal.overflow_add-at
overflow_add-at c =
    let h = entry_within _ _ _ _ _ _ _ _ c.loop-i.invariant c.loop-i-test.true _ _ c.in-Some.ensures in
    omega (arith, h, c.ranges.end)

pub loop-i-preserved : goal.loop-i-preserved
loop-i-preserved c =
    elim c.if-i-number.branch [
      | then-i-number w ↦ rw w.place-is (walking_found _ _ _ _ _ _ _ _ c.loop-i.invariant c.loop-i-test.true _ _ c.in-Some.ensures w.if-i-number.true)
      | else-i-number w ↦ rw w.place-is (walking_on _ _ _ _ _ _ _ _ c.loop-i.invariant c.loop-i-test.true _ _ c.in-Some.ensures w.if-i-number.false)
    ]
