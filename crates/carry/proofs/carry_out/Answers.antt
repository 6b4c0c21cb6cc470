-- Each arm by what its part ensures.
use mathlib.Core.Path.{refl}
use native.Mathlib.Omega.{arith}
use Rattle.kinds.specs.KindNumber.{number_named}
use Rattle.record.specs.DataLaws.{between_some}
use Rattle.record.specs.DecodedRecord.{record_of}
use Rattle.carry.proofs.CarriedLaws.{performed, passed, polled, armed, issued_within}
use borrow.Author.Rules.{rules}
use Rattle.carry.proofs.carry_out.Goals as goal

pub bounds-response-0 : goal.bounds-response-0
unfolding record_of
bounds-response-0 c = let h = rw (number_named c.kind.ensures c.in-Poll.is) at c.requires.2.room in omega arith

pub slice_bounds-write_staged-count : goal.slice_bounds-write_staged-count
unfolding record_of
slice_bounds-write_staged-count c =
    let f = rw (number_named c.kind.ensures c.in-WriteStaged.is) at c.requires.2.ranged in omega (arith, between_some 3 c.args.end c.args.«record».now f.0)

pub slice_bounds-write_staged-start : goal.slice_bounds-write_staged-start
unfolding record_of
slice_bounds-write_staged-start c =
    let f = rw (number_named c.kind.ensures c.in-WriteStaged.is) at c.requires.2.ranged in omega (arith, between_some 3 c.args.end c.args.«record».now f.0)

pub write_staged-requires : goal.write_staged-requires
unfolding record_of
write_staged-requires c = (search rules, search rules, (rw (number_named c.kind.ensures c.in-WriteStaged.is) at c.requires.2.ranged).1)

pub returns-in-PowerCycle : goal.returns-in-PowerCycle
unfolding record_of
returns-in-PowerCycle c = rw (number_named c.kind.ensures c.in-PowerCycle.is) (performed _ _ _ _ _ _ _ c.power_cycle.ensures refl)

pub returns-in-Wait : goal.returns-in-Wait
unfolding record_of
returns-in-Wait c =
    rw (number_named c.kind.ensures c.in-Wait.is) (passed _ _ _ _ _ _ _ _ c.quiet.ensures.state c.quiet.ensures.tries c.timed.ensures
    c.time_left.ensures)

pub returns-in-Poll : goal.returns-in-Poll
unfolding record_of
returns-in-Poll c =
    rw (number_named c.kind.ensures c.in-Poll.is) (polled _ _ _ _ _ _ c.quiet-in-Poll.ensures.state c.quiet-in-Poll.ensures.tries (rw (number_named
    c.kind.ensures c.in-Poll.is) at
    c.requires.2.room) c.busy_byte.ensures)

pub returns-in-WriteStaged : goal.returns-in-WriteStaged
unfolding record_of
returns-in-WriteStaged c = rw (number_named c.kind.ensures c.in-WriteStaged.is) (performed _ _ _ _ _ _ _ c.write_staged.ensures refl)

pub returns-in-Arm : goal.returns-in-Arm
unfolding record_of
returns-in-Arm c =
    rw (number_named c.kind.ensures c.in-Arm.is) (armed _ _ _ _ _ _ _ _ c.quiet-in-Arm.ensures.state c.quiet-in-Arm.ensures.tries c.arming.ensures)

pub issue-requires : goal.issue-requires
issue-requires c =
    let within = issued_within _ _ c.kind.ensures c.in_default.not-PowerCycle c.in_default.not-Wait c.in_default.not-Poll c.in_default.not-WriteStaged
    c.in_default.not-Arm in
    (within.0, within.1, c.requires.2)
