-- From the highest byte down.
use Rattle.std.proofs.Common.{◌+◌, ◌-◌, arith}
use Rattle.record.proofs.NumberLaws.{got_none, got_next, got_all, below_next, narrow_power}
use Rattle.record.proofs.number.get.Goals as goal

pub loop-i-init : goal.loop-i-init
loop-i-init g c = got_none c.args.bytes.now c.args.at g.row.WIDTH

pub overflow_mul-number : goal.overflow_mul-number
overflow_mul-number g c =
    let below = c.loop-i.invariant.1 in
    let few = narrow_power (g.row.WIDTH - c.loop-i.i) (omega arith) in
    omega arith

pub overflow_add-number-in-loop-i : goal.overflow_add-number-in-loop-i
overflow_add-number-in-loop-i g c =
    let below = c.loop-i.invariant.1 in
    let few = narrow_power (g.row.WIDTH - c.loop-i.i) (omega arith) in
    let byte = c.type_inv.bytes (c.args.at + (c.loop-i.i - 1)) in
    omega arith

pub loop-i-preserved : goal.loop-i-preserved
loop-i-preserved g c =
    let byte = c.type_inv.bytes (c.args.at + (c.loop-i.i - 1)) in (
      got_next c.args.bytes.now c.args.at c.loop-i.i g.row.WIDTH c.loop-i.number c.loop-i-test.true c.loop-i.auto.i c.loop-i.invariant.0,
      below_next _ c.loop-i.i g.row.WIDTH c.loop-i.number c.loop-i-test.true c.loop-i.auto.i (omega arith) c.loop-i.invariant.1,
    )

pub returns-clause-number : goal.returns-clause-number
returns-clause-number g c = (got_all c.args.bytes.now c.args.at c.loop-i.i g.row.WIDTH c.loop-i.number c.loop-i-test.false c.loop-i.invariant).0

pub returns-clause-range : goal.returns-clause-range
returns-clause-range g c = (got_all c.args.bytes.now c.args.at c.loop-i.i g.row.WIDTH c.loop-i.number c.loop-i-test.false c.loop-i.invariant).1
