use Rattle.laws.specs.Loops.{stores_done}
use Rattle.memory.proofs.page.store_by.Goals as goal

pub returns : goal.returns
returns g c = λ rule given. stores_done rule _ c.args.bytes.now _ _ _ (c.loop-i.invariant rule given) c.loop-i-test.false
