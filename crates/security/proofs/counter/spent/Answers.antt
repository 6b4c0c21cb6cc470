-- x AND (x - 1) clears the lowest 1 bit of x: computed for every byte.
use Rattle.std.proofs.Common.{rules}
use Rattle.security.proofs.CounterLaws.{spent_one}
use Rattle.security.proofs.counter.spent.Goals as goal

pub returns : goal.returns
returns c = search (rules, spent_one)
