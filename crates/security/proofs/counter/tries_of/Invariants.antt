-- The numbers so far stand at the front; the last one fills the space.
use Rattle.std.proofs.Common.{◌≡◌, ◌++◌, drop}
use Rattle.model.specs.Lists.{at, tab}
use Rattle.model.specs.Bits.{tries_left}
use Rattle.model.specs.At88sc1608.{counter_at}
use Rattle.security.proofs.counter.tries_of.Given as goal

abbrev pub invariant-loop-k : goal.invariant-loop-k
invariant-loop-k l = l.tries ≡ tab (λ j. tries_left (at l.card (counter_at j))) l.k ++ drop l.k l.initial.tries
