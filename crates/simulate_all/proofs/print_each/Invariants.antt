-- What is left is shorter by four bytes at least.
use Rattle.std.proofs.Common.{length}
use Rattle.simulate_all.proofs.print_each.Given as goal

abbrev pub decreases-loop-length : goal.decreases-loop-length
decreases-loop-length g l = length l.rest
