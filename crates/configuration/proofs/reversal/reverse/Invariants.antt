-- The answer so far stands at the front, and the rest is untouched.
use Rattle.std.proofs.Common.{◌≡◌, ◌++◌, drop}
use Rattle.model.specs.Bits.{reversed}
use Rattle.model.specs.Lists.{at, tab}
use Rattle.configuration.proofs.reversal.reverse.Given as goal

abbrev pub invariant-loop-i : goal.invariant-loop-i
invariant-loop-i l = l.to ≡ tab (λ k. reversed (at l.from k)) l.i ++ drop l.i l.initial.to
