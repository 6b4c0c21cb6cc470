-- What is known when i bytes are copied is `Copying`.
use Rattle.slices.proofs.CopyLaws.{Copying}
use Rattle.slices.proofs.copy.Given as goal

abbrev pub invariant-loop-i : goal.invariant-loop-i
invariant-loop-i l = Copying l.initial.to l.at l.from l.start l.count l.i l.to
