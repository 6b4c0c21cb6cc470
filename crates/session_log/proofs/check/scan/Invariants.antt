-- What is known before each entry is `Walking`.
use Rattle.session_log.proofs.LogCheckLaws.{Walking}
use Rattle.session_log.proofs.check.scan.Given as goal

abbrev pub invariant-loop-i : goal.invariant-loop-i
invariant-loop-i l = Walking l.log l.count l.end l.number l.i l.at l.headers l.place
