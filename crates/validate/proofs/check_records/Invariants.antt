-- What is known when some of the records are done is `Checking`.
use Rattle.validate.proofs.SessionCheckLaws.{Checking}
use Rattle.validate.proofs.check_records.Given as goal

abbrev pub invariant-loop : goal.invariant-loop
invariant-loop l = Checking l.session l.start l.count l.at l.entries l.counter
