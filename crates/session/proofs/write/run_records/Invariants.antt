-- What is known when some of the records are done is `Going`.
use Rattle.busy.specs.TimedState.{state_of}
use Rattle.session.proofs.SessionWriteLaws.{Going}
use Rattle.session.proofs.write.run_records.Given as goal

abbrev pub invariant-loop : goal.invariant-loop
invariant-loop l = Going l.session l.start l.count l.initial.card l.initial.log l.at l.place l.counter l.card (state_of l.state) l.log
