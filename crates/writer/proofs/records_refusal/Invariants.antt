-- What is known while records are left is `Listed`.
use Rattle.writer.proofs.PartsCheckLaws.{Listed}
use Rattle.writer.proofs.records_refusal.Given as goal

abbrev pub invariant-loop : goal.invariant-loop
invariant-loop l = Listed l.records l.count l.counter l.rest
