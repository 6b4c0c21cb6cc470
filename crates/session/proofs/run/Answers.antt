-- The check's refusal, no room, or the log.
use native.Mathlib.Omega.{arith}
use Rattle.std.proofs.lemmas.Result.{err_from_is_err_and}
use Rattle.session.proofs.RunLaws.{run_refused, no_room, run_logged}
use Rattle.session.proofs.run.Goals as goal
use Rattle.session.proofs.run.Goals.{then-room-lt-LEAST_LOG-via-then-room-lt-LEAST_LOG, then-room-lt-LEAST_LOG-via-else-room-lt-LEAST_LOG+then-room-entries}

pub returns-in_err-entries : goal.returns-in_err-entries
returns-in_err-entries c =
    let e = err_from_is_err_and c.from_residual.result c.from_residual.ensures.1 in
    rw (e.1, e.2) (run_refused _ _ _ c.in_err-entries.ensures)

pub returns-then-room-lt-LEAST_LOG : goal.returns-then-room-lt-LEAST_LOG
returns-then-room-lt-LEAST_LOG c =
    no_room _ _ _ c.in_ok-entries.ensures (elim c.then-room-lt-LEAST_LOG.branch [
      | then-room-lt-LEAST_LOG-via-then-room-lt-LEAST_LOG w ↦ omega arith
      | then-room-lt-LEAST_LOG-via-else-room-lt-LEAST_LOG+then-room-entries w ↦ omega arith
    ])

pub returns : goal.returns
returns c =
    run_logged _ _ _ c.in_ok-entries.ensures (let h = c.if-room-entries.false in let l = c.if-room-lt-LEAST_LOG.false in omega arith) _ _ c.write_log.ensures
