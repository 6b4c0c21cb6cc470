-- Refused, or the parts one after the other.
use Rattle.std.proofs.Common.{Err, refl, ap, arith, sym, ◌∙◌, rules}
use Rattle.std.proofs.lemmas.Result.{err_from_is_err_and}
use Rattle.writer.proofs.SessionPutLaws.{fitting, not_written, no_space_lem, session_put}
use Rattle.writer.proofs.write_session.Goals as goal

pub returns-in_err-parts_refusal : goal.returns-in_err-parts_refusal
returns-in_err-parts_refusal c =
    let e = err_from_is_err_and c.from_residual.result c.from_residual.ensures.1 in
    not_written _ _ c.in_err-parts_refusal.field-0.0 _ c.in_err-parts_refusal.ensures (e.1 ∙ ap Err e.2)

pub overflow_add-end : goal.overflow_add-end
overflow_add-end c = let f = fitting _ c.in_ok-parts_refusal.ensures in omega (arith, f.size, f.within)

pub overflow_add-size : goal.overflow_add-size
overflow_add-size c = let f = fitting _ c.in_ok-parts_refusal.ensures in omega (arith, f.size, f.within)

pub returns-then-session-size : goal.returns-then-session-size
returns-then-session-size c =
    let a = c.in_ok-parts_refusal.ensures in
    no_space_lem _ _ a (omega (arith, c.if-session-size.true, (fitting _ a).size))

pub copy-requires : goal.copy-requires
copy-requires c = let f = fitting _ c.in_ok-parts_refusal.ensures in (search rules, omega (arith, f.long))

pub returns : goal.returns
returns c =
    let a = c.in_ok-parts_refusal.ensures in
    session_put _ _ a _ _ _ _ _ _ c.copy.ensures c.copy-2.ensures c.copy-3.ensures c.put.ensures refl refl _ (sym (fitting _ a).size)
    c.if-session-size.false
