-- Refused, ignored or carried out, by what was admitted.
use Rattle.std.proofs.Common.{arith, ap, ◌∙◌}
use Rattle.std.proofs.lemmas.Result.{err_from_is_err_and}
use Rattle.command.specs.Reply.{called_of}
use Rattle.model.specs.Call.{refused}
use Rattle.laws.specs.KindLaws.{within_known}
use Rattle.record.specs.RefusalNumber.{refusal_number}
use Rattle.command.proofs.CommandLaws.{call_refused, call_known, call_long, call_ignored, call_ready, call_carried}
use Rattle.command.proofs.command.Goals as goal

pub returns-in_err-decoded : goal.returns-in_err-decoded
returns-in_err-decoded c =
    let p = err_from_is_err_and c.from_residual.result c.from_residual.ensures.1 in
    ap (λ r. called_of c.args.state r c.args.card.now c.args.response.now) p.1
    ∙ call_refused _ _ _ _ _ (ap (λ why. refused (refusal_number why)) p.2 ∙ c.in_err-decoded.ensures)

pub is_halted-halted-requires : goal.is_halted-halted-requires
is_halted-halted-requires c = call_long _ _ _ c.args.response.now _ _ c.in_ok-decoded.ensures _ c.head_of-head.ensures

pub overflow_add-result : goal.overflow_add-result
overflow_add-result c =
    let k = call_known _ _ _ c.args.response.now _ _ c.in_ok-decoded.ensures _ c.head_of-head.ensures in
    omega arith

pub returns-then-is_ignored : goal.returns-then-is_ignored
returns-then-is_ignored c =
    call_ignored _ _ _ _ _ _ c.in_ok-decoded.ensures _ c.head_of-head.ensures _ _
    c.is_halted-halted.ensures c.is_ignored.ensures c.if-is_ignored.true

pub kind-requires : goal.kind-requires
kind-requires c = within_known _ (call_known _ _ _ c.args.response.now _ _ c.in_ok-decoded.ensures _ c.head_of-head.ensures)

pub carry_out-done-requires : goal.carry_out-done-requires
carry_out-done-requires c =
    let k = call_known _ _ _ c.args.response.now _ _ c.in_ok-decoded.ensures _ c.head_of-head.ensures in (
      k.0,
      k.1,
      call_ready _ _ _ _ _ _ c.in_ok-decoded.ensures _ c.head_of-head.ensures _ _ c.is_halted-halted.ensures c.is_ignored.ensures c.if-is_ignored.false,
    )

pub returns : goal.returns
returns c =
    call_carried _ _ _ _ _ _ c.in_ok-decoded.ensures _ c.head_of-head.ensures _ _
    c.is_halted-halted.ensures c.is_ignored.ensures c.if-is_ignored.false _ _ _ _ _ (rw c.kind.ensures at c.answer_length-size.ensures) c.carry_out-done.ensures
