-- Each return by what was found on the way.
use Rattle.std.proofs.Common.{ap, ◌∙◌}
use Rattle.std.proofs.lemmas.Result.{err_from_is_err_and}
use Rattle.model.specs.Call.{refused}
use Rattle.record.specs.DecodedRecord.{decoded_of}
use Rattle.record.specs.RefusalNumber.{refusal_number}
use Rattle.command.proofs.AdmitLaws.{check_refused, record_refused, passed_long, left_over, known_head, no_room, is_admitted}
use Rattle.command.proofs.admit.admit.Goals as goal

pub returns-in_err-check : goal.returns-in_err-check
returns-in_err-check c =
    let p = err_from_is_err_and c.from_residual.result c.from_residual.ensures.1 in
    ap (decoded_of c.args.«record».now) p.1 ∙ check_refused _ _ _ _ p.0 (ap refusal_number p.2 ∙ c.in_err-check.ensures)

pub returns-in_err-decoded : goal.returns-in_err-decoded
returns-in_err-decoded c =
    let p = err_from_is_err_and c.from_residual-in_err-decoded.result c.from_residual-in_err-decoded.ensures.1 in
    ap (decoded_of c.args.«record».now) p.1 ∙ record_refused _ _ _ _ c.in_ok-check.ensures (refusal_number p.0) (ap (λ why. refused (refusal_number
    why)) p.2 ∙ c.in_err-decoded.ensures)

pub returns-then-decoded-record : goal.returns-then-decoded-record
returns-then-decoded-record c = left_over _ _ _ _ c.in_ok-check.ensures c.in_ok-decoded.decoded.«record» _ c.in_ok-decoded.ensures c.if-decoded-record.true

pub is_halted-halted-requires : goal.is_halted-halted-requires
is_halted-halted-requires c = passed_long _ _ _ 0 c.in_ok-check.ensures c.in_ok-decoded.decoded.«record» _ c.in_ok-decoded.ensures

pub needed-requires : goal.needed-requires
needed-requires c = known_head _ _ _ 0 c.in_ok-check.ensures c.in_ok-decoded.decoded.«record» _ c.in_ok-decoded.ensures _ c.head_of-head.ensures

pub returns-then-room-needed : goal.returns-then-room-needed
returns-then-room-needed c =
    no_room _ _ _ _ c.in_ok-check.ensures c.in_ok-decoded.decoded.«record» _ c.in_ok-decoded.ensures _ c.head_of-head.ensures _
    c.if-decoded-record.false _ c.is_halted-halted.ensures c.needed.ensures c.if-room-needed.true

pub returns : goal.returns
returns c =
    is_admitted _ _ _ _ c.in_ok-check.ensures c.in_ok-decoded.decoded.«record» _ c.in_ok-decoded.ensures _ c.head_of-head.ensures _
    c.if-decoded-record.false _ c.is_halted-halted.ensures c.needed.ensures c.if-room-needed.false
