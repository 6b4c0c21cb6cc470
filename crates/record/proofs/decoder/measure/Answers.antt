-- Each return by the tests that led to it, in their order.
use Rattle.std.proofs.Common.{arith, ap, ◌∙◌}
use Rattle.std.proofs.lemmas.Result.{err_from_is_err_and}
use Rattle.std.specs.Prelude.{Some, Err}
use Rattle.laws.specs.RecordLaws.{fixed_small}
use Rattle.kinds.specs.KindNumber.{kind_number}
use Rattle.record.specs.DecodedRecord.{measured_of}
use Rattle.record.proofs.DecoderLaws.{no_kind, unknown, fields_absent, out_of_range, data_absent, all_there}
use Rattle.record.proofs.decoder.measure.Goals as goal

pub returns-in_default : goal.returns-in_default
returns-in_default c = no_kind _ c.in_default.ensures.value

pub returns-in_err-kind : goal.returns-in_err-kind
returns-in_err-kind c =
    let p = err_from_is_err_and c.from_residual.result c.from_residual.ensures.1 in
    ap measured_of (p.1 ∙ ap Err p.2) ∙ unknown _ _ c.in-Some.ensures.value c.in_err-kind.ensures

pub overflow_add-start : goal.overflow_add-start
overflow_add-start c = rw c.fixed_fields-start.ensures (omega (arith, fixed_small (kind_number c.in_ok-kind.kind)))

pub returns-then-part-start : goal.returns-then-part-start
returns-then-part-start c = search (fields_absent _ _ (ap Some c.in_ok-kind.ensures ∙ c.in-Some.ensures.value))

pub returns-then-not-in_range : goal.returns-then-not-in_range
returns-then-not-in_range c = search (out_of_range _ _ (ap Some c.in_ok-kind.ensures ∙ c.in-Some.ensures.value))

pub returns-then-part-end : goal.returns-then-part-end
returns-then-part-end c = search (data_absent _ _ (ap Some c.in_ok-kind.ensures ∙ c.in-Some.ensures.value))

pub returns : goal.returns
returns c = search (all_there _ _ (ap Some c.in_ok-kind.ensures ∙ c.in-Some.ensures.value))
