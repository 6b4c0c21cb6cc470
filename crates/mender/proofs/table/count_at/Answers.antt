-- By the laws of `tabled`: no record, the last one, one before others.
use Rattle.std.proofs.Common.{sym, ◌∙◌, arith}
use Rattle.mender.proofs.PartLaws.{next_refused, next_whole}
use Rattle.mender.proofs.TableLaws.{tabled_refused, tabled_last, tabled_none, tabled_more}
use Rattle.mender.proofs.table.count_at.Goals as goal

pub returns-in_default : goal.returns-in_default
returns-in_default c = tabled_refused _ _ _ _ (sym (next_refused c.args.session.now c.args.at c.args.end c.requires.1 _ c.in_default.ensures))

pub overflow_add-next : goal.overflow_add-next
overflow_add-next c = let w = (next_whole c.args.session.now c.args.at c.args.end c.requires.1 _ _ c.in-Ok.ensures).within in omega arith

pub returns-then-next-end : goal.returns-then-next-end
returns-then-next-end c =
    let k = next_whole c.args.session.now c.args.at c.args.end c.requires.1 _ _ c.in-Ok.ensures in
    tabled_last _ _ _ k.instruction _ k.next (c.if-next-end.true ∙ c.requires.1)

pub returns-in_err-counts : goal.returns-in_err-counts
returns-in_err-counts c =
    let k = next_whole c.args.session.now c.args.at c.args.end c.requires.1 _ _ c.in-Ok.ensures in
    let ends = c.requires.1 in
    c.from_residual.ensures ∙ tabled_none _ _ _ k.instruction _ k.next (λ e. c.if-next-end.false (e ∙ sym ends)) c.in_err-counts.was

pub returns : goal.returns
returns c =
    let k = next_whole c.args.session.now c.args.at c.args.end c.requires.1 _ _ c.in-Ok.ensures in
    let ends = c.requires.1 in
    c.one_more.ensures ∙ tabled_more _ _ _ k.instruction _ k.next (λ e. c.if-next-end.false (e ∙ sym ends)) _ c.in_ok-counts.was
