-- Refused, or what the search gives, which is the model's.
use Rattle.std.proofs.Common.{Err, ap, ◌∙◌, arith}
use Rattle.std.proofs.lemmas.Fn.{says_at}
use Rattle.std.proofs.lemmas.Result.{err_from_is_err_and}
use Rattle.mender.proofs.MendingLaws.{not_searched, long_enough, none_mended, found_mended}
use Rattle.mender.proofs.mend_with.Goals as goal

pub returns-in_err-untrailed_refusal : goal.returns-in_err-untrailed_refusal
returns-in_err-untrailed_refusal g c =
    let e = err_from_is_err_and c.from_residual.result c.from_residual.ensures.1 in
    not_searched _ c.in_err-untrailed_refusal.field-0.0 _ c.in_err-untrailed_refusal.ensures (e.1 ∙ ap Err e.2)

pub returns-in_default : goal.returns-in_default
returns-in_default g c =
    none_mended _ c.in_ok-untrailed_refusal.ensures (c.requires.finds _ _ (says_at g.F.Fn c.search.ensures c.in_default.is))

pub overflow_sub-end : goal.overflow_sub-end
overflow_sub-end g c = let h = long_enough _ c.in_ok-untrailed_refusal.ensures in omega arith

pub put-requires : goal.put-requires
put-requires g c = let h = long_enough _ c.in_ok-untrailed_refusal.ensures in omega arith

pub returns : goal.returns
returns g c =
    found_mended _ c.in_ok-untrailed_refusal.ensures _ _ _ (c.requires.finds _ _ (says_at g.F.Fn c.search.ensures c.in-Some.is)) c.put.ensures
