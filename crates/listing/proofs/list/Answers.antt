-- The refusal, or the log.
use lib.Seq.{length-take-le}
use mathlib.Core.Path.{refl, sym}
use borrow.Author.Rules.{rules}
use Rattle.listing.proofs.ListedLaws.{list_put, refused_listing, within, log_ready, accepted_listing}
use Rattle.listing.proofs.list.Goals as goal

pub slice_bounds-put_log-end : goal.slice_bounds-put_log-end
slice_bounds-put_log-end c = within _ _ _ c.in-Ok.ensures (λ i. (c.type_inv.session i).fits) refl

pub slice_bounds-put_log-end-in-Ok : goal.slice_bounds-put_log-end-in-Ok
slice_bounds-put_log-end-in-Ok c = sym (length-take-le _ _ (within _ _ _ c.in-Ok.ensures (λ i. (c.type_inv.session i).fits) refl))

pub put_log-requires : goal.put_log-requires
put_log-requires c = log_ready _ _ _ c.in-Ok.ensures (λ i. (c.type_inv.session i).fits) refl

pub returns-in-Ok : goal.returns-in-Ok
returns-in-Ok c =
    list_put _ _ _ c.in-Ok.ensures _ _ _ _ _ (accepted_listing _ _ _ c.in-Ok.ensures (λ i. (c.type_inv.session i).fits) refl) c.put_log.ensures
    (search rules)

pub returns-in-Err : goal.returns-in-Err
returns-in-Err c =
    list_put _ _ _ c.in-Err.ensures _ _ _ _ _ (refused_listing _ _ _ c.in-Err.ensures c.in-Err.why refl) c.put_refusal.ensures (search rules)
