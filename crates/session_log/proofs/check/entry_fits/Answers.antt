-- A kind, or that of an ignored record.
use Rattle.std.proofs.Common.{refl}
use Rattle.kinds.specs.KindNumber.{kind_known}
use Rattle.session_log.proofs.LogCheckLaws.{fits_known, fits_ignored}
use Rattle.session_log.proofs.check.entry_fits.Goals as goal

pub returns-in-Ok : goal.returns-in-Ok
returns-in-Ok c =
    fits_known _ _ _ refl _ (rw (← c.in-Ok.ensures) (kind_known c.in-Ok.kind)) (rw c.in-Ok.ensures at c.length_fits.ensures)

pub returns-then-is_ignored_kind : goal.returns-then-is_ignored_kind
returns-then-is_ignored_kind c =
    fits_ignored _ _ _ refl _ _ c.in-Err.ensures c.is_ignored_kind.ensures (rw c.if-is_ignored_kind.true)

pub returns-else-is_ignored_kind : goal.returns-else-is_ignored_kind
returns-else-is_ignored_kind c =
    fits_ignored _ _ _ refl _ _ c.in-Err.ensures c.is_ignored_kind.ensures (rw c.if-is_ignored_kind.false)
