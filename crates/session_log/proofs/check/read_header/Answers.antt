-- Each return by the tests that led to it; the response begins behind three bytes, or four where the zone is named.
use Rattle.session_log.proofs.LogCheckLaws.{Begun, bad_zone, begun_named, begun_unnamed, beyond, misfit, well_read}
use Rattle.session_log.proofs.check.read_header.Goals as goal
use Rattle.session_log.proofs.check.read_header.Goals.{then-names_zone+else-log-from-gt7, else-names_zone, Joined-names_zone}

pub returns-then-log-from-gt7 : goal.returns-then-log-from-gt7
returns-then-log-from-gt7 c = bad_zone _ _ _ _ c.names_zone.ensures c.if-names_zone.true c.if-log-from-gt7.true

begun : (c : Joined-names_zone) → Begun c.args.log.now c.args.at c.if-names_zone.from
begun c =
    elim c.if-names_zone.branch [
      | then-names_zone+else-log-from-gt7 w ↦
          begun_named _ _ c.args.last _ c.names_zone.ensures w.if-names_zone.true w.if-log-from-gt7.false _ w.from-is
      | else-names_zone w ↦ begun_unnamed _ _ c.args.last _ c.names_zone.ensures w.if-names_zone.false _ w.from-is
    ]

pub returns-then-last-from : goal.returns-then-last-from
returns-then-last-from c =
    beyond _ _ _ _ _ c.get-length.ensures.number (begun (goal.at.returns-then-last-from c).Joined-names_zone) c.if-last-from.true

pub returns-then-not-entry_fits : goal.returns-then-not-entry_fits
returns-then-not-entry_fits c =
    misfit _ _ _ _ _ c.get-length.ensures.number (begun (goal.at.returns-then-not-entry_fits c).Joined-names_zone) _ c.entry_fits.ensures
    c.if-not-entry_fits.true

pub returns : goal.returns
returns c =
    well_read _ _ _ _ _ c.get-length.ensures.number (begun (goal.at.returns c).Joined-names_zone) _ c.entry_fits.ensures c.if-last-from.false
    c.if-not-entry_fits.false
