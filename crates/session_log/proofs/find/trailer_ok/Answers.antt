-- Each return by the tests that led to it.
use Rattle.session_log.proofs.LogCheckLaws.{too_short, no_4_c, no_50, many, no_meeting, no_stage, staging_decides}
use Rattle.session_log.proofs.find.trailer_ok.Goals as goal
use Rattle.session_log.proofs.find.trailer_ok.Goals.{
  then-log-length-ne76-via-then-log-length-ne76,
  then-log-length-ne76-via-else-log-length-ne76+then-log-length-ne80,
}

pub returns-then-length-lt-LEAST_LOG : goal.returns-then-length-lt-LEAST_LOG
returns-then-length-lt-LEAST_LOG c = search too_short

pub returns-then-log-length-ne76 : goal.returns-then-log-length-ne76
returns-then-log-length-ne76 c =
    elim c.then-log-length-ne76.branch [
      | then-log-length-ne76-via-then-log-length-ne76 w ↦ no_4_c _ c.if-length-lt-LEAST_LOG.false w.if-log-length-ne76.true
      | then-log-length-ne76-via-else-log-length-ne76+then-log-length-ne80 w ↦
          no_50 _ c.if-length-lt-LEAST_LOG.false w.if-log-length-ne76.false w.if-log-length-ne80.true
    ]

pub returns-then-get-gt-MOST_RECORDS : goal.returns-then-get-gt-MOST_RECORDS
returns-then-get-gt-MOST_RECORDS c = search many

pub returns-then-offset-length : goal.returns-then-offset-length
returns-then-offset-length c = search no_meeting

pub returns-then-is_fuse_byte : goal.returns-then-is_fuse_byte
returns-then-is_fuse_byte c = search staging_decides

pub returns-else-is_fuse_byte : goal.returns-else-is_fuse_byte
returns-else-is_fuse_byte c = search no_stage
