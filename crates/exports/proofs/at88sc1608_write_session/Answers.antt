-- From what was written and its number.
use Rattle.exports.proofs.ExportLaws.{written_within, session_fits}
use Rattle.exports.proofs.at88sc1608_write_session.Goals as goal

pub run_number-requires : goal.run_number-requires
run_number-requires c = written_within _ _ _ (session_fits _ _ _ c.write_session.ensures)
