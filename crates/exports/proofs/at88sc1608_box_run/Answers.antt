-- From the run in the box and its number.
use Rattle.std.proofs.Common.{arith}
use Rattle.exports.proofs.ExportLaws.{within, box_log_fits}
use Rattle.exports.proofs.at88sc1608_box_run.Goals as goal

pub run_number-requires : goal.run_number-requires
run_number-requires c = within _ _ _ (box_log_fits _ _ _ c.box_run.ensures (λ i. omega (arith, c.type_inv.session i)))
