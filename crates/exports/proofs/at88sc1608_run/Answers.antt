-- From the run and its number.
use native.Mathlib.Omega.{arith}
use Rattle.exports.proofs.ExportLaws.{within, log_fits}
use Rattle.exports.proofs.at88sc1608_run.Goals as goal

pub run_number-requires : goal.run_number-requires
run_number-requires c = within _ _ _ (log_fits _ _ _ c.run.ensures (λ i. omega (arith, c.type_inv.session i)))
