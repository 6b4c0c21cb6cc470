-- From the state that was read, the command and the state that was written.
use Rattle.std.proofs.Common.{arith}
use Rattle.exports.proofs.ExportLaws.{accepted_long, response_fits, still_long}
use Rattle.exports.proofs.at88sc1608_command.Goals as goal

pub write_state-requires : goal.write_state-requires
write_state-requires c =
    still_long _ _ _ _ _ _ c.map.ensures.variant (accepted_long _ _ _ _ _ c.read_state-before.ensures _ c.command-replied.ensures)

pub reply_number-requires : goal.reply_number-requires
reply_number-requires c =
    response_fits _ _ _ _ _ c.read_state-before.ensures _ c.in-Ok.ensures (λ i. omega (arith, c.type_inv.record i))
