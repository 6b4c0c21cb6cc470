-- From what was mended and its number.
use Rattle.exports.proofs.ExportLaws.{mending_fits}
use Rattle.exports.proofs.at88sc1608_mend.Goals as goal

pub mended_number-requires : goal.mended_number-requires
mended_number-requires c = mending_fits _ _ c.in-Ok.ensures
