use Rattle.std.proofs.Common.{◌∙◌}
use Rattle.security.proofs.CryptogramLaws.{renewed_lem}
use Rattle.security.proofs.authentication.renew.Goals as goal

pub returns : goal.returns
returns c = c.copy.ensures ∙ renewed_lem c.args.card.now c.args.bytes.now c.requires.1
