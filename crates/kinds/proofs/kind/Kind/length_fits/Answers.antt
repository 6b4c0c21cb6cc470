-- Each return by the kind.
use Rattle.laws.specs.Loops.{tests}
use Rattle.kinds.proofs.NamedLaws.{zone_fits, configuration_fits, other_fits}
use Rattle.kinds.proofs.kind.Kind.length_fits.Goals as goal

pub returns-in-ReadZone : goal.returns-in-ReadZone
returns-in-ReadZone c = rw (← zone_fits c.args.response c.args.self c.in-ReadZone.is) (search tests)

pub returns-in-ReadConfiguration : goal.returns-in-ReadConfiguration
returns-in-ReadConfiguration c = rw (← configuration_fits c.args.response c.args.self c.in-ReadConfiguration.is) (search tests)

pub returns-in_default : goal.returns-in_default
returns-in_default c = let h = other_fits c.args.response c.args.self c.in_default.not-ReadZone c.in_default.not-ReadConfiguration in cc
