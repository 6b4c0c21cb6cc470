-- The count, or the digit of the kind.
use Rattle.std.proofs.Common.{◌∙◌}
use Rattle.kinds.proofs.NamedLaws.{zone_answer, configuration_answer, other_answer}
use Rattle.kinds.proofs.kind.Kind.answer_length.Goals as goal

pub returns-in-ReadZone : goal.returns-in-ReadZone
returns-in-ReadZone c = c.read_count.ensures ∙ zone_answer c.args.n c.args.self c.in-ReadZone.is

pub returns-in-ReadConfiguration : goal.returns-in-ReadConfiguration
returns-in-ReadConfiguration c = configuration_answer c.args.n c.args.self c.in-ReadConfiguration.is

pub returns-in_default : goal.returns-in_default
returns-in_default c = c.digit.ensures ∙ other_answer c.args.n c.args.self c.in_default.not-ReadZone c.in_default.not-ReadConfiguration
