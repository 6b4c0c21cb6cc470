use Rattle.access.specs.VolatileState.{volatile_of}
use mathlib.Core.Path.{refl}
use Rattle.memory.proofs.ZoneMemoryLaws.{stage_values}
use borrow.Author.Rules.{rules}
use Rattle.memory.proofs.zone.final_values.Goals as goal

pub returns : goal.returns
returns c =
    stage_values c.args.card.now (volatile_of c.args.state) c.args.address c.requires.1 c.args.bytes.now _ _ _ _
    c.merges-pgo.ensures refl (search rules) c.requires.0 c.merge.ensures
