-- By whether the zone is named.
use Rattle.model.specs.Log.{zoned}
use Rattle.laws.specs.EntryLaws.{header_four, header_three}
use Rattle.header.proofs.header_length.Goals as goal

pub returns-then-names_zone : goal.returns-then-names_zone
returns-then-names_zone c = header_four zoned _ _ c.names_zone.ensures c.if-names_zone.true

pub returns-else-names_zone : goal.returns-else-names_zone
returns-else-names_zone c = header_three zoned _ _ c.names_zone.ensures c.if-names_zone.false
