-- A page stored byte by byte.
use Rattle.std.proofs.Common.{refl, ap}
use Rattle.access.specs.VolatileState.{active_of}
use Rattle.configuration.proofs.ConfigurationLaws.{write_configuration_lem}
use Rattle.configuration.proofs.write_configuration.Goals as goal

pub returns : goal.returns
returns c =
    write_configuration_lem _ _ _ c.new-column.result (ap active_of c.new-column.ensures.active) _ _ _ _ c.new-column.ensures.permissions refl refl
    c.requires.1 c.requires.0 c.store_column.ensures
