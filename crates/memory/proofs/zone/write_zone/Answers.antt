-- Kept out, or a page stored.
use mathlib.Core.Bool.{not}
use Rattle.std.proofs.Common.{ap}
use mathlib.Core.Path.{refl}
use borrow.Author.Rules.{rules}
use Rattle.memory.proofs.ZoneMemoryLaws.{write_zone_shut, write_zone_open}
use Rattle.memory.proofs.zone.write_zone.Goals as goal

pub returns-then-not-zone_writable : goal.returns-then-not-zone_writable
returns-then-not-zone_writable c = write_zone_shut _ _ _ c.requires.1 _ _ c.zone_writable.ensures (ap not c.if-not-zone_writable.true)

pub returns : goal.returns
returns c =
    write_zone_open _ _ c.args.address c.requires.1 _ _ _ _ _ c.zone_writable.ensures (ap not c.if-not-zone_writable.false) c.merges-pgo.ensures refl
    (search rules) c.requires.0 c.store.ensures
