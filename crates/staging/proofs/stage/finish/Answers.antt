-- The page, then the flag.
use Rattle.std.proofs.Common.{◌≡◌, ◌+◌, ◌*◌, ◌/◌, ◌%◌, arith, rules}
use Rattle.model.specs.At88sc1608.{zone_cell}
use Rattle.staging.proofs.CellPutLaws.{behind}
use Rattle.staging.proofs.stage.finish.Goals as goal

pub returns : goal.returns
returns c =
    behind _ _ _ _ _ _ _ _ (c.put_row.ensures (zone_cell c.args.zone.0 c.args.address) (λ k p h q.
    let e : p ≡ c.args.zone.0 * 256 + c.args.address / 16 * 16 + (c.args.address % 16 + k) % 16 = search rules in omega arith)) c.put.ensures
