-- The cells in their order.
use Rattle.std.proofs.Common.{◌≡◌, suc, ◌+◌, arith, rules}
use Rattle.model.specs.Staging.{staged_at}
use Rattle.model.specs.At88sc1608.{at88sc1608}
use Rattle.staging.proofs.CellPutLaws.{behind}
use Rattle.staging.proofs.stage.stage.Goals as goal

pub returns : goal.returns
returns c =
    let values = c.put_row.ensures (λ k. staged_at at88sc1608 (suc (suc (suc k)))) (λ k p h q. let e : p ≡ 2181 + k = search rules in omega arith) in
    behind _ _ _ _ _ _ _ _ c.put.ensures (behind _ _ _ _ _ _ _ _ c.put-2.ensures (behind _ _ _ _ _ _ _ _ c.put-3.ensures (behind _ _ _ _ _ _ _ _ values
    (behind _ _ _ _ _ _ _ _ c.put-4.ensures c.finish.ensures))))
