-- The cryptogram replaced.
use Rattle.std.specs.Prelude.{List, ℕ}
use Rattle.model.specs.Lists.{stores}
use Rattle.model.specs.At88sc1608.{at88sc1608}

abbrev pub renewed : List ℕ → List ℕ → List ℕ
renewed xs c = stores (λ i old new. new) at88sc1608.cryptogram_cell xs 0 c
