-- What a presentation leaves whose bytes were compared.
use Rattle.std.specs.Prelude.{ℕ, Bool, List, eqb}
use Rattle.model.specs.Lists.{at}
use Rattle.model.specs.Volatile.{Volatile}
use Rattle.model.specs.Apply.{attempt_of, presented}
use Rattle.model.specs.At88sc1608.{at88sc1608, counter_at}
use Rattle.model.specs.Call.{Acted}

unfoldable pub settled : List ℕ → Volatile → ℕ → Bool → Acted Volatile
settled c s k right = presented at88sc1608 (attempt_of (eqb (at c (counter_at k)) 0) right) c s k
