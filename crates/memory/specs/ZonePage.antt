-- The rule of a store in a page of a zone, and the right of a staged write.
use Rattle.std.specs.Prelude.{ℕ, ◌<◌, Bool, cond, not, ◌&&◌, eqb, List, ◌≡◌}
use Rattle.std.specs.Int.Bits.{bit_and}
use Rattle.model.specs.Lists.{stores}
use Rattle.model.specs.Volatile.{Volatile}
use Rattle.model.specs.At88sc1608.{at88sc1608}
use Rattle.model.specs.Staging.{may_stage}
use Rattle.model.specs.Access.{pgo}

-- whether a write to a zone clears bits only, by the fuse byte and the access register
abbrev pub merges_of : ℕ → ℕ → Bool
merges_of f r = not (eqb f 7) && pgo r

abbrev pub merged_of : Bool → ℕ → ℕ → ℕ
merged_of merges old new = cond merges (bit_and old new) new

-- whether a staged write may write, at whatever address
abbrev pub StageRight : Bool → List ℕ → Volatile → Type 0
StageRight may c v = (a : ℕ) → may ≡ may_stage at88sc1608 c v a

-- what a store leaves, by whatever rule says what post allows of the 16 places
abbrev pub StoresBy : (post : ℕ → ℕ → ℕ → ℕ → Type 0) (cell : ℕ → ℕ) (xs c c' : List ℕ) → Type 0
StoresBy post cell xs c c' =
    (rule : ℕ → ℕ → ℕ → ℕ) → ((i old new r : ℕ) → i < 16 → old < 256 → new < 256 → post i old new r → r ≡ rule i old new) → c' ≡ stores rule cell xs 0 c
