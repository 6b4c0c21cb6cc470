-- The words about staged writes: where one writes, what becomes of the bytes that it names, and lists that last until the power is back.
use Rattle.std.specs.Prelude.{ℕ, ◌<◌, true, false, List, [], ◌∷◌, ◌++◌, ◌≡◌, length, take, get_or}
use Rattle.model.specs.Sizes.{flag_at}
use Rattle.model.specs.Lists.{at}
use Rattle.model.specs.Cells.{Cell, cell}
use Rattle.model.specs.Instruction.{Instruction}
use Rattle.model.specs.At88sc1608.{at88sc1608, zone_cell}
use Rattle.model.specs.Staging.{is_ready, staged_zone, staged_address, staged_values, may_stage, final_values, spoilt}
use Rattle.model.specs.State.{State}
use Rattle.model.specs.Busy.{is_halted}
use Rattle.model.specs.Call.{Call, Powered, step}
use Rattle.model.specs.Record.{decode}
use Rattle.model.specs.Session.{after}
use Rattle.model.specs.Single.{check, answered_kind, act}

-- a card that is on, has nothing to finish and is not busy, and whose selected zone may be written: a staged write at an address writes
pub record Stageable (m : Powered State) (a : ℕ) : Type 0 where
  pub on : m.state.off ≡ false
  pub idle : is_ready at88sc1608 m.card ≡ false
  pub ready : m.state.busy ≡ 0
  pub may : may_stage at88sc1608 m.card m.state.volatile a ≡ true

-- what it is to leave in the bytes that it names: the bytes of the record, or old AND new under PGO
abbrev pub values_of : Powered State → ℕ → List ℕ → List ℕ
values_of m a xs = final_values at88sc1608 m.card m.state.volatile.zone a xs

-- what is written of a row of cells that is torn: the first k of them, and the next one spoilt
abbrev pub torn_cells : (k junk : ℕ) → List Cell → List Cell
torn_cells k junk ws = take k ws ++ (spoilt at88sc1608 junk (get_or ws k (cell 0 0)) ∷ [])

-- the bytes at address a of zone z, as many as there are values: all as on the card c, or all with their values
pub data OldOrNew (c : List ℕ) (z a : ℕ) (vs d : List ℕ) : Type 0 where
  old : ((k : ℕ) → k < length vs → at d (zone_cell z a k) ≡ at c (zone_cell z a k)) → OldOrNew c z a vs d
  new : ((k : ℕ) → k < length vs → at d (zone_cell z a k) ≡ at vs k) → OldOrNew c z a vs d

-- and every other byte of the zones, the configuration and the fuse byte as on the card c
pub record Survived (c : List ℕ) (z a : ℕ) (vs d : List ℕ) : Type 0 where
  pub named : OldOrNew c z a vs d
  pub others : (i : ℕ) → i < flag_at → ((k : ℕ) → k < length vs → i ≡ zone_cell z a k → ⊥) → at d i ≡ at c i

-- the bytes that the ready write of a card c names have the staged values on the card d, and every other byte before the staging bytes is as on c
pub record Finished (c d : List ℕ) : Type 0 where
  pub named : (k : ℕ) → k < length (staged_values at88sc1608 c)
      → at d (zone_cell (staged_zone at88sc1608 c) (staged_address at88sc1608 c) k) ≡ at (staged_values at88sc1608 c) k
  pub others : (i : ℕ) → i < flag_at
      → ((k : ℕ) → k < length (staged_values at88sc1608 c) → i ≡ zone_cell (staged_zone at88sc1608 c) (staged_address at88sc1608 c) k → ⊥) → at d i ≡ at c i

-- a list of instructions, or of calls: the card is off or has a write to finish before each of them
abbrev pub HaltedBefore : List Instruction → Powered State → Type 0
HaltedBefore [] m = Unit {0}
HaltedBefore (k ∷ ks) m = (is_halted at88sc1608 m.card m.state ≡ true) × HaltedBefore ks (after m k)

unfoldable pub CalledHalted : List Call → Powered State → Type 0
CalledHalted [] m = Unit {0}
CalledHalted (x ∷ xs) m = (is_halted at88sc1608 m.card m.state ≡ true) × CalledHalted xs (step check decode act answered_kind m x)

-- a list of instructions, or of calls: the card is off before each of them, and on behind the last
abbrev pub OffThenOn : List Instruction → Powered State → Type 0
OffThenOn [] m = m.state.off ≡ false
OffThenOn (k ∷ ks) m = (m.state.off ≡ true) × OffThenOn ks (after m k)

unfoldable pub CalledUntilOn : List Call → Powered State → Type 0
CalledUntilOn [] m = m.state.off ≡ false
CalledUntilOn (x ∷ xs) m = (m.state.off ≡ true) × CalledUntilOn xs (step check decode act answered_kind m x)
