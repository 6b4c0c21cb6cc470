-- The single command ("A single command is also public"): the card and the state checked, the record decoded, the command
-- carried out. The checks are for any device; the command itself is the AT88SC1608's.
use Rattle.std.specs.Prelude.{ℕ, Bool, true, cond, not, ◌&&◌, ◌||◌, List, ltb, leb, eqb, length}
use Rattle.model.specs.Lists.{at}
use Rattle.model.specs.Volatile.{Volatile, Active, none, selector}
use Rattle.model.specs.Instruction.{Command, Instruction}
use Rattle.model.specs.Device.{Device}
use Rattle.model.specs.Refusal.{card_length, fuse_byte, staging_bytes, state_out_of_range}
use Rattle.model.specs.Call.{Call, Called, Decoded, Powered, Reply}
use Rattle.model.specs.Call as calls
use Rattle.model.specs.Apply as any
use Rattle.model.specs.Staging as any-staging
use Rattle.model.specs.State.{State, write_time}
use Rattle.model.specs.Busy as any-busy
use Rattle.model.specs.Act as any-act
use Rattle.model.specs.At88sc1608.{at88sc1608}
use Rattle.model.specs.Record.{decode}

-- the four values that a fuse byte can have
abbrev pub is_fuse_byte : ℕ → Bool
is_fuse_byte f = eqb f 7 || (eqb f 6 || (eqb f 4 || eqb f 0))

abbrev pub active_below : ℕ → Active → Bool
active_below n none = true
active_below n (selector k) = ltb k n

abbrev pub volatile_in_range : Device → Volatile → Bool
volatile_in_range D v = ltb v.zone D.zones && active_below D.selectors v.active

abbrev pub state_in_range : Device → State → Bool
state_in_range D s = volatile_in_range D s.volatile && leb s.busy write_time

-- 11, 5, 16, 12 in this order; 0 where none of them applies
unfoldable pub check_of : Device → List ℕ → State → ℕ
check_of D c s =
    cond (not (eqb (length c) D.size)) card_length
    (cond (not (is_fuse_byte (at c D.fuse_at))) fuse_byte
    (cond (not (any-staging.staging_fits D c)) staging_bytes (cond (not (state_in_range D s)) state_out_of_range 0)))

abbrev pub check : List ℕ → State → ℕ
check = check_of at88sc1608

-- whether a card's staging bytes are well
abbrev pub staging_fits : List ℕ → Bool
staging_fits = any-staging.staging_fits at88sc1608

-- the commands of a card that is ready, and every instruction
abbrev pub apply : List ℕ → Volatile → Command → calls.Acted Volatile
apply = any.apply at88sc1608

abbrev pub perform : List ℕ → State → Instruction → calls.Acted State
perform = any-act.perform at88sc1608

abbrev pub act : List ℕ → State → Instruction → calls.Acted State
act = any-act.act at88sc1608

-- the kind that is answered, and logged
abbrev pub answered_kind : List ℕ → State → Instruction → ℕ
answered_kind = any-busy.answered_kind at88sc1608

-- of a record and the room for a response: 11, 5, 16, 12, the record, 9, 10; or the instruction that is carried out
abbrev pub admission : List ℕ → State → List ℕ → ℕ → Decoded Instruction
admission = calls.admission check decode act

abbrev pub admit : List ℕ → State → Call → Decoded Instruction
admit = calls.admit check decode act

-- what a call gives back and leaves
abbrev pub command : List ℕ → State → Call → Called State
command = calls.command check decode act answered_kind

-- what a list of calls gives back and leaves, from a card with its state on
abbrev pub replies : List Call → Powered State → List (Reply State)
replies = calls.replies check decode act answered_kind

abbrev pub final : List Call → Powered State → Powered State
final = calls.final check decode act answered_kind
