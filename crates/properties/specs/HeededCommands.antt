-- A command on a card that heeds its record: what it does to the card, what it answers and what it hands out are what `apply` says of a card that is
-- ready, and only the busy time comes to the state. So what is stated of `apply` holds of such cards; and what is stated of cards, of single commands.
use Rattle.std.specs.Prelude.{ℕ, ◌≤◌, false, List, ◌≡◌, length}
use Rattle.model.specs.Instruction.{Command, Instruction, issue, kind_of}
use Rattle.model.specs.At88sc1608.{at88sc1608}
use Rattle.model.specs.Call.{whole, calling}
use Rattle.model.specs.State.{State}
use Rattle.model.specs.Busy.{makes_busy, ignores}
use Rattle.model.specs.Act.{busied}
use Rattle.model.specs.Record.{decode}
use Rattle.model.specs.Single.{check, answered_kind, apply, act, command}
use Rattle.laws.specs.Effects.{answer_length}
use Rattle.laws.specs.HeededLaws.{issued, called_with, acting_call, issued_call}

pub heeded_command : (c : List ℕ) (s : State) (k : Command) → ignores at88sc1608 c s (issue k) ≡ false
    → act c s (issue k) ≡ busied at88sc1608 (makes_busy at88sc1608 c s.volatile k) s (apply c s.volatile k)
heeded_command = issued at88sc1608

-- A call with the bytes of a record and room for its answer leaves the card and the state that the record leaves, ignored or not, and the answer at
-- the front of the space, whose other bytes are kept. So what is stated of `act` holds of single commands.
pub call_acts : (c : List ℕ) (s : State) (i : Instruction) (bytes space : List ℕ) → check c s ≡ 0 → decode bytes ≡ whole i (length bytes)
    → length (act c s i).report.answer ≤ length space → command c s (calling bytes space) ≡ called_with (answered_kind c s i) space (act c s i)
call_acts = acting_call

-- and where the card heeds it, it does what `apply` says and answers its kind
pub heeded_call : (c : List ℕ) (s : State) (k : Command) (bytes space : List ℕ) → check c s ≡ 0 → decode bytes ≡ whole (issue k) (length bytes)
    → ignores at88sc1608 c s (issue k) ≡ false → answer_length at88sc1608 k ≤ length space
    → command c s (calling bytes space)
    ≡ called_with (kind_of (issue k)) space (busied at88sc1608 (makes_busy at88sc1608 c s.volatile k) s (apply c s.volatile k))
heeded_call = issued_call
