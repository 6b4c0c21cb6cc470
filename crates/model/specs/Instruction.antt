-- What a record asks, in sixteen kinds: a command of the card, or something about its power, about time, or a write that survives a loss of
-- power ("What each command does", "A card that is busy writing", "Writes that survive a pulled card"). Data bytes are a list.
use Rattle.std.specs.Prelude.{ℕ, Bool, List}

-- what a card with power carries out
pub data Command : Type 0 where
  reset : Command
  -- a zone
  select : ℕ → Command
  -- an address and how many bytes
  read_zone : ℕ → ℕ → Command
  -- an address and the bytes
  write_zone : ℕ → List ℕ → Command
  read_configuration : ℕ → ℕ → Command
  write_configuration : ℕ → List ℕ → Command
  read_fuses : Command
  write_fuses : Command
  -- a selector and the bytes that are presented
  verify_password : ℕ → List ℕ → Command
  begin_authentication : Command
  -- the verdict and the next cryptogram
  verify_authentication : Bool → List ℕ → Command

pub data Instruction : Type 0 where
  power_cycle : Instruction
  issue : Command → Instruction
  -- so many milliseconds pass
  wait : ℕ → Instruction
  -- whether the card is busy
  poll : Instruction
  -- a staged write: an address and the bytes
  write_staged : ℕ → List ℕ → Instruction
  -- a tear is armed: after so many cell writes, with a junk byte
  arm : ℕ → ℕ → Instruction

abbrev pub kind_of : Instruction → ℕ
kind_of power_cycle = 1
kind_of (issue reset) = 2
kind_of (issue (select z)) = 3
kind_of (issue (read_zone a n)) = 4
kind_of (issue (write_zone a xs)) = 5
kind_of (issue (read_configuration a n)) = 6
kind_of (issue (write_configuration a xs)) = 7
kind_of (issue read_fuses) = 8
kind_of (issue write_fuses) = 9
kind_of (issue (verify_password k xs)) = 10
kind_of (issue begin_authentication) = 11
kind_of (issue (verify_authentication v xs)) = 12
kind_of (wait n) = 13
kind_of poll = 14
kind_of (write_staged a xs) = 15
kind_of (arm k junk) = 16
