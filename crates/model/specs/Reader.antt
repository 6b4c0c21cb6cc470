-- The reader over a session ("a reader that holds the session's bytes and a place in them").
use Rattle.std.specs.Prelude.{ℕ, ◌-◌, List, length, take, drop}
use Rattle.model.specs.Sizes.{trailer_size}
use Rattle.model.specs.Call.{Decoded}
use Rattle.model.specs.Instruction.{Instruction}
use Rattle.model.specs.Record.{decode}

-- The end of the records is the start of the trailer. Subtraction stops at 0, so a session shorter than a trailer has its end there.
abbrev pub records_end : ℕ → ℕ
records_end n = n - trailer_size

-- the part of a session from a place up to that end
abbrev pub part_at : List ℕ → ℕ → List ℕ
part_at s i = take (records_end (length s) - i) (drop i s)

-- what the next record is
abbrev pub next_of : List ℕ → ℕ → Decoded Instruction
next_of s i = decode (part_at s i)
