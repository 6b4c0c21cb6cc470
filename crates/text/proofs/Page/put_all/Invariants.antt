-- The bytes before this one are put.
use Rattle.std.proofs.Common.{take}
use Rattle.text.specs.Put.{Puts}
use Rattle.text.proofs.Page.put_all.Given as goal

abbrev pub invariant-loop-byte : goal.invariant-loop-byte
invariant-loop-byte l = Puts l.initial.self (take l.byte-index l.bytes) l.self
