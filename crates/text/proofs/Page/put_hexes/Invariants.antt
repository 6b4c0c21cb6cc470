-- The bytes before this one are put.
use Rattle.std.proofs.Common.{take}
use Rattle.text.specs.Put.{Puts}
use Rattle.text.specs.Text.{hexes}
use Rattle.text.proofs.Page.put_hexes.Given as goal

abbrev pub invariant-loop-byte : goal.invariant-loop-byte
invariant-loop-byte l = Puts l.initial.self (hexes (take l.byte-index l.bytes)) l.self
