-- The numbers before this one are put, and none is longer than four digits.
use Rattle.std.proofs.Common.{◌+◌, ◌*◌, ◌≤◌, take}
use Rattle.text.specs.Put.{Puts}
use Rattle.text.specs.Text.{decimals}
use Rattle.text.proofs.Page.put_decimals.Given as goal

abbrev pub invariant-loop-number : goal.invariant-loop-number
invariant-loop-number l =
    Puts l.initial.self (decimals (take l.number-index l.numbers)) l.self × (l.self.at ≤ l.initial.self.at + 5 * l.number-index)
