use native.Mathlib.Omega.{arith}
use mathlib.Core.Path.{ap}
use lib.ListN.{length}
use Rattle.text.specs.TextLaws.{decimal_one}
use Rattle.text.proofs.PutLaws.{one_digit, more_digits, fewer_digits}
use Rattle.text.proofs.Page.+put_decimal.Goals as goal
use Rattle.text.proofs.Page.+put_decimal.Goals.{then-number-ge10, else-number-ge10}

pub put_decimal-requires : goal.put_decimal-requires
put_decimal-requires t c = let e = fewer_digits _ c.if-number-ge10.true in (omega arith, omega arith)

pub put-requires : goal.put-requires
put-requires t c =
    elim c.if-number-ge10.branch [
      | then-number-ge10 w ↦ rw w.self-is (omega (arith, fewer_digits _ w.if-number-ge10.true, w.put_decimal.ensures.put.past))
      | else-number-ge10 w ↦ rw w.self-is (omega (arith, ap length (decimal_one _ w.if-number-ge10.false)))
    ]

pub returns : goal.returns
returns t c =
    elim c.if-number-ge10.branch [
      | then-number-ge10 w ↦ more_digits _ w.if-number-ge10.true w.put_decimal.ensures (rw w.self-is at c.put.ensures)
      | else-number-ge10 w ↦ one_digit _ w.if-number-ge10.false (rw w.self-is at c.put.ensures)
    ]
