use native.Mathlib.Omega.{arith}
use mathlib.Core.List.{◌∷◌}
use Rattle.text.specs.Text.{decimal, decimals}
use Rattle.text.specs.TextLaws.{decimals_last}
use Rattle.text.proofs.PutLaws.{puts_then, puts_next, byte_few}
use Rattle.text.proofs.Page.put_decimals.Goals as goal

pub put_decimal-requires : goal.put_decimal-requires
put_decimal-requires c =
    let few = byte_few (c.type_inv.numbers c.loop-number.number-index).fits in
    omega (arith, c.put.ensures.put.past)

pub loop-number-preserved : goal.loop-number-preserved
loop-number-preserved c =
    let few = byte_few (c.type_inv.numbers c.loop-number.number-index).fits in (
      puts_next decimals (λ n. 0x20 ∷ decimal n) decimals_last _ _ c.loop-number-test.true c.loop-number.invariant.0
          (puts_then c.put.ensures c.put_decimal.ensures),
      omega (arith, c.put.ensures.put.past, c.put_decimal.ensures.put.past),
    )
