-- The word, the number, the end of the line.
use borrow.Author.Rules.{rules}
use native.Mathlib.Omega.{arith}
use Rattle.text.specs.TextLaws.{decimal_few}
use Rattle.text.proofs.PutLaws.{page_put}
use Rattle.listing.proofs.LineLaws.{word_put}
use Rattle.listing.proofs.lines.put_refusal.Goals as goal

pub put_decimal-requires : goal.put_decimal-requires
put_decimal-requires c =
    let d = decimal_few c.from.result (search rules) in
    omega (arith, c.put_all.ensures.put.past)

pub put-requires : goal.put-requires
put-requires c =
    let d = decimal_few c.from.result (search rules) in
    omega (arith, c.put_all.ensures.put.past, c.put_decimal.ensures.put.past)

pub returns : goal.returns
returns c =
    rw (← c.from.ensures)
    (page_put c.new-page.ensures.bytes c.new-page.ensures.at (word_put c.put_all.ensures c.put_decimal.ensures c.put.ensures) (search rules))
