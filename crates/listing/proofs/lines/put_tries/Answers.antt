-- The word, the numbers, the end of the line.
use native.Mathlib.Omega.{arith}
use Rattle.listing.proofs.LineLaws.{numbers_length, word_put}
use Rattle.listing.proofs.lines.put_tries.Goals as goal

pub put-requires : goal.put-requires
put-requires c =
    let n = numbers_length _ _ c.tries_of.ensures in
    omega (arith, c.put_all.ensures.put.past, c.put_decimals.ensures.put.past)

pub returns : goal.returns
returns c = rw (← c.tries_of.ensures) (word_put c.put_all.ensures c.put_decimals.ensures c.put.ensures)
