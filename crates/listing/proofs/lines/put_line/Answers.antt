-- A number, the kind, the response, the end of the line.
use native.Mathlib.Omega.{arith}
use Rattle.listing.proofs.LineLaws.{line_is, line_put}
use Rattle.listing.proofs.lines.put_line.Goals as goal

pub put_hexes-requires : goal.put_hexes-requires
put_hexes-requires c =
    let l = line_is c.args.number c.args.kind c.args.response.now in
    omega (arith, c.put_decimal.ensures.put.past, c.put_hex.ensures.put.past)

pub returns : goal.returns
returns c = line_put _ _ _ c.put_decimal.ensures c.put_hex.ensures c.put_hexes.ensures c.put.ensures
