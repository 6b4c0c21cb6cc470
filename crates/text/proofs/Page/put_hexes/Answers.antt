use Prim.Native.Nat.{ℕ}
use native.Mathlib.Omega.{arith}
use mathlib.Core.List.{[], ◌∷◌}
use lib.Seq.{length-take-le}
use Rattle.text.specs.Text.{hex, hexes}
use Rattle.text.specs.TextLaws.{hexes_append, hexes_length}
use Rattle.text.proofs.PutLaws.{puts_next}
use Rattle.text.proofs.Page.put_hexes.Goals as goal

pub put_hex-requires : goal.put_hex-requires
put_hex-requires c = omega (arith, hexes_length, length-take-le {A = ℕ}, c.loop-byte.invariant.put.past)

pub loop-byte-preserved : goal.loop-byte-preserved
loop-byte-preserved c =
    puts_next hexes hex (λ xs x. hexes_append xs (x ∷ [])) _ _ c.loop-byte-test.true c.loop-byte.invariant c.put_hex.ensures
