-- Stores one after the other as one run of bytes.
use Prim.Native.Nat.{ℕ, ◌+◌}
use mathlib.Core.Bool.{true, false}
use mathlib.Core.List.{List}
use mathlib.Core.Path.{◌≡◌, ap, ◌∙◌}
use native.Mathlib.Numerals.{add-one, add-three}
use lib.ListN.{length, set, length-set}
use lib.Seq.{sets, length-sets}
use Rattle.model.specs.Log.{zoned, names_zone, header_bytes}
use Rattle.model.specs.Numbers.{bytes_of}

module _ (l m : List ℕ) (i kind n zone : ℕ) (e : m ≡ sets (set l i kind) (i + 1) (bytes_of 2 n)) where
  pub header_long : length m ≡ length l
  header_long = ap length e ∙ length-sets (set l i kind) (i + 1) (bytes_of 2 n) ∙ length-set l i kind

  pub header_put : names_zone kind ≡ false → m ≡ sets l i (header_bytes zoned kind n zone)
  header_put t = rw t (rw add-one at e)

  pub zone_put : names_zone kind ≡ true → set m (i + 3) zone ≡ sets l i (header_bytes zoned kind n zone)
  zone_put t = rw t (ap (λ (x : List ℕ). set x (i + 3) zone) e ∙ rw (add-one, add-three))
