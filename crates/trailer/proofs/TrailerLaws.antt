-- Stores one after the other as one run of bytes.
use Prim.Native.Nat.{ℕ, ◌+◌}
use mathlib.Core.List.{List, [], ◌∷◌, ◌++◌}
use mathlib.Core.Path.{◌≡◌, ap, ◌∙◌}
use native.Mathlib.Numerals.{add-four, add_six, add_seven}
use lib.ListN.{set}
use lib.Seq.{sets}
use Rattle.model.specs.Numbers.{bytes_of}

pub trailer_put : (l m₁ m₂ : List ℕ) (i place count first last : ℕ) → m₁ ≡ sets l i (bytes_of 4 place) → m₂ ≡ sets m₁ (i + 4) (bytes_of 2 count)
    → set (set m₂ (i + 6) first) (i + 7) last ≡ sets l i (bytes_of 4 place ++ (bytes_of 2 count ++ (first ∷ last ∷ [])))
trailer_put l m₁ m₂ i place count first last e₁ e₂ =
    ap (λ (m : List ℕ). set (set m (i + 6) first) (i + 7) last) (e₂ ∙ ap (λ (m : List ℕ). sets m (i + 4) (bytes_of 2 count)) e₁)
    ∙ rw (add-four, add_six, add_seven)
