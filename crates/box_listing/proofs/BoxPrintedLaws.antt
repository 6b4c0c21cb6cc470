-- What is printed of a session that the box runs, from what the test of its limits found.
use Prim.Native.Nat.{ℕ, ◌*◌, ◌≤◌}
use mathlib.Core.Bool.{Bool, true, false}
use mathlib.Core.List.{List, [], ◌∷◌}
use mathlib.Core.Path.{◌≡◌, sym, ap, ◌∙◌}
use native.Mathlib.Omega.{arith}
use lib.ListN.{length, replicate, length-append}
use lib.Seq.{sets, length-sets}
use Rattle.model.specs.Refusal.{box_limits}
use Rattle.model.specs.Box.{box_refuses}
use Rattle.text.specs.Put.{Put}
use Rattle.text.specs.Text.{decimal, refused_line}
use Rattle.text.specs.TextLaws.{decimal_few}
use Rattle.listing.specs.Listing.{printing_space, Printed}
use Rattle.box_listing.specs.BoxListing.{box_printed, BoxPrinted}
use Rattle.box_listing.specs.BoxListingLaws.{limited_listing, exam_listing}

-- the text that was put is what is printed
put_printed : (s text t text' : List ℕ) (r : ℕ) → t ≡ box_printed s → r ≡ length t → r ≤ length text → text' ≡ sets text 0 t → BoxPrinted s text r text'
put_printed s text t text' r e n h b =
    record {
      whole = n ∙ ap length e;
      within = let l = ap length b ∙ length-sets text 0 t in omega arith;
      bytes = b ∙ ap (sets text 0) e;
    }

module _ (s text : List ℕ) (t : Bool) (test : t ≡ box_refuses s) where
  -- the line has no more than 13 bytes
  pub printed_limited : t ≡ true → length text ≡ 3 * printing_space → (text' : List ℕ) (r : ℕ) → Put text 0 (refused_line box_limits) text' r
      → BoxPrinted s text r text'
  printed_limited e l text' r p =
      let d = decimal_few box_limits (omega arith) in
      let a = length-append (decimal box_limits) (0x0A ∷ []) in
      let n : r ≡ length (refused_line box_limits) = p.past ∙ (omega arith) in
      put_printed s text (refused_line box_limits) text' r (sym (limited_listing s (replicate printing_space 0) (sym test ∙ e))) n (omega arith) p.bytes

  pub printed_unlimited : t ≡ false → (text' : List ℕ) (r : ℕ) → Printed s text r text' → BoxPrinted s text r text'
  printed_unlimited e text' r p =
      let same = sym (exam_listing s (replicate printing_space 0) (sym test ∙ e)) in
      record { whole = p.whole ∙ ap length same; within = p.within; bytes = p.bytes ∙ ap (sets text 0) same }
