-- The box's listing is the line of 18, or that of an exam machine; and what the program prints of either.
use Rattle.std.specs.Prelude.{Bool, true, false, List, ◌≡◌, ℕ}
use Rattle.std.proofs.Math.Path.{ap}
use Rattle.model.specs.Refusal.{box_limits}
use Rattle.model.specs.Session.{Ran}
use Rattle.model.specs.Box.{box_refuses}
use Rattle.properties.proofs.BoxLaws.{limited, unlimited}
use Rattle.text.specs.Text.{refused_line}
use Rattle.listing.specs.Listing.{listed, listing, PrintedText, Printed}
use Rattle.box_listing.specs.BoxListing.{box_listing, BoxPrinted, printed_for}

module _ (s log : List ℕ) where
  pub limited_listing : box_refuses s ≡ true → box_listing s log ≡ refused_line box_limits
  unfolding box_listing
  limited_listing e = ap (λ (r : Ran). listed s r.refusal) (limited s log e)

  pub exam_listing : box_refuses s ≡ false → box_listing s log ≡ listing s log
  unfolding box_listing listing
  exam_listing e = ap (λ (r : Ran). listed s r.refusal) (unlimited s log e)

-- what is printed with the option and without
module _ (b : Bool) (s text text' : List ℕ) (r : ℕ) where
  pub for_box : b ≡ true → BoxPrinted s text r text' → PrintedText (printed_for b s) text r text'
  for_box e p = rw e p

  pub for_exam : b ≡ false → Printed s text r text' → PrintedText (printed_for b s) text r text'
  for_exam e p = rw e p
