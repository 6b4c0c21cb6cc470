-- The box's listing or an exam machine's, as the argument says.
use Rattle.box_listing.specs.BoxListingLaws.{for_box, for_exam}
use Rattle.simulate.proofs.print_for.Goals as goal

pub returns-then-boxed : goal.returns-then-boxed
returns-then-boxed c = for_box _ _ _ _ _ c.if-boxed.true c.print_boxed.ensures

pub returns-else-boxed : goal.returns-else-boxed
returns-else-boxed c = for_exam _ _ _ _ _ c.if-boxed.false c.print.ensures
