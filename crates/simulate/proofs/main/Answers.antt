-- What is printed lies within the text.
use lib.Seq.{length-take-le}
use mathlib.Core.Path.{sym}
use Rattle.simulate.proofs.main.Goals as goal

pub slice_bounds-text-end : goal.slice_bounds-text-end
slice_bounds-text-end c = c.print_for-written.ensures.within

pub slice_bounds-write_all-end : goal.slice_bounds-write_all-end
slice_bounds-write_all-end c = sym (length-take-le _ _ c.print_for-written.ensures.within)
