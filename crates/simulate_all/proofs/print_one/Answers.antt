-- What `print` gives back lies within the text.
use lib.Seq.{length-take-le}
use mathlib.Core.Path.{sym}
use Rattle.simulate_all.proofs.print_one.Goals as goal

pub slice_bounds-text-end : goal.slice_bounds-text-end
slice_bounds-text-end g c = c.print-written.ensures.within

pub slice_bounds-write_all-end : goal.slice_bounds-write_all-end
slice_bounds-write_all-end g c = sym (length-take-le _ _ c.print-written.ensures.within)
