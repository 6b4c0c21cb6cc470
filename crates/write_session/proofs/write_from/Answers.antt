-- What the writer gives back lies within the space.
use mathlib.Core.Path.{sym}
use lib.Seq.{length-take-le}
use Rattle.laws.specs.WriterLaws.{writing_within}
use Rattle.write_session.proofs.write_from.Goals as goal

pub slice_bounds-session-end : goal.slice_bounds-session-end
slice_bounds-session-end g c = writing_within _ _ _ c.in-Ok.ensures

pub slice_bounds-write_whole-end : goal.slice_bounds-write_whole-end
slice_bounds-write_whole-end g c = sym (length-take-le _ _ (writing_within _ _ _ c.in-Ok.ensures))
