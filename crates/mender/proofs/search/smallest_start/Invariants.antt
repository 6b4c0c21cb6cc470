-- What is known while records are read from a start is `Reading`, and while starts are tried `Trying`; nothing is found till both loops are left.
use Rattle.std.proofs.Common.{◌≡◌, ◌-◌, None}
use Rattle.mender.proofs.SearchLaws.{Reading, Trying}
use Rattle.mender.proofs.search.smallest_start.Given as goal

abbrev pub invariant-loop-count : goal.invariant-loop-count
invariant-loop-count l = (l.found ≡ None) × Reading l.session l.start (l.count - 1) l.at

abbrev pub invariant-starts : goal.invariant-starts
invariant-starts l = (l.found ≡ None) × Trying l.session l.start
