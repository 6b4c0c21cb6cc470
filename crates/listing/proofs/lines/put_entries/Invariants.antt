-- What is known while entries are left is `Lining`.
use Rattle.listing.proofs.LineLaws.{Lining}
use Rattle.listing.proofs.lines.put_entries.Given as goal

abbrev pub invariant-loop-number : goal.invariant-loop-number
invariant-loop-number l = Lining l.initial.page l.log l.count l.end l.number l.at l.page
