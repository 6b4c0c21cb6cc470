-- An entry lies within the log, and its line has room.
use borrow.Author.Rules.{rules}
use Rattle.listing.proofs.LineLaws.{header_within, response_begins, entry_ends, line_fits, lining_next}
use Rattle.listing.proofs.lines.put_entries.Goals as goal

pub bounds-log-at : goal.bounds-log-at
bounds-log-at c = let h = header_within c.loop-number.invariant c.loop-number-test.true in search rules

pub overflow_add-from : goal.overflow_add-from
overflow_add-from c = let h = response_begins c.loop-number.invariant c.loop-number-test.true c.header_length.ensures in search rules

pub overflow_add-at : goal.overflow_add-at
overflow_add-at c = let h = header_within c.loop-number.invariant c.loop-number-test.true in search rules

pub get-requires-clause-within : goal.get-requires-clause-within
get-requires-clause-within c = let h = header_within c.loop-number.invariant c.loop-number-test.true in search rules

pub overflow_add-next : goal.overflow_add-next
overflow_add-next c =
    let h = entry_ends c.loop-number.invariant c.loop-number-test.true c.header_length.ensures c.get.ensures.number in search rules

pub slice_bounds-put_line-end : goal.slice_bounds-put_line-end
slice_bounds-put_line-end c =
    let h = entry_ends c.loop-number.invariant c.loop-number-test.true c.header_length.ensures c.get.ensures.number in search rules

pub put_line-requires : goal.put_line-requires
put_line-requires c = line_fits c.loop-number.invariant c.loop-number-test.true c.header_length.ensures c.get.ensures.number

pub loop-number-preserved : goal.loop-number-preserved
loop-number-preserved c =
    lining_next c.loop-number.invariant c.loop-number-test.true c.header_length.ensures c.get.ensures.number c.put_line.ensures
