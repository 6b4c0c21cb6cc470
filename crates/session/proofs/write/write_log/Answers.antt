-- The working card, the entries, the final card and the trailer, each in its place.
use Prim.Native.Nat.{◌+◌, ◌≤◌}
use native.Mathlib.Omega.{arith}
use borrow.Author.Rules.{rules}
use lib.ListN.{length}
use Rattle.model.specs.Sizes.{least_log}
use Rattle.session.proofs.SessionWriteLaws.{session_long, records_ready, entries_room, log_written}
use Rattle.session.proofs.write.write_log.Goals as goal

pub overflow_sub-length : goal.overflow_sub-length
overflow_sub-length c = let l = session_long _ _ c.requires in omega arith

pub get-start-requires-clause-within : goal.get-start-requires-clause-within
get-start-requires-clause-within c = let l = session_long _ _ c.requires in omega arith

pub overflow_sub-length-2 : goal.overflow_sub-length-2
overflow_sub-length-2 c = let l = session_long _ _ c.requires in omega arith

pub get-count-requires-clause-within : goal.get-count-requires-clause-within
get-count-requires-clause-within c = let l = session_long _ _ c.requires in omega arith

pub card_of-card-requires : goal.card_of-card-requires
card_of-card-requires c = let l = session_long _ _ c.requires in omega arith

pub run_records-entries-requires : goal.run_records-entries-requires
run_records-entries-requires c = records_ready _ _ c.requires _ _ _ c.card_of-card.ensures c.get-start.ensures.number c.get-count.ensures.number

pub slice_bounds-copy_from_slice-end : goal.slice_bounds-copy_from_slice-end
slice_bounds-copy_from_slice-end c = let e : c.run_records-entries.result + least_log ≤ length c.args.log.now =
    entries_room _ _ c.requires _ _ _ c.card_of-card.ensures c.get-start.ensures.number c.get-count.ensures.number _ _ _
    c.run_records-entries.ensures in search rules

pub overflow_add-entries : goal.overflow_add-entries
overflow_add-entries c = let e : c.run_records-entries.result + least_log ≤ length c.args.log.now =
    entries_room _ _ c.requires _ _ _ c.card_of-card.ensures c.get-start.ensures.number c.get-count.ensures.number _ _ _
    c.run_records-entries.ensures in omega arith

pub put_trailer-requires : goal.put_trailer-requires
put_trailer-requires c = let e : c.run_records-entries.result + least_log ≤ length c.args.log.now =
    entries_room _ _ c.requires _ _ _ c.card_of-card.ensures c.get-start.ensures.number c.get-count.ensures.number _ _ _
    c.run_records-entries.ensures in omega arith

pub overflow_add-result : goal.overflow_add-result
overflow_add-result c = let e : c.run_records-entries.result + least_log ≤ length c.args.log.now =
    entries_room _ _ c.requires _ _ _ c.card_of-card.ensures c.get-start.ensures.number c.get-count.ensures.number _ _ _
    c.run_records-entries.ensures in omega arith

pub returns : goal.returns
returns c =
    log_written _ _ c.requires _ _ _ c.card_of-card.ensures c.get-start.ensures.number c.get-count.ensures.number _ _ _ c.run_records-entries.ensures _ _ _
    c.copy_from_slice.ensures.after (omega arith) c.put_trailer.ensures
