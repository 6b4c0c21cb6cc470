-- The header of an ignored record; or a header, then the response, each in its place.
use mathlib.Core.Path.{refl}
use native.Mathlib.Omega.{arith}
use Rattle.laws.specs.KindLaws.{within_known}
use Rattle.session.proofs.SessionWriteLaws.{entry_known, header_room, response_room, entry_ignored, entry_ready, entry_written}
use borrow.Author.Rules.{rules}
use Rattle.session.proofs.write.write_entry.Goals as goal

pub overflow_add-head : goal.overflow_add-head
overflow_add-head c = let k = entry_known _ _ _ _ c.requires.1 _ c.requires.0 in omega arith

pub put_header-end-requires : goal.put_header-end-requires
put_header-end-requires c = header_room _ _ _ _ c.requires.1 _ c.requires.0

pub returns-then-is_ignored : goal.returns-then-is_ignored
returns-then-is_ignored c =
    entry_ignored _ _ _ _ c.requires.1 _ c.requires.0 _ _ c.is_halted-halted.ensures c.is_ignored.ensures c.if-is_ignored.true _ _
    c.put_header-end.ensures.0 c.put_header-end.ensures.1

pub kind-kind-requires : goal.kind-kind-requires
kind-kind-requires c = within_known _ (entry_known _ _ _ _ c.requires.1 _ c.requires.0)

pub put_header-from-requires : goal.put_header-from-requires
put_header-from-requires c = header_room _ _ _ _ c.requires.1 _ c.requires.0

pub slice_bounds-carry_out-count : goal.slice_bounds-carry_out-count
slice_bounds-carry_out-count c =
    let w = response_room _ _ _ _ c.requires.1 _ c.requires.0 _ _ (rw c.kind-kind.ensures at c.answer_length-response.ensures)
    c.put_header-from.ensures.1 in search rules

pub slice_bounds-carry_out-start : goal.slice_bounds-carry_out-start
slice_bounds-carry_out-start c =
    let w = response_room _ _ _ _ c.requires.1 _ c.requires.0 _ _ (rw c.kind-kind.ensures at c.answer_length-response.ensures)
    c.put_header-from.ensures.1 in search rules

pub carry_out-done-requires : goal.carry_out-done-requires
carry_out-done-requires c =
    let k = entry_known _ _ _ _ c.requires.1 _ c.requires.0 in (
      k.0,
      k.1,
      entry_ready _ _ _ _ c.requires.1 _ c.requires.0 _ _ c.is_halted-halted.ensures c.is_ignored.ensures c.if-is_ignored.false _ _ _ _
          (rw c.kind-kind.ensures at c.answer_length-response.ensures) c.put_header-from.ensures.0 c.put_header-from.ensures.1 (rw
          c.kind-kind.ensures at c.record_length-end.ensures) _ _ refl refl,
    )

pub overflow_add-result : goal.overflow_add-result
overflow_add-result c =
    let w = response_room _ _ _ _
    c.requires.1 _
    c.requires.0 _ _
    (rw c.kind-kind.ensures at c.answer_length-response.ensures)
    c.put_header-from.ensures.1 in
    omega arith

pub returns : goal.returns
returns c =
    entry_written _ _ _ _ c.requires.1 _ c.requires.0 _ _ c.is_halted-halted.ensures c.is_ignored.ensures c.if-is_ignored.false _ _ _ _ (rw
    c.kind-kind.ensures at c.answer_length-response.ensures)
    c.put_header-from.ensures.0 c.put_header-from.ensures.1 (rw c.kind-kind.ensures at c.record_length-end.ensures) _ _ refl refl _ _ _ _
    c.carry_out-done.ensures
