-- Each return by the tests that led to it.
use Rattle.std.proofs.Common.{arith}
use Rattle.session_log.proofs.FindLaws.{no_trailer, trailer_is, bad_entries, entries_found}
use Rattle.session_log.proofs.find.fetch.Goals as goal

pub returns-then-not-trailer_ok : goal.returns-then-not-trailer_ok
returns-then-not-trailer_ok c = no_trailer _ _ c.trailer_ok.ensures _ c.if-not-trailer_ok.true

pub overflow_sub-length : goal.overflow_sub-length
overflow_sub-length c = let t = trailer_is _ _ c.trailer_ok.ensures c.if-not-trailer_ok.false in omega arith

pub get-count-requires-clause-within : goal.get-count-requires-clause-within
get-count-requires-clause-within c = let t = trailer_is _ _ c.trailer_ok.ensures c.if-not-trailer_ok.false in omega arith

pub overflow_sub-length-2 : goal.overflow_sub-length-2
overflow_sub-length-2 c = let t = trailer_is _ _ c.trailer_ok.ensures c.if-not-trailer_ok.false in omega arith

pub get-end-requires-clause-within : goal.get-end-requires-clause-within
get-end-requires-clause-within c = let t = trailer_is _ _ c.trailer_ok.ensures c.if-not-trailer_ok.false in omega arith

pub scan-requires : goal.scan-requires
scan-requires c = let t = trailer_is _ _ c.trailer_ok.ensures c.if-not-trailer_ok.false in omega arith

pub returns-in_default : goal.returns-in_default
returns-in_default c =
    bad_entries _ _ _ c.trailer_ok.ensures c.if-not-trailer_ok.false _ _ c.get-count.ensures.number c.get-end.ensures.number _ c.in_default.ensures

pub returns : goal.returns
returns c =
    entries_found _ _ _ c.trailer_ok.ensures c.if-not-trailer_ok.false _ _ c.get-count.ensures.number c.get-end.ensures.number _ c.in-Ok.ensures _
    c.ok_or.ensures.value
