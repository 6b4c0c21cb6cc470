-- At the record in turn, `Checking` goes on by its lengths, or ends in its refusal.
use mathlib.Core.Path.{sym}
use native.Mathlib.Omega.{arith}
use borrow.Author.Rules.{rules}
use Rattle.std.proofs.lemmas.Result.{err_from_is_err_and}
use Rattle.model.specs.Reader.{next_of}
use Rattle.laws.specs.ReaderLaws.{next_within}
use Rattle.laws.specs.EntryLaws.{header_short}
use Rattle.record.specs.HeadLaws.{refused_of, whole_of}
use Rattle.validate.proofs.SessionCheckLaws.{checking_refused, kind_within, checking_next}
use Rattle.validate.proofs.check_records.Goals as goal

pub returns-in_err-lengths : goal.returns-in_err-lengths
returns-in_err-lengths c =
    let e = err_from_is_err_and c.from_residual.result c.from_residual.ensures.1 in
    rw (e.1, e.2) (checking_refused _ _ _ _ _ _ c.loop.invariant c.loop-test.true _ (refused_of _ _ c.in_err-lengths.ensures))

pub bounds-session-at : goal.bounds-session-at
bounds-session-at c =
    let k = whole_of _ _ (next_of c.args.session.now c.loop.at) c.in_ok-lengths.ensures in
    kind_within _ _ _ _ _ _ c.loop.invariant c.loop-test.true k.0 _ k.1

pub overflow_add-entries : goal.overflow_add-entries
overflow_add-entries c = let h = header_short _ _ _ c.header_length.ensures in search rules

pub overflow_add-entries-in-loop : goal.overflow_add-entries-in-loop
overflow_add-entries-in-loop c = let h = header_short _ _ _ c.header_length.ensures in search rules

pub overflow_add-at : goal.overflow_add-at
overflow_add-at c =
    let k = whole_of _ _ (next_of c.args.session.now c.loop.at) c.in_ok-lengths.ensures in
    let w = next_within c.args.session.now c.loop.at k.0 c.in_ok-lengths.lengths.record k.1 in
    omega arith

pub loop-preserved : goal.loop-preserved
loop-preserved c =
    let k = whole_of _ _ (next_of c.args.session.now c.loop.at) c.in_ok-lengths.ensures in
    checking_next _ _ _ _ _ _ c.loop.invariant c.loop-test.true k.0 _ _ _ (sym k.1) c.header_length.ensures k.2 (search rules)
