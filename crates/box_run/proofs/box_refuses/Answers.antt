-- Each return by the tests that led to it.
use native.Mathlib.Omega.{arith}
use borrow.Author.Rules.{rules}
use mathlib.Core.Bool.{◌&&◌}
use mathlib.Core.Path.{◌≡◌, ◌∙◌}
use lib.Dec.{leb}
use Rattle.box_run.proofs.BoxRunLaws.{refused_before, long, too_long, count_decides}
use Rattle.box_run.proofs.box_refuses.Goals as goal

pub returns-then-contains : goal.returns-then-contains
returns-then-contains c =
    let t : c.contains.result ≡ (leb 1 c.outcome_number-number.result && leb c.outcome_number-number.result 4) = search rules in
    refused_before _ _ _ (c.outcome_number-number.ensures ∙ c.frame.ensures) t c.if-contains.true

pub overflow_sub-length : goal.overflow_sub-length
overflow_sub-length c =
    let t : c.contains.result ≡ (leb 1 c.outcome_number-number.result && leb c.outcome_number-number.result 4) = search rules in
    let l = long c.args.session.now _ _ (c.outcome_number-number.ensures ∙ c.frame.ensures) t c.if-contains.false in
    omega arith

pub get-requires-clause-within : goal.get-requires-clause-within
get-requires-clause-within c =
    let t : c.contains.result ≡ (leb 1 c.outcome_number-number.result && leb c.outcome_number-number.result 4) = search rules in
    let l = long c.args.session.now _ _ (c.outcome_number-number.ensures ∙ c.frame.ensures) t c.if-contains.false in
    omega arith

pub returns-then-length-gt-BOX_SESSION : goal.returns-then-length-gt-BOX_SESSION
returns-then-length-gt-BOX_SESSION c =
    let t : c.contains.result ≡ (leb 1 c.outcome_number-number.result && leb c.outcome_number-number.result 4) = search rules in
    too_long _ _ _ (c.outcome_number-number.ensures ∙ c.frame.ensures) t c.if-contains.false c.if-length-gt-BOX_SESSION.true

pub returns-else-length-gt-BOX_SESSION : goal.returns-else-length-gt-BOX_SESSION
returns-else-length-gt-BOX_SESSION c =
    let t : c.contains.result ≡ (leb 1 c.outcome_number-number.result && leb c.outcome_number-number.result 4) = search rules in
    count_decides _ _ _ (c.outcome_number-number.ensures ∙ c.frame.ensures) t c.if-contains.false c.if-length-gt-BOX_SESSION.false _ c.get.ensures.number
