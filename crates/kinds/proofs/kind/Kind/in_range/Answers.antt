-- The digit of the kind, the count and the time, each by its test.
use borrow.Author.Rules.{rules}
use Rattle.kinds.specs.KindNumber.{kind_number, kind_within}
use Rattle.kinds.proofs.DigitLaws.{range_digit}
use Rattle.kinds.proofs.NamedLaws.{is_wait, is_configuration_read}
use Rattle.kinds.proofs.kind.Kind.in_range.Goals as goal

pub returns : goal.returns
returns c =
    let h = range_digit c.args.a c.args.n (search rules) (search rules) (kind_number c.args.self) (kind_within c.args.self) in
    let w = is_wait c.args.self in
    let r = is_configuration_read c.args.self in
    cc
