-- The two digits of the kind, and the count.
use borrow.Author.Rules.{rules}
use Rattle.kinds.specs.KindNumber.{kind_number, kind_within}
use Rattle.kinds.proofs.DigitLaws.{length_digit}
use Rattle.kinds.proofs.kind.Kind.record_length.Goals as goal

pub returns : goal.returns
returns c = let h = length_digit c.args.n (search rules) (kind_number c.args.self) (kind_within c.args.self) in cc
