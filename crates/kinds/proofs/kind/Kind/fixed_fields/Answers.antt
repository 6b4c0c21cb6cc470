-- The digit of the kind.
use Rattle.kinds.specs.KindNumber.{kind_within}
use Rattle.kinds.proofs.DigitLaws.{fields_digit}
use Rattle.kinds.proofs.kind.Kind.fixed_fields.Goals as goal

pub returns : goal.returns
returns c = rw c.digit.ensures (fields_digit _ (kind_within c.args.self))
