-- Where the frame is well, the session is long enough and has few enough records.
use mathlib.Core.Path.{sym}
use native.Mathlib.Omega.{arith}
use Rattle.properties.specs.AcceptedSessionLaws.{framed_well}
use Rattle.validate.proofs.check.Goals as goal

pub overflow_sub-length : goal.overflow_sub-length
overflow_sub-length c = omega (arith, (framed_well _ (sym c.in_ok-frame.ensures)).long)

pub get-requires-clause-within : goal.get-requires-clause-within
get-requires-clause-within c = omega (arith, (framed_well _ (sym c.in_ok-frame.ensures)).long)

pub overflow_sub-length-2 : goal.overflow_sub-length-2
overflow_sub-length-2 c = omega (arith, (framed_well _ (sym c.in_ok-frame.ensures)).long)

pub get-requires-2-clause-within : goal.get-requires-2-clause-within
get-requires-2-clause-within c = omega (arith, (framed_well _ (sym c.in_ok-frame.ensures)).long)

pub check_records-requires : goal.check_records-requires
check_records-requires c = rw c.get-2.ensures.number (framed_well _ (sym c.in_ok-frame.ensures)).few
