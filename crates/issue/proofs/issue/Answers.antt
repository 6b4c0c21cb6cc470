-- Each arm by what its part ensures.
use mathlib.Core.Path.{refl}
use native.Mathlib.Omega.{arith}
use Rattle.kinds.specs.KindNumber.{number_named}
use Rattle.model.specs.Apply as any
use Rattle.record.specs.DataLaws.{between_some}
use Rattle.record.specs.DecodedRecord.{record_of}
use Rattle.timed_security.specs.IssuedCommandLaws.{without_tries}
use Rattle.issue.proofs.IssuedLaws.{answered, unanswered, last_kind}
use borrow.Author.Rules.{rules}
use Rattle.issue.proofs.issue.Goals as goal

pub answer_to_reset-requires : goal.answer_to_reset-requires
unfolding record_of
answer_to_reset-requires c = (search rules, rw (number_named c.kind.ensures c.in-Reset.is) at c.requires.2.room)

pub read_zone-requires : goal.read_zone-requires
unfolding record_of
read_zone-requires c = (search rules, search rules, rw c.read_count.ensures (rw (number_named c.kind.ensures c.in-ReadZone.is) at c.requires.2.room))

pub slice_bounds-write_zone-count : goal.slice_bounds-write_zone-count
unfolding record_of
slice_bounds-write_zone-count c =
    let f = rw (number_named c.kind.ensures c.in-WriteZone.is) at c.requires.2.ranged in omega (arith, between_some 3 c.args.end c.args.«record».now f.0)

pub slice_bounds-write_zone-start : goal.slice_bounds-write_zone-start
unfolding record_of
slice_bounds-write_zone-start c =
    let f = rw (number_named c.kind.ensures c.in-WriteZone.is) at c.requires.2.ranged in omega (arith, between_some 3 c.args.end c.args.«record».now f.0)

pub read_configuration-requires : goal.read_configuration-requires
unfolding record_of
read_configuration-requires c = (
  search rules,
  (rw (number_named c.kind.ensures c.in-ReadConfiguration.is) at c.requires.2.ranged).1,
  rw (number_named c.kind.ensures
      c.in-ReadConfiguration.is) at c.requires.2.room,
)

pub slice_bounds-write_configuration-count : goal.slice_bounds-write_configuration-count
unfolding record_of
slice_bounds-write_configuration-count c =
    let f = rw (number_named c.kind.ensures c.in-WriteConfiguration.is) at c.requires.2.ranged in omega (
      arith,
      between_some 3 c.args.end
          c.args.«record».now f.1,
    )

pub slice_bounds-write_configuration-start : goal.slice_bounds-write_configuration-start
unfolding record_of
slice_bounds-write_configuration-start c =
    let f = rw (number_named c.kind.ensures c.in-WriteConfiguration.is) at c.requires.2.ranged in omega (
      arith,
      between_some 3 c.args.end
          c.args.«record».now f.1,
    )

pub write_configuration-requires : goal.write_configuration-requires
unfolding record_of
write_configuration-requires c = (search rules, (rw (number_named c.kind.ensures c.in-WriteConfiguration.is) at c.requires.2.ranged).0)

pub read_fuses-requires : goal.read_fuses-requires
unfolding record_of
read_fuses-requires c = (search rules, rw (number_named c.kind.ensures c.in-ReadFuses.is) at c.requires.2.room)

pub slice_bounds-present-count : goal.slice_bounds-present-count
unfolding record_of
slice_bounds-present-count c =
    let f = rw (number_named c.kind.ensures c.in-VerifyPassword.is) at c.requires.2.ranged in
    omega (arith, between_some 2 c.args.end c.args.«record».now (omega (arith, f.1)))

pub slice_bounds-present-start : goal.slice_bounds-present-start
unfolding record_of
slice_bounds-present-start c =
    let f = rw (number_named c.kind.ensures c.in-VerifyPassword.is) at c.requires.2.ranged in
    omega (arith, between_some 2 c.args.end c.args.«record».now (omega (arith, f.1)))

pub present-requires : goal.present-requires
unfolding record_of
present-requires c = (search rules, (rw (number_named c.kind.ensures c.in-VerifyPassword.is) at c.requires.2.ranged).1)

pub slice_bounds-judge-count : goal.slice_bounds-judge-count
unfolding record_of
slice_bounds-judge-count c =
    let k = last_kind _ c.requires.0 c.requires.1 _ c.kind.ensures c.in_default.not-Reset c.in_default.not-Select c.in_default.not-ReadZone
    c.in_default.not-WriteZone c.in_default.not-ReadConfiguration c.in_default.not-WriteConfiguration c.in_default.not-ReadFuses
    c.in_default.not-WriteFuses c.in_default.not-VerifyPassword c.in_default.not-BeginAuthentication in
    let f = rw k at c.requires.2.ranged in omega (arith, between_some 2 c.args.end c.args.«record».now (omega (arith, f)))

pub slice_bounds-judge-start : goal.slice_bounds-judge-start
unfolding record_of
slice_bounds-judge-start c =
    let k = last_kind _ c.requires.0 c.requires.1 _ c.kind.ensures c.in_default.not-Reset c.in_default.not-Select c.in_default.not-ReadZone
    c.in_default.not-WriteZone c.in_default.not-ReadConfiguration c.in_default.not-WriteConfiguration c.in_default.not-ReadFuses
    c.in_default.not-WriteFuses c.in_default.not-VerifyPassword c.in_default.not-BeginAuthentication in
    let f = rw k at c.requires.2.ranged in omega (arith, between_some 2 c.args.end c.args.«record».now (omega (arith, f)))

pub judge-requires : goal.judge-requires
unfolding record_of
judge-requires c =
    let k = last_kind _ c.requires.0 c.requires.1 _ c.kind.ensures c.in_default.not-Reset c.in_default.not-Select c.in_default.not-ReadZone
    c.in_default.not-WriteZone c.in_default.not-ReadConfiguration c.in_default.not-WriteConfiguration c.in_default.not-ReadFuses
    c.in_default.not-WriteFuses c.in_default.not-VerifyPassword c.in_default.not-BeginAuthentication in (search rules, rw k at c.requires.2.ranged)

pub returns-in-Reset : goal.returns-in-Reset
unfolding record_of any.apply
returns-in-Reset c =
    rw (number_named c.kind.ensures c.in-Reset.is) (answered _ _ _ _ _ _ _ _ (without_tries _ _ _ _ _ _ _ _ _ c.settled.ensures.state
    c.settled.ensures.tries refl refl refl
    c.answer_to_reset.ensures.state) c.answer_to_reset.ensures.answer)

pub returns-in-Select : goal.returns-in-Select
unfolding record_of any.apply
returns-in-Select c =
    rw (number_named c.kind.ensures c.in-Select.is) (answered _ _ _ _ _ _ _ _ (without_tries _ _ _ _ _ _ _ _ _ c.settled-in-Select.ensures.state
    c.settled-in-Select.ensures.tries
    refl refl refl c.selecting.ensures) refl)

pub returns-in-ReadZone : goal.returns-in-ReadZone
unfolding record_of any.apply
returns-in-ReadZone c =
    rw ((number_named c.kind.ensures c.in-ReadZone.is), ← c.read_count.ensures) (answered _ _ _ _ _ _ _ _ (without_tries _ _ _ _ _ _ _ _ _
    c.settled-in-ReadZone.ensures.state
    c.settled-in-ReadZone.ensures.tries refl refl refl refl) c.read_zone.ensures)

pub returns-in-WriteZone : goal.returns-in-WriteZone
unfolding record_of any.apply
returns-in-WriteZone c =
    rw (number_named c.kind.ensures c.in-WriteZone.is) (answered _ _ _ _ _ _ _ _ (without_tries _ _ _ _ _ _ _ _ _
    c.settled-in-WriteZone.ensures.state c.settled-in-WriteZone.ensures.tries refl refl
    c.write_zone.ensures refl) refl)

pub returns-in-ReadConfiguration : goal.returns-in-ReadConfiguration
unfolding record_of any.apply
returns-in-ReadConfiguration c =
    rw (number_named c.kind.ensures c.in-ReadConfiguration.is) (answered _ _ _ _ _ _ _ _ (without_tries _ _ _ _ _ _ _ _ _
    c.settled-in-ReadConfiguration.ensures.state c.settled-in-ReadConfiguration.ensures.tries refl refl refl
    refl) c.read_configuration.ensures)

pub returns-in-WriteConfiguration : goal.returns-in-WriteConfiguration
unfolding record_of any.apply
returns-in-WriteConfiguration c =
    rw (number_named c.kind.ensures c.in-WriteConfiguration.is) (answered _ _ _ _ _ _ _ _ (without_tries _ _ _ _ _ _ _ _ _
    c.settled-in-WriteConfiguration.ensures.state c.settled-in-WriteConfiguration.ensures.tries refl refl
    c.write_configuration.ensures refl) refl)

pub returns-in-ReadFuses : goal.returns-in-ReadFuses
unfolding record_of any.apply
returns-in-ReadFuses c =
    rw (number_named c.kind.ensures c.in-ReadFuses.is) (answered _ _ _ _ _ _ _ _ (without_tries _ _ _ _ _ _ _ _ _
    c.settled-in-ReadFuses.ensures.state c.settled-in-ReadFuses.ensures.tries refl refl refl
    refl) c.read_fuses.ensures)

pub returns-in-WriteFuses : goal.returns-in-WriteFuses
unfolding record_of any.apply
returns-in-WriteFuses c = rw (number_named c.kind.ensures c.in-WriteFuses.is) (answered _ _ _ _ _ _ _ _ c.blow_fuse.ensures refl)

pub returns-in-VerifyPassword : goal.returns-in-VerifyPassword
unfolding record_of any.apply
returns-in-VerifyPassword c = rw (number_named c.kind.ensures c.in-VerifyPassword.is) (unanswered _ _ _ _ _ _ _ c.present.ensures refl)

pub returns-in-BeginAuthentication : goal.returns-in-BeginAuthentication
unfolding record_of any.apply
returns-in-BeginAuthentication c = rw (number_named c.kind.ensures c.in-BeginAuthentication.is) (unanswered _ _ _ _ _ _ _ c.begin.ensures refl)

pub returns-in_default : goal.returns-in_default
unfolding record_of any.apply
returns-in_default c =
    let k = last_kind _ c.requires.0 c.requires.1 _ c.kind.ensures c.in_default.not-Reset c.in_default.not-Select c.in_default.not-ReadZone
    c.in_default.not-WriteZone c.in_default.not-ReadConfiguration c.in_default.not-WriteConfiguration c.in_default.not-ReadFuses
    c.in_default.not-WriteFuses c.in_default.not-VerifyPassword c.in_default.not-BeginAuthentication in rw k (unanswered _ _ _ _ _ _ _
    c.judge.ensures refl)
