-- The kind, the length behind it, and the zone where it is named.
use Prim.Native.Nat.{◌+◌}
use mathlib.Core.Path.{sym, ap, ◌∙◌}
use Rattle.laws.specs.EntryLaws.{header_four, header_three}
use Rattle.model.specs.Log.{zoned}
use Rattle.session_log.proofs.LogWriteLaws.{header_put, zone_put}
use Rattle.session_log.proofs.write.put_header.Goals as goal

pub returns-then-names_zone : goal.returns-then-names_zone
returns-then-names_zone c =
    let named = sym c.names_zone.ensures ∙ c.if-names_zone.true in (
      zone_put c.args.log.now _ c.args.at c.args.kind c.args.response c.args.zone c.put.ensures named,
      ap (λ n. c.args.at + n) (header_four zoned _ _ c.names_zone.ensures c.if-names_zone.true),
    )

pub returns : goal.returns
returns c =
    let named = sym c.names_zone.ensures ∙ c.if-names_zone.false in (
      header_put c.args.log.now _ c.args.at c.args.kind c.args.response c.args.zone c.put.ensures named,
      ap (λ n. c.args.at + n) (header_three zoned _ _ c.names_zone.ensures c.if-names_zone.false),
    )
