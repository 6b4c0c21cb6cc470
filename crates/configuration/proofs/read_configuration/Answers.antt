use Rattle.std.proofs.Common.{◌≤◌, ◌++◌, drop, ap, sym, ◌∙◌, arith, rules}
use Rattle.configuration.proofs.ConfigurationLaws.{read_configuration_lem, tab_full}
use Rattle.access.specs.VolatileState.{active_of, volatile_of}
use Rattle.std.proofs.lemmas.List.{length-take-le}
use Rattle.laws.specs.Loops.{tab_start, tab_next}
use Rattle.configuration.proofs.read_configuration.Goals as goal

pub loop-i-init : goal.loop-i-init
loop-i-init c = search tab_start

pub loop-i-preserved : goal.loop-i-preserved
loop-i-preserved c = search (rules, tab_next)

pub returns : goal.returns
returns c =
    let h : _ ≤ 128 = c.requires.1 in
    let e = read_configuration_lem c.args.card.now (volatile_of c.args.state) c.args.address c.new-column.result
    (ap active_of c.new-column.ensures.active) c.args.count c.new-column.ensures.permissions h in
    let n = length-take-le c.args.count c.args.response.now c.requires.2 in
    ap (λ l. l ++ drop c.args.count c.args.response.now)
    (tab_full _ c.loop-i.i c.args.count _ _ c.loop-i.invariant n (omega (arith, n)) (omega (arith, n)) ∙ sym e)
