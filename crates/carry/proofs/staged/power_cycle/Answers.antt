-- Nothing to finish; or the staged values, and whether the fuel lasted.
use Rattle.std.proofs.Common.{true, false, ◌∙◌, eq-eqb, ne_eqb, rules}
use Rattle.busy.specs.TimedState.{state_of}
use Rattle.carry.proofs.StagedLaws.{cycle_idle, ready_zone, ready_length, cycle_laid}
use Rattle.carry.proofs.staged.power_cycle.Goals as goal

pub returns-then-card : goal.returns-then-card
returns-then-card c =
    cycle_idle c.args.card.now (state_of c.args.state) _ _ _ c.if-card.true c.quiet.ensures.state c.quiet.ensures.tries
    c.powered_up.ensures

pub slice_bounds-values-end : goal.slice_bounds-values-end
slice_bounds-values-end c = let l = ready_length c.args.card.now (state_of c.args.state) c.requires.1 c.requires.0 c.if-card.false in search rules

pub slice_bounds-finish-end : goal.slice_bounds-finish-end
slice_bounds-finish-end c = let l = ready_length c.args.card.now (state_of c.args.state) c.requires.1 c.requires.0 c.if-card.false in search rules

pub finish-requires : goal.finish-requires
finish-requires c =
    let z = ready_zone c.args.card.now (state_of c.args.state) c.requires.1 c.requires.0 c.if-card.false in
    let l = ready_length c.args.card.now (state_of c.args.state) c.requires.1 c.requires.0 c.if-card.false in
    search rules

pub returns-then-fuel-eq0 : goal.returns-then-fuel-eq0
returns-then-fuel-eq0 c =
    cycle_laid c.args.card.now (state_of c.args.state) c.requires.1 c.requires.0 c.if-card.false _ c.copy_from_slice.ensures.after _ _ _
    c.new-fuel.ensures.cells c.new-fuel.ensures.junk c.finish.ensures true (eq-eqb _ _ c.if-fuel-eq0.true) _ _
    (c.quiet-then-fuel-eq0.ensures.state ∙ c.power_lost.ensures) c.quiet-then-fuel-eq0.ensures.tries

pub returns : goal.returns
returns c =
    cycle_laid c.args.card.now (state_of c.args.state) c.requires.1 c.requires.0 c.if-card.false _ c.copy_from_slice.ensures.after _ _ _
    c.new-fuel.ensures.cells c.new-fuel.ensures.junk c.finish.ensures false (ne_eqb _ _ c.if-fuel-eq0.false) _ _
    (c.quiet-2.ensures.state ∙ c.power_on.ensures) c.quiet-2.ensures.tries
