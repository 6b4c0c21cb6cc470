-- Forbidden; or the final values, and whether the fuel lasted.
use Rattle.std.proofs.Common.{not, true, false, ap, refl, ◌∙◌, eq-eqb, ne_eqb}
use Rattle.model.specs.State.{arming as rearmed, untorn}
use Rattle.busy.specs.TimedState.{state_of}
use Rattle.carry.proofs.StagedLaws.{stage_forbidden, stage_laid}
use Rattle.carry.proofs.staged.write_staged.Goals as goal

pub returns-then-not-may_stage : goal.returns-then-not-may_stage
returns-then-not-may_stage c =
    stage_forbidden c.args.card.now (state_of c.args.state) c.args.address c.args.bytes.now _ _ _ _
    (c.may_stage.ensures c.args.address) (ap not c.if-not-may_stage.true) c.quiet.ensures.state c.quiet.ensures.tries c.timed-writing.ensures

pub returns-then-fuel-eq0 : goal.returns-then-fuel-eq0
returns-then-fuel-eq0 c =
    stage_laid c.args.card.now (state_of c.args.state) c.args.address c.args.bytes.now _
    (c.may_stage.ensures c.args.address) (ap not c.if-not-may_stage.false) c.requires.2 _ _ refl c.final_values.ensures _ _ _
    c.new-fuel.ensures.cells c.new-fuel.ensures.junk c.stage.ensures true (eq-eqb _ _ c.if-fuel-eq0.true) _ _
    (c.quiet-then-fuel-eq0.ensures.state ∙ c.power_lost.ensures) c.quiet-then-fuel-eq0.ensures.tries

pub returns : goal.returns
returns c =
    stage_laid c.args.card.now (state_of c.args.state) c.args.address c.args.bytes.now _
    (c.may_stage.ensures c.args.address) (ap not c.if-not-may_stage.false) c.requires.2 _ _ refl c.final_values.ensures _ _ _
    c.new-fuel.ensures.cells c.new-fuel.ensures.junk c.stage.ensures false (ne_eqb _ _ c.if-fuel-eq0.false) _ _
    (c.quiet-2.ensures.state ∙ c.arming.ensures ∙ (λ j. rearmed (c.timed-writing.ensures j) untorn)) c.quiet-2.ensures.tries
