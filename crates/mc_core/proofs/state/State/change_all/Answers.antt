use Rattle.std.proofs.Common.{◌∙◌}
use Rattle.mc_core.proofs.Steps.Changes.{more_changes}
use Rattle.mc_core.proofs.state.State.change_all.Goals as goal

pub loop-change-preserved : goal.loop-change-preserved
loop-change-preserved c =
    let before = c.loop-change.invariant in
    let more = more_changes c.loop-change.self c.change.new.self c.args.hand c.args.changes.now c.loop-change.change-index _ c.in_ok-change.field-0 c.loop-change-test.true
    c.in_ok-change.ensures c.if-not-branch.false in
    (more.0 ∙ before.0, more.1 ∙ before.1, more.2 ∙ before.2)
