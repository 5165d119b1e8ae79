use Rattle.std.proofs.Common.{◌∙◌, sym}
use Rattle.mc_core.specs.run.Run.{state_after_all}
use Rattle.mc_core.proofs.Steps.Plays.{more_events, ends_at, tells_end}
use Rattle.mc_core.proofs.run.play_all.Goals as goal

pub loop-place-preserved : goal.loop-place-preserved
loop-place-preserved c =
    more_events c.loop-place.state c.play.new.self c.args.events.now c.loop-place.place c.index-events-place.result c.in_ok-is_done.is_done c.loop-place-test.true
    c.index-events-place.is c.in_ok-is_done.ensures c.if-not-is_done.false
    ∙ c.loop-place.invariant

pub returns : goal.returns
returns c =
    tells_end (state_after_all c.args.state c.args.events.now) c.loop-place.state
    (sym c.loop-place.invariant ∙ ends_at c.loop-place.state c.args.events.now c.loop-place.place c.loop-place-test.false)
