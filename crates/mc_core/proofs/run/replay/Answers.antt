use Rattle.mc_classes.proofs.Accepted.{accepted}
use Rattle.mc_core.proofs.Steps.Plays.{played}
use Rattle.mc_core.proofs.run.replay.Goals as goal

pub new-requires-clause-stripes : goal.new-requires-clause-stripes
new-requires-clause-stripes c = (accepted c.args.config.now c.requires.config).stripes

pub returns : goal.returns
returns c =
    played c.args.config.now c.args.hands c.args.events.now c.play_all.result c.in-Ok.table c.in_ok-state.state c.in-Ok.ensures.table c.in_ok-state.ensures c.play_all.ensures
