use Rattle.mc_classes.proofs.Accepted.{accepted}
use Rattle.mc_words.proofs.arena.Arena.from_issue.Goals as goal

pub new-plan-requires-clause-stripes : goal.new-plan-requires-clause-stripes
new-plan-requires-clause-stripes c = (accepted c.args.config.now c.in-Ok.ensures.accepted).stripes
