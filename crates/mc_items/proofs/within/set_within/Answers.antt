use Rattle.mc_items.proofs.within.set_within.Goals as goal

pub returns-in-Ok-clause-sets : goal.returns-in-Ok-clause-sets
returns-in-Ok-clause-sets c = c.in-Ok.ensures.sets.0
