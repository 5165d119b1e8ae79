use Rattle.mc_items.proofs.setting.set.Goals as goal

pub returns-in-Ok-clause-sets : goal.returns-in-Ok-clause-sets
returns-in-Ok-clause-sets g c = c.in-Ok.ensures.sets.0
