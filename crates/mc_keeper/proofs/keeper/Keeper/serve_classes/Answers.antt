use Rattle.mc_keeper.proofs.keeper.Keeper.serve_classes.Goals as goal

pub returns-clause-reply : goal.returns-clause-reply
returns-clause-reply g c = rw (← c.sweep.ensures.swept) c.push_classes.ensures.reply
