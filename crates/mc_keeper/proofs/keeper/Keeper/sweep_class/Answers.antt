use Rattle.mc_keeper.proofs.keeper.Keeper.sweep_class.Goals as goal

pub returns-in-Some : goal.returns-in-Some
returns-in-Some c = record { swept = rw (c.in-Some.ensures.only) c.reclaim_only.ensures.reclaimed }
