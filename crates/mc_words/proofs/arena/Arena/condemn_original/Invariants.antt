use Rattle.mc_words.proofs.arena.Arena.condemn_original.Given as goal

abbrev pub ghost-exchange : goal.ghost-exchange
ghost-exchange a = (a.step, a.look)
