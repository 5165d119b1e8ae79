use Rattle.mc_words.proofs.arena.Arena.cut.Given as goal

abbrev pub ghost-add : goal.ghost-add
ghost-add a = a.step
