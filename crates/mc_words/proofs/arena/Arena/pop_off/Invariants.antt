use Rattle.mc_words.proofs.arena.Arena.pop_off.Given as goal

abbrev pub ghost-add : goal.ghost-add
ghost-add a = a.step
