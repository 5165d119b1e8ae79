use Rattle.mc_words.proofs.arena.Arena.clear.Given as goal

abbrev pub ghost-subtract : goal.ghost-subtract
ghost-subtract a = a.step
