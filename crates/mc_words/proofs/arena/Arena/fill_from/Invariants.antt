use Rattle.mc_words.proofs.arena.Arena.fill_from.Given as goal

abbrev pub ghost-write : goal.ghost-write
ghost-write a = a.step
