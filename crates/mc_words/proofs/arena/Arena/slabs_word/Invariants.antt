use Rattle.mc_words.proofs.arena.Arena.slabs_word.Given as goal

abbrev pub ghost-look : goal.ghost-look
ghost-look a = a.step
