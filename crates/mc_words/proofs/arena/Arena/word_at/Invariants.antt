use Rattle.mc_words.proofs.arena.Arena.word_at.Given as goal

abbrev pub ghost-look : goal.ghost-look
ghost-look a = a.step
