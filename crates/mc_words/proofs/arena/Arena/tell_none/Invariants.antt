use Rattle.mc_words.proofs.arena.Arena.tell_none.Given as goal

abbrev pub ghost-tell : goal.ghost-tell
ghost-tell g a = (a.change, a.step)
