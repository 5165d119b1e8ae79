use Rattle.mc_words.proofs.arena.Arena.begin_move.Given as goal

abbrev pub ghost-tell : goal.ghost-tell
ghost-tell a = (a.change, a.step)
