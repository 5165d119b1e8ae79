use Rattle.mc_words.proofs.arena.Arena.finish_move.Given as goal

abbrev pub ghost-tell_page : goal.ghost-tell_page
ghost-tell_page a = (a.change, a.step)
