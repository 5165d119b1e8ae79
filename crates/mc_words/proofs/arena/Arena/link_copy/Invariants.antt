use Rattle.mc_words.proofs.arena.Arena.link_copy.Given as goal

abbrev pub ghost-fetch_add : goal.ghost-fetch_add
ghost-fetch_add a = a.step
