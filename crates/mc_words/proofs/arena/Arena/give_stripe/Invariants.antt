use Rattle.mc_words.proofs.arena.Arena.give_stripe.Given as goal

abbrev pub ghost-give : goal.ghost-give
ghost-give a = (a.lock, a.value)
