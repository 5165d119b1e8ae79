use Rattle.mc_words.proofs.arena.Arena.try_stripe.Given as goal

abbrev pub ghost-take : goal.ghost-take
ghost-take a = a.lock
