use Rattle.mc_words.proofs.arena.Arena.trim_ledger.Given as goal

abbrev pub ghost-tell : goal.ghost-tell
ghost-tell a = (a.change, a.step)
