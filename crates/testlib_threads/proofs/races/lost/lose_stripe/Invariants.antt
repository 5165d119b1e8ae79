use Rattle.mc_words.specs.hand.Arenas.{IsHandOf}
use Rattle.testlib_threads.proofs.races.lost.lose_stripe.Given as goal

abbrev pub invariant-loop-try : goal.invariant-loop-try
invariant-loop-try l = IsHandOf l.arena l.hand
