use Rattle.mc_words.specs.hand.Ready.{IsReadyHandOf}
use Rattle.testlib_threads.proofs.threads.driver.end_move.Given as goal

abbrev pub invariant-loop-turn : goal.invariant-loop-turn
invariant-loop-turn g l = IsReadyHandOf l.arena l.hand
