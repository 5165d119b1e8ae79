use Rattle.mc_words.specs.hand.Ready.{IsReadyHandOf}
use Rattle.test_mover.proofs.tests.hints.store_four.Given as goal

abbrev pub invariant-loop-index : goal.invariant-loop-index
invariant-loop-index g l = IsReadyHandOf l.arena l.hand
