use Rattle.mc_words.specs.hand.Ready.{IsReadyHandOf}
use Rattle.test_mover.proofs.tests.full.hold_often.Given as goal

abbrev pub invariant-loop-hold : goal.invariant-loop-hold
invariant-loop-hold g l = IsReadyHandOf l.arena l.hand
