use Rattle.mc_words.specs.hand.Ready.{IsReadyHandOf}
use Rattle.test_mover.proofs.tests.trims.play_trimmed.Given as goal

abbrev pub invariant-loop-place : goal.invariant-loop-place
invariant-loop-place g l = IsReadyHandOf l.arena l.hand
