use Rattle.mc_words.specs.hand.Ready.{IsReadyHandOf}
use Rattle.test_arena.proofs.tests.items.compared.play.Given as goal

abbrev pub invariant-loop-place : goal.invariant-loop-place
invariant-loop-place g l = IsReadyHandOf l.arena l.hand
