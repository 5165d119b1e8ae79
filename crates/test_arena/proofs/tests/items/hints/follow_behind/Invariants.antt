use Rattle.mc_words.specs.hand.Ready.{IsReadyHandOf}
use Rattle.test_arena.proofs.tests.items.hints.follow_behind.Given as goal

abbrev pub invariant-loop-step : goal.invariant-loop-step
invariant-loop-step g l = IsReadyHandOf l.arena l.hand × IsReadyHandOf l.arena l.other
