use Rattle.mc_words.specs.hand.Ready.{IsReadyHandOf}
use Rattle.test_arena.proofs.tests.items.calls.hold_often.Given as goal

abbrev pub invariant-loop-time : goal.invariant-loop-time
invariant-loop-time g l = IsReadyHandOf l.arena l.hand
