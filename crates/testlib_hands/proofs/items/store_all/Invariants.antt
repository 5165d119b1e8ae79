use Rattle.mc_words.specs.hand.Ready.{IsReadyHandOf}
use Rattle.testlib_hands.proofs.items.store_all.Given as goal

abbrev pub invariant-loop-key : goal.invariant-loop-key
invariant-loop-key g l = IsReadyHandOf l.arena l.hand
