use Rattle.mc_words.specs.hand.Ready.{IsReadyHandOf}
use Rattle.test_refusals.proofs.tests.stripes.see_stripes.Given as goal

abbrev pub invariant-loop-stripe : goal.invariant-loop-stripe
invariant-loop-stripe l = IsReadyHandOf l.arena l.looker
