use Rattle.mc_words.specs.hand.Ready.{IsReadyHandOf}
use Rattle.test_refusals.proofs.tests.looking.see.Given as goal

abbrev pub invariant-loop-page : goal.invariant-loop-page
invariant-loop-page l = IsReadyHandOf l.arena l.looker
