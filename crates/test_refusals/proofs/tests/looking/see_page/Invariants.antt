use Rattle.mc_words.specs.hand.Ready.{IsReadyHandOf}
use Rattle.test_refusals.proofs.tests.looking.see_page.Given as goal

abbrev pub invariant-loop-index : goal.invariant-loop-index
invariant-loop-index l = IsReadyHandOf l.arena l.looker
