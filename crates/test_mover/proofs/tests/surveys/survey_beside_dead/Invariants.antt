use Rattle.mc_words.specs.hand.Ready.{IsReadyHandOf}
use Rattle.test_mover.proofs.tests.surveys.survey_beside_dead.Given as goal

abbrev pub invariant-loop-sweep : goal.invariant-loop-sweep
invariant-loop-sweep g l = IsReadyHandOf l.arena l.other
