use Rattle.mc_words.specs.hand.Arenas.{IsHandOf}
use Rattle.test_arena.proofs.tests.words.locks.lose_both.Given as goal

abbrev pub invariant-loop-stripe : goal.invariant-loop-stripe
invariant-loop-stripe g l = IsHandOf l.arena l.second
