use Rattle.std.proofs.Common.{◌≤◌}
use Rattle.mc_words.specs.hand.Arenas.{IsHandOf}
use Rattle.test_arena.proofs.tests.words.threads.work.Given as goal

abbrev pub invariant-loop-round : goal.invariant-loop-round
invariant-loop-round g l = IsHandOf l.arena l.hand × (l.rounds ≤ l.round)
