use Rattle.std.proofs.Common.{◌≡◌, Some}
use Rattle.mc_words.specs.hand.Arenas.{IsHandOf, view}
use Rattle.test_arena.proofs.tests.words.owner.grow_all.Given as goal

abbrev pub invariant-loop-class : goal.invariant-loop-class
invariant-loop-class g l = IsHandOf l.arena l.hand × ((view l.hand).slabs ≡ Some l.held.shared)
