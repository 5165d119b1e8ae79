use Rattle.std.proofs.Common.{◌≡◌, Some}
use Rattle.mc_words.specs.hand.Arenas.{IsHandOf, view}
use Rattle.test_arena.proofs.tests.words.owner.play_rounds.Given as goal

abbrev pub invariant-loop-popped : goal.invariant-loop-popped
invariant-loop-popped g l = IsHandOf l.arena l.hand × ((view l.hand).slabs ≡ Some l.held.shared)
