use Rattle.std.proofs.Common.{◌≡◌, Some}
use Rattle.mc_words.specs.hand.Arenas.{IsHandOf, view}
use Rattle.test_arena.proofs.tests.words.calls.cut_all.Given as goal

abbrev pub invariant-loop-chunk : goal.invariant-loop-chunk
invariant-loop-chunk l = IsHandOf l.arena l.hand × ((view l.hand).slabs ≡ Some l.held.shared)
