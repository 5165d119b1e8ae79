use Rattle.std.proofs.Common.{◌≡◌, ◌++◌, List, Some, length, slice_get}
use Rattle.mc_pages.specs.declared.ids.ChunkId.{ChunkId}
use Rattle.mc_pages.specs.SlabState.{class_at}
use Rattle.mc_pages.proofs.RestOfList.{rest_from}
use Rattle.mc_words.specs.hand.Arenas.{IsHandOf, view}
use Rattle.mc_words.specs.chunk.Copies.{PassesAll}
use Rattle.mc_words.proofs.arena.Arena.find_fit.Given as goal

-- the walk passed over these, and the rest is to come
abbrev pub invariant-loop-next : goal.invariant-loop-next
invariant-loop-next l = record {
  arena : IsHandOf l.fn.self l.hand;
  locks : l.hand.locks ≡ l.fn.hand.locks;
  held : (view l.hand).slabs ≡ Some l.fn.held.shared;
  before : List ChunkId;
  rest : List ChunkId;
  split : (class_at l.fn.held.shared l.fn.class).free ≡ before ++ rest;
  at : l.next ≡ slice_get rest 0;
  passes : PassesAll l.fn.page before (view l.fn.hand) (view l.hand);
}

abbrev pub decreases-loop-next : goal.decreases-loop-next
decreases-loop-next l = length (rest_from l.next (class_at l.fn.held.shared l.fn.class).free)
