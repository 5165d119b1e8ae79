use Rattle.std.proofs.Common.{◌≡◌, ◌++◌, List, Some, length}
use Rattle.mc_pages.specs.declared.ids.ChunkId.{ChunkId}
use Rattle.mc_pages.specs.SlabState.{class_at}
use Rattle.mc_pages.proofs.RestOfList.{rest_from}
use Rattle.mc_words.specs.hand.Arenas.{IsHandOf, view}
use Rattle.mc_words.specs.chunk.Sweeps.{SweepsEach}
use Rattle.mc_words.proofs.Chunks.Sweeps.{IsSweptTo}
use Rattle.mc_words.proofs.arena.Arena.walk.Given as goal

-- the walk came so far, and what is left of the order is what was to come at first
abbrev pub invariant-loop-next : goal.invariant-loop-next
invariant-loop-next l = record {
  arena : IsHandOf l.fn.self l.hand;
  locks : l.hand.locks ≡ l.fn.hand.locks;
  held : (view l.hand).slabs ≡ Some l.held.shared;
  swept : IsSweptTo l.held.shared (view l.hand).row.looks l.fn.class l.next;
  done : List ChunkId;
  split : (class_at l.fn.held.shared l.fn.class).order ≡ done ++ swept.rest;
  so_far : SweepsEach done (view l.fn.hand) l.fn.held.shared (view l.hand) l.held.shared;
}

abbrev pub decreases-loop-next : goal.decreases-loop-next
decreases-loop-next l = length (rest_from l.next (class_at l.held.shared l.fn.class).order)
