use Rattle.std.proofs.Common.{◌≡◌, Some, take}
use Rattle.mc_words.specs.hand.Arenas.{IsHandOf, view}
use Rattle.mc_words.specs.chunk.Sweeps.{SweepsEach}
use Rattle.mc_words.proofs.arena.Arena.put_back_each.Given as goal

-- those so far were put back where they were dead
abbrev pub invariant-loop-chunk : goal.invariant-loop-chunk
invariant-loop-chunk l = record {
  arena : IsHandOf l.fn.self l.hand;
  locks : l.hand.locks ≡ l.fn.hand.locks;
  held : (view l.hand).slabs ≡ Some l.held.shared;
  each : SweepsEach (take l.chunk-index l.chunks) (view l.fn.hand) l.fn.held.shared (view l.hand) l.held.shared;
}
