use Rattle.std.proofs.Common.{◌≡◌, List, Some}
use Rattle.mc_pages.specs.declared.ids.ChunkId.{ChunkId}
use Rattle.mc_pages.specs.SlabState.{class_of_page}
use Rattle.mc_words.specs.hand.Arenas.{IsHandOf, setup_of, view}
use Rattle.mc_words.specs.chunk.Dead.{AreHandedOut, AreJudged, IsAliveOrNoted}
use Rattle.mc_words.specs.chunk.Sweeps.{SeesHeaders}
use Rattle.mc_words.proofs.arena.Arena.look_at_page.Given as goal

-- some chunks were looked at and judged
abbrev pub invariant-loop-word : goal.invariant-loop-word
invariant-loop-word l = record {
  arena : IsHandOf l.self l.hand;
  locks : l.hand.locks ≡ l.fn.hand.locks;
  held : (view l.hand).slabs ≡ Some l.held.shared;
  out : AreHandedOut (setup_of l.self).table l.held.shared (class_of_page l.held.shared l.page) l.dead;
  looked : List ChunkId;
  sees : SeesHeaders looked (view l.fn.hand) (view l.hand);
  judged : AreJudged looked (view l.hand).row.looks l.dead;
  kept : (other : ChunkId) → IsAliveOrNoted (view l.fn.hand).row.looks l.fn.dead other → IsAliveOrNoted (view l.hand).row.looks l.dead other;
}
