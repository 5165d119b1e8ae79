use Rattle.std.proofs.Common.{◌≡◌, ◌<◌, true, List, Some}
use Rattle.mc_pages.specs.declared.ids.ChunkId.{ChunkId}
use Rattle.mc_pages.specs.SlabState.{class_at, class_of_page}
use Rattle.mc_core.specs.run.Silent.{is_among}
use Rattle.mc_words.specs.hand.Arenas.{IsHandOf, setup_of, view}
use Rattle.mc_words.specs.chunk.Dead.{AreHandedOut, IsAliveOrNoted}
use Rattle.mc_words.specs.chunk.Sweeps.{SeesHeaders}
use Rattle.mc_words.proofs.arena.Arena.look_over.Given as goal

-- each chunk of the class on a page below was looked at and judged
abbrev pub invariant-loop-page : goal.invariant-loop-page
invariant-loop-page l = record {
  arena : IsHandOf l.self l.hand;
  locks : l.hand.locks ≡ l.fn.hand.locks;
  held : (view l.hand).slabs ≡ Some l.held.shared;
  out : AreHandedOut (setup_of l.self).table l.held.shared l.class l.dead;
  looked : List ChunkId;
  sees : SeesHeaders looked (view l.fn.hand) (view l.hand);
  judged : (chunk : ChunkId) → class_of_page l.held.shared chunk.page ≡ l.class → chunk.page < l.page → chunk.index < (class_at l.held.shared l.class).per_page
      → (is_among looked chunk ≡ true) × IsAliveOrNoted (view l.hand).row.looks l.dead chunk;
}
