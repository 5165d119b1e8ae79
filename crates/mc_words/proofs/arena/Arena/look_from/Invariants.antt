use Rattle.std.proofs.Common.{◌≡◌, ℕ, ◌+◌, ◌<◌, ◌≤◌, Some}
use Rattle.mc_pages.specs.declared.ids.ChunkId.{ChunkId}
use Rattle.mc_pages.specs.SlabState.{class_of_page}
use Rattle.mc_words.specs.hand.Arenas.{IsHandOf, setup_of, view}
use Rattle.mc_words.specs.chunk.Dead.{AreHandedOut, IsAliveOrNoted}
use Rattle.mc_words.specs.chunk.Sweeps.{LooksAlong}
use Rattle.mc_words.proofs.arena.Arena.look_from.Given as goal

-- the chunks from the first on and below were looked at and judged, and those that were judged before still are
abbrev pub invariant-loop-offset : goal.invariant-loop-offset
invariant-loop-offset l = record {
  arena : IsHandOf l.self l.hand;
  locks : l.hand.locks ≡ l.fn.hand.locks;
  held : (view l.hand).slabs ≡ Some l.held.shared;
  out : AreHandedOut (setup_of l.self).table l.held.shared (class_of_page l.held.shared l.first.page) l.dead;
  sees : LooksAlong l.first.page l.first.index (l.first.index + l.offset) (view l.fn.hand) (view l.hand);
  judged : (index : ℕ) → l.first.index ≤ index → index < l.first.index + l.offset → IsAliveOrNoted (view l.hand).row.looks l.dead (record { page = l.first.page; index = index });
  kept : (other : ChunkId) → IsAliveOrNoted (view l.fn.hand).row.looks l.fn.dead other → IsAliveOrNoted (view l.hand).row.looks l.dead other;
}
