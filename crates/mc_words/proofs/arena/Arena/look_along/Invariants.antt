use Rattle.std.proofs.Common.{◌≡◌, ℕ, ◌*◌, ◌<◌, Some}
use Rattle.mc_pages.specs.declared.ids.ChunkId.{ChunkId}
use Rattle.mc_pages.specs.SlabState.{class_of_page}
use Rattle.mc_words.specs.hand.Arenas.{IsHandOf, setup_of, view}
use Rattle.mc_words.specs.chunk.Dead.{AreHandedOut, IsAliveOrNoted}
use Rattle.mc_words.specs.chunk.Sweeps.{LooksAlong}
use Rattle.mc_words.proofs.arena.Arena.look_along.Given as goal

-- the fours below were looked at and judged, and the chunks that were judged before still are
abbrev pub invariant-loop-four : goal.invariant-loop-four
invariant-loop-four l = record {
  arena : IsHandOf l.self l.hand;
  locks : l.hand.locks ≡ l.fn.hand.locks;
  held : (view l.hand).slabs ≡ Some l.held.shared;
  out : AreHandedOut (setup_of l.self).table l.held.shared (class_of_page l.held.shared l.page) l.dead;
  sees : LooksAlong l.page 0 (4 * l.four) (view l.fn.hand) (view l.hand);
  judged : (index : ℕ) → index < 4 * l.four → IsAliveOrNoted (view l.hand).row.looks l.dead (record { page = l.page; index = index });
  kept : (other : ChunkId) → IsAliveOrNoted (view l.fn.hand).row.looks l.fn.dead other → IsAliveOrNoted (view l.hand).row.looks l.dead other;
}
