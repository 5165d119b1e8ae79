use Rattle.std.proofs.Common.{◌≡◌, ℕ, ◌+◌, ◌/◌, ◌%◌, ◌<◌, ◌≤◌, true, Some}
use Rattle.mc_pages.specs.declared.ids.ChunkId.{ChunkId}
use Rattle.mc_core.specs.model.Looks.{is_found_alive}
use Rattle.mc_words.specs.hand.Arenas.{IsHandOf, view}
use Rattle.mc_words.specs.chunk.Dead.{IsAliveOrNoted, IsOutside, NotedChunks}
use Rattle.mc_words.specs.chunk.Sweeps.{LooksAlong}
use Rattle.mc_words.proofs.arena.Arena.are_linked_or_free.Given as goal

-- the chunks from the first on and below were looked at, and found alive where the common bits have the tag's lowest one; the others are
-- judged as before
abbrev pub invariant-loop-offset : goal.invariant-loop-offset
invariant-loop-offset l = record {
  arena : IsHandOf l.self l.hand;
  locks : l.hand.locks ≡ l.fn.hand.locks;
  held : (view l.hand).slabs ≡ Some l.held.shared;
  sees : LooksAlong l.first.page l.first.index (l.first.index + l.offset) (view l.fn.hand) (view l.hand);
  alive : l.common / 65536 % 2 ≡ 1 → (index : ℕ) → l.first.index ≤ index → index < l.first.index + l.offset → is_found_alive (view l.hand).row.looks (record { page = l.first.page; index = index }) ≡ true;
  kept : (dead : NotedChunks) (other : ChunkId) → IsOutside l.first.page l.first.index (l.first.index + 4) other → IsAliveOrNoted (view l.fn.hand).row.looks dead other → IsAliveOrNoted (view l.hand).row.looks dead other;
}
