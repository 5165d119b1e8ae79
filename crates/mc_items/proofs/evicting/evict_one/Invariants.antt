use Rattle.std.proofs.Common.{◌≡◌, ◌++◌, true, List, length, Some}
use Rattle.std.specs.List.{list_all}
use Rattle.mc_pages.specs.declared.ids.ChunkId.{ChunkId}
use Rattle.mc_pages.specs.SlabState.{class_at}
use Rattle.mc_core.specs.declared.look.Look.{Look}
use Rattle.mc_core.specs.model.Looks.{is_found_alive}
use Rattle.mc_words.specs.hand.Arenas.{IsHandOf, view}
use Rattle.mc_words.proofs.Chunks.Sweeps.{IsSweptTo}
use Rattle.mc_items.specs.Evicting.{PassesEach}
use Rattle.mc_items.proofs.evicting.evict_one.Given as goal

-- so many chunks of the order were passed, and the walk is at the one behind them
abbrev pub invariant-loop : goal.invariant-loop
invariant-loop l = record {
  arena : IsHandOf l.arena l.hand;
  locks : l.hand.locks ≡ l.fn.hand.locks;
  slabs : (view l.hand).slabs ≡ Some l.slabs.shared;
  same : l.slabs.shared ≡ l.fn.slabs.shared;
  walk : (looks : List Look) × IsSweptTo l.fn.slabs.shared looks l.fn.class l.next;
  done : List ChunkId;
  count : length done ≡ l.counter;
  split : (class_at l.fn.slabs.shared l.fn.class).order ≡ done ++ walk.1.rest;
  passes : PassesEach l.fn.hand.number done (view l.fn.hand) (view l.hand);
  alive : list_all (is_found_alive (view l.hand).row.looks) (class_at l.fn.slabs.shared l.fn.class).order ≡ true;
}
