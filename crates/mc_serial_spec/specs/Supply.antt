-- How a set comes to a chunk: a free one, else a dead one, else one of a new page, else one whose item is evicted.
use Rattle.std.specs.Prelude.{ℕ, ◌==◌, Bool, not, ◌&&◌, find, Option, Some, None, if◌then◌else◌}
use Rattle.std.specs.Option.{is_some}
use Rattle.mc_pages.specs.declared.ids.ChunkId.{ChunkId}
use Rattle.mc_pages.specs.ClassState.{first_free}
use Rattle.mc_pages.specs.Eviction.{eviction_candidates}
use Rattle.mc_pages.specs.SlabState.{class_at}
use Rattle.mc_pages.specs.Changes.{after_evicted}
use Rattle.mc_serial_spec.specs.Machine.{Machine, has_free, has_unheld_linked_item, after_reclaim, machine_after_stocking}

-- the chunk of the item that is evicted: the first of the class's candidates that nobody holds. None of them is dead, as
-- those were put back before
abbrev pub victim : Machine → ℕ → Option ChunkId
victim m class = find (has_unheld_linked_item m) (eviction_candidates m.slabs class)

-- the item in this chunk, if there is one, is evicted, and the chunk put back
abbrev pub with_eviction : Machine → ℕ → Option ChunkId → Machine
with_eviction m class None = m
with_eviction m class (Some chunk) = let back = after_reclaim m chunk in record back { slabs = after_evicted back.slabs class }

-- the machine after a class without a free chunk evicted an item
abbrev pub machine_after_eviction : Machine → ℕ → Machine
machine_after_eviction m class = if has_free m class then m else with_eviction m class (victim m class)

-- the machine in which the class has a free chunk, where there is a way to one
abbrev pub machine_after_supply : Machine → ℕ → Machine
machine_after_supply m class = machine_after_eviction (machine_after_stocking m class) class

-- the chunk that the class hands out next, once it came to a free one
abbrev pub supply : Machine → ℕ → Option ChunkId
supply m class = first_free (class_at (machine_after_supply m class).slabs class)

-- a set in this class evicts an item: neither a free nor a dead chunk nor a page is there for it
abbrev pub needs_eviction : Machine → ℕ → Bool
needs_eviction m class = not (has_free (machine_after_stocking m class) class) && is_some (victim (machine_after_stocking m class) class)

-- in mode 2 an eviction asks for a page
abbrev pub asks_for_page : Machine → ℕ → Bool
asks_for_page m class = needs_eviction m class && m.slabs.automove == 2
