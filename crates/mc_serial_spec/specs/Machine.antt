-- The plain machine of a serial run: lists alone. Its dead chunks, and how a class gets a page.
use Rattle.std.specs.Prelude.{ℕ, Bool, not, ◌&&◌, nat_lt, if◌then◌else◌, List, [], length, filter, fold, Option, Some, None}
use Rattle.std.specs.List.{range_with_len}
use Rattle.mc_classes.specs.Classes.{Classes}
use Rattle.mc_pages.specs.declared.ids.ChunkId.{ChunkId}
use Rattle.mc_pages.specs.SlabState.{SlabState, fresh_slabs, class_at}
use Rattle.mc_pages.specs.Accounted.{first_chunks}
use Rattle.mc_pages.specs.Changes.{after_back, after_grow, after_cut, next_page}
use Rattle.mc_watch.specs.Decider.{DeciderState, fresh_decider}
use Rattle.mc_serial_spec.specs.Items.{Items, has_linked_item, has_unlinked_item, without_item}
use Rattle.mc_serial_spec.specs.Holds.{Holds, no_holds, is_held}

-- the size classes; how many chunks a turn of the mover looks at; the pages and chunks; the items; who holds which; how many turns were
-- done; and the windows that the automover was fed
pub record Machine : Type 0 where
  pub table : Classes
  pub bulk : ℕ
  pub slabs : SlabState
  pub items : Items
  pub holds : Holds
  pub turns : ℕ
  pub decider : DeciderState

-- the automover works in this mode
abbrev pub with_mode : SlabState → ℕ → SlabState
with_mode slabs mode = record slabs { automove = mode }

-- nothing is stored yet, and the automover works in this mode
abbrev pub fresh_machine : Classes → ℕ → ℕ → Machine
fresh_machine table bulk mode = record {
  table = table;
  bulk = bulk;
  slabs = with_mode (fresh_slabs table) mode;
  items = [];
  holds = no_holds;
  turns = 0;
  decider = fresh_decider table;
}

-- the class has a free chunk
abbrev pub has_free : Machine → ℕ → Bool
has_free m class = nat_lt 0 (length (class_at m.slabs class).free)

-- no key leads to the chunk's item, and nobody holds it
abbrev pub is_dead_in : Machine → ChunkId → Bool
is_dead_in m chunk = has_unlinked_item m.items chunk && not (is_held m.holds chunk)

-- a key leads to the chunk's item, and nobody holds it
abbrev pub has_unheld_linked_item : Machine → ChunkId → Bool
has_unheld_linked_item m chunk = has_linked_item m.items chunk && not (is_held m.holds chunk)

-- the class's dead chunks, oldest handed out first
abbrev pub dead_chunks : Machine → ℕ → List ChunkId
dead_chunks m class = filter (is_dead_in m) (class_at m.slabs class).order

-- a chunk is put back, and its item is gone
abbrev pub after_reclaim : Machine → ChunkId → Machine
after_reclaim m chunk = record m { slabs = after_back m.slabs chunk; items = without_item m.items chunk }

-- the class's dead chunks are put back
abbrev pub machine_after_sweep : Machine → ℕ → Machine
machine_after_sweep m class = fold after_reclaim m (dead_chunks m class)

-- the dead chunks of all classes are put back, class 1 first
abbrev pub all_swept : Machine → Machine
all_swept m = fold machine_after_sweep m (range_with_len 1 (length m.slabs.classes))

-- all chunks of a page that was just given to the class are cut
abbrev pub with_cut_page : SlabState → ℕ → ℕ → SlabState
with_cut_page slabs class page = fold after_cut slabs (first_chunks page (class_at slabs class).per_page)

-- the class gets this page, if there is one, and its chunks are cut
abbrev pub with_new_page : Machine → ℕ → Option ℕ → Machine
with_new_page m class None = m
with_new_page m class (Some page) = record m { slabs = with_cut_page (after_grow m.slabs class page) class page }

-- with no free chunk the class gets the next page
abbrev pub machine_after_growth : Machine → ℕ → Machine
machine_after_growth m class = if has_free m class then m else with_new_page m class (next_page m.slabs class)

-- the machine after a class without a free chunk got its dead chunks back, and a page where it had none dead
abbrev pub machine_after_stocking : Machine → ℕ → Machine
machine_after_stocking m class = if has_free m class then m else machine_after_growth (machine_after_sweep m class) class
