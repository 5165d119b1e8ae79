-- A size class without its lists, with the room of its page list, and all classes with the lists that are in the rows.
use Rattle.std.specs.Prelude.{ℕ, ◌≤◌, List, [], length, map, slice_index_or, vec_len, vec_capacity}
use Rattle.std.specs.List.{range_with_len}
use Rattle.mc_pages.specs.ClassState.{ClassState, new_class}
use Rattle.mc_pages.specs.Rows.{RowsState}
use Rattle.mc_pages.specs.ClassRows.{with_lists}
use Rattle.mc_pages.specs.declared.class.SlabClass.TheInside.{Inside}

-- the class, its lists empty, and for how many pages there is room
pub record RoomyClass : Type 0 where
  pub state : ClassState
  pub room : ℕ

-- the class is now this, with the same room
abbrev pub in_state : RoomyClass → ClassState → RoomyClass
in_state class state = record class { state = state }

-- the class without its lists
abbrev pub class_without_lists : Inside → ClassState
class_without_lists class = record {
  size = class.size;
  per_page = class.per_page;
  pages = class.pages.items;
  free = [];
  order = [];
  evictions = class.evictions;
}

-- the class and its room
abbrev pub roomy_of : Inside → RoomyClass
roomy_of class = record { state = class_without_lists class; room = class.room }

-- the page list has the room that the class counts, and no more pages than that
pub record HasRoom (class : Inside) : Type 0 where
  pub pages : class.room ≤ vec_capacity class.pages
  pub within : vec_len class.pages ≤ class.room

-- a class without pages and room
abbrev pub empty_class : RoomyClass
empty_class = record { state = new_class 0 0; room = 0 }

-- the classes with their lists, class 1 first
abbrev pub class_states : RowsState → List RoomyClass → List ClassState
class_states rows classes = map (λ place. with_lists (slice_index_or classes place empty_class).state rows place) (range_with_len 0 (length classes))
