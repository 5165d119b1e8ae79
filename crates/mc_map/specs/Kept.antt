-- What a class keeps: which of some keys have an item in it, and the bytes that these ask for.
use Rattle.std.specs.Prelude.{◌≡◌, ◌≤◌, ℕ, ◌+◌, ◌-◌, ◌*◌, ◌==◌, ◌||◌, nat_lt, Bool, false, if◌then◌else◌, List, length, count_by, sum_by, unwrap_or, Option, Some, None}
use Rattle.std.specs.Option.{is_some, option_and_then, option_map_or}
use Rattle.mc_classes.specs.Classes.{Classes, arena_pages_of, class_of, per_page_of, size_of}
use Rattle.mc_pages.specs.ClassState.{numbers_of}
use Rattle.mc_pages.specs.SlabState.{class_at}
use Rattle.mc_serial_spec.specs.Item.{item_bytes}
use Rattle.mc_serial_spec.specs.Machine.{Machine}
use Rattle.mc_keeper.specs.Calls.{item_words_of_key}
use Rattle.mc_map.specs.declared.kept.ClassLine.{ClassLine}
use Rattle.mc_map.specs.Sums.{IsSummed}

-- an item of n words goes to the class
abbrev pub fits_class : Classes → ℕ → ℕ → Bool
fits_class table class words = option_map_or (λ own. own == class) (class_of table (item_bytes words)) false

-- the bytes that an item of n words asks for, if the item goes to the class
abbrev pub bytes_as : Classes → ℕ → ℕ → Option ℕ
bytes_as table class words = if fits_class table class words then Some (item_bytes words) else None

-- the bytes that the key's item asks for, if the key has one in the class
abbrev pub bytes_of_key : Machine → ℕ → ℕ → Option ℕ
bytes_of_key m class key = option_and_then (λ words. bytes_as m.table class (length words)) (item_words_of_key m key)

-- how many of the keys have an item in the class
abbrev pub linked_count : Machine → ℕ → List ℕ → ℕ
linked_count m class keys = count_by (λ key. is_some (bytes_of_key m class key)) keys

-- the bytes that the items of these keys ask for in the class
abbrev pub asked_bytes : Machine → ℕ → List ℕ → ℕ
asked_bytes m class keys = sum_by (λ key. unwrap_or (bytes_of_key m class key) 0) keys

-- how many chunks a page of the class has, and none where there is no such class
abbrev pub chunks_a_page : Classes → ℕ → ℕ
chunks_a_page table class = if class == 0 || nat_lt (length table.sizes) class then 0 else per_page_of table class

-- the line of class n has the class's numbers, and these counts of linked items, their bytes, held items without a key, and cleared chunks;
-- each chunk of its pages is free, cleared, linked, held without a key, or dead
pub record HasCounts (m : Machine) (class linked asked unlinked cleared : ℕ) (line : ClassLine) : Type 0 where
  pub class_is : line.class ≡ class
  pub size : line.size ≡ size_of m.table class
  pub per_page : line.per_page ≡ per_page_of m.table class
  pub pages : line.pages ≡ (numbers_of (class_at m.slabs class)).pages
  pub chunks : line.chunks ≡ line.pages * line.per_page
  pub free : line.free ≡ (numbers_of (class_at m.slabs class)).free
  pub evictions : line.evictions ≡ (numbers_of (class_at m.slabs class)).evictions
  pub linked_is : line.linked ≡ linked
  pub asked_is : line.asked ≡ asked
  pub unlinked_is : line.unlinked ≡ unlinked
  pub cleared_is : line.cleared ≡ cleared
  pub bytes : line.bytes ≡ line.linked * line.size
  pub dead : line.dead ≡ line.pages * line.per_page - (line.free + line.cleared + line.linked + line.unlinked)
  pub sums : IsSummed line

-- the class has no more pages than there are, and its chunks are at least its free ones and n more
pub record FitsIn (m : Machine) (class more : ℕ) : Type 0 where
  pub pages : (numbers_of (class_at m.slabs class)).pages ≤ arena_pages_of m.table
  pub chunks : (numbers_of (class_at m.slabs class)).free + more ≤ (numbers_of (class_at m.slabs class)).pages * per_page_of m.table class

-- the line has the class's numbers, with the items of these keys; each chunk of its pages is free, cleared, linked, held without a key, or
-- dead
pub record IsLine (m : Machine) (keys : List ℕ) (line : ClassLine) : Type 0 where
  pub size : line.size ≡ size_of m.table line.class
  pub per_page : line.per_page ≡ per_page_of m.table line.class
  pub pages : line.pages ≡ (numbers_of (class_at m.slabs line.class)).pages
  pub chunks : line.chunks ≡ line.pages * line.per_page
  pub free : line.free ≡ (numbers_of (class_at m.slabs line.class)).free
  pub evictions : line.evictions ≡ (numbers_of (class_at m.slabs line.class)).evictions
  pub linked : line.linked ≡ linked_count m line.class keys
  pub asked : line.asked ≡ asked_bytes m line.class keys
  pub bytes : line.bytes ≡ line.linked * line.size
  pub dead : line.dead ≡ line.pages * line.per_page - (line.free + line.cleared + line.linked + line.unlinked)
  pub sums : IsSummed line
