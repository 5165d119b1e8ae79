-- What a machine keeps through every command.
use Rattle.std.specs.Prelude.{◌≡◌, ℕ, ◌+◌, ◌/◌, ◌≤◌, [], ◌∷◌, length, map, None}
use Rattle.std.specs.BTreeMap.{is_at}
use Rattle.mc_classes.specs.Classes.{Classes, IsSound}
use Rattle.mc_pages.specs.declared.ids.ChunkId.{ChunkId}
use Rattle.mc_pages.specs.ClassState.{times_in}
use Rattle.mc_pages.specs.SlabState.{SlabState, HasClass, class_at, class_of_chunk}
use Rattle.mc_pages.specs.Accounted.{truth, IsAccounted}
use Rattle.mc_serial_spec.specs.Item.{is_linked_to}
use Rattle.mc_serial_spec.specs.Items.{Items, chunk_cmp}

-- how often the chunk is among the items
abbrev pub place_count : ChunkId → Items → ℕ
place_count chunk [] = 0
place_count chunk (placed ∷ items) = truth (is_at (chunk_cmp chunk) placed.chunk) + place_count chunk items

-- how many items the key leads to
abbrev pub links_of_key : ℕ → Items → ℕ
links_of_key key [] = 0
links_of_key key (placed ∷ items) = truth (is_linked_to key placed.item) + links_of_key key items

-- table, pages and items agree
pub record IsConsistent (table : Classes) (slabs : SlabState) (items : Items) : Type 0 where
  pub sound : IsSound table
  -- the classes and the limit are the table's, and no page is half cut
  pub classes : length slabs.classes ≡ length table.sizes
  pub per_page : map (λ class. class.per_page) slabs.classes ≡ map (λ size. table.page / size) table.sizes
  pub page : slabs.page ≡ table.page
  pub limit : slabs.limit ≡ table.limit
  pub whole : slabs.uncut ≡ None
  pub accounted : IsAccounted slabs
  -- a key leads to one item at most
  pub one_link : (key : ℕ) → links_of_key key items ≤ 1
  -- a chunk with an item is handed out
  pub handed_out : (chunk : ChunkId) → place_count chunk items ≤ times_in chunk (class_of_chunk slabs chunk).order
  -- a chunk that is handed out has an item
  pub stored : (class : ℕ) (chunk : ChunkId) → HasClass slabs class → times_in chunk (class_at slabs class).order ≤ place_count chunk items
