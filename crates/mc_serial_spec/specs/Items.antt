-- The items of a serial run, each in its chunk, in the order of the chunks.
use Rattle.std.specs.Prelude.{ℕ, ◌==◌, Bool, false, not, cond, if◌then◌else◌, List, [], ◌∷◌, map, Option, Some, None}
use Rattle.std.specs.Option.{option_map_or}
use Rattle.std.specs.Ordering.{nat_cmp, ordering_then, match_ordering}
use Rattle.std.specs.declared.cmp.Ordering.{Ordering}
use Rattle.std.specs.BTreeMap.{is_at}
use Rattle.mc_pages.specs.declared.ids.ChunkId.{ChunkId}
use Rattle.mc_serial_spec.specs.Item.{Item, is_linked_to, item_after_unlink}

-- the order of chunks: by page, then by index
abbrev pub chunk_cmp : ChunkId → ChunkId → Ordering
chunk_cmp a b = ordering_then (nat_cmp a.page b.page) (nat_cmp a.index b.index)

-- an item, and the chunk that it is in
pub record PlacedItem : Type 0 where
  pub chunk : ChunkId
  pub item : Item

-- the item in this chunk
abbrev pub at_chunk : ChunkId → Item → PlacedItem
at_chunk chunk item = record { chunk = chunk; item = item }

-- all items, by chunk in rising order
abbrev pub Items : Type 0
Items = List PlacedItem

-- the item in a chunk
abbrev pub item_in_chunk : Items → ChunkId → Option Item
item_in_chunk [] chunk = None
item_in_chunk (placed ∷ items) chunk = cond (is_at (chunk_cmp chunk) placed.chunk) (Some placed.item) (item_in_chunk items chunk)

-- an item comes into a chunk, in the place of what was there
abbrev pub with_item : Items → ChunkId → Item → Items
with_item [] chunk item = at_chunk chunk item ∷ []
with_item (placed ∷ items) chunk item =
    match_ordering (chunk_cmp chunk placed.chunk) (at_chunk chunk item ∷ placed ∷ items) (at_chunk placed.chunk item ∷ items)
    (placed ∷ with_item items chunk item)

-- the chunk has no item any more
abbrev pub without_item : Items → ChunkId → Items
without_item [] chunk = []
without_item (placed ∷ items) chunk = cond (is_at (chunk_cmp chunk) placed.chunk) items (placed ∷ without_item items chunk)

-- the items after the item of this chunk, if it has one, was replaced
abbrev pub with_changed_item : Items → ChunkId → Item → Items
with_changed_item [] chunk item = []
with_changed_item (placed ∷ items) chunk item =
    cond (is_at (chunk_cmp chunk) placed.chunk) (at_chunk placed.chunk item ∷ items) (placed ∷ with_changed_item items chunk item)

-- the chunk of the item that the key leads to
abbrev pub linked_chunk : Items → ℕ → Option ChunkId
linked_chunk [] key = None
linked_chunk (placed ∷ items) key = if is_linked_to key placed.item then Some placed.chunk else linked_chunk items key

-- the key leads to no item any more
abbrev pub unlinked_items : Items → ℕ → Items
unlinked_items items key = map (λ placed. at_chunk placed.chunk (if is_linked_to key placed.item then item_after_unlink placed.item else placed.item)) items

-- the item that was found in the chunk is linked no more
abbrev pub unlinked_in : Items → ChunkId → Option Item → Items
unlinked_in items chunk None = items
unlinked_in items chunk (Some item) = with_changed_item items chunk (item_after_unlink item)

-- the chunk has an item that its key leads to
abbrev pub has_linked_item : Items → ChunkId → Bool
has_linked_item items chunk = option_map_or (λ item. item.linked) (item_in_chunk items chunk) false

-- the chunk has an item that its key leads to no more
abbrev pub has_unlinked_item : Items → ChunkId → Bool
has_unlinked_item items chunk = option_map_or (λ item. not item.linked) (item_in_chunk items chunk) false

-- the chunk has an item of this key
abbrev pub has_key : Items → ℕ → ChunkId → Bool
has_key items key chunk = option_map_or (λ item. item.key == key) (item_in_chunk items chunk) false

-- what was found in a chunk comes into another
abbrev pub with_found_item : Items → ChunkId → ChunkId → Option Item → Items
with_found_item items old new None = items
with_found_item items old new (Some item) = with_item (without_item items old) new item

-- the item of a chunk comes into another
abbrev pub with_moved_item : Items → ChunkId → ChunkId → Items
with_moved_item items old new = with_found_item items old new (item_in_chunk items old)
