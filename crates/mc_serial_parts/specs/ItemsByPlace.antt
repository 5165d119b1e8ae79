-- Items by place: for each page, an item or none at each index.
use Rattle.std.specs.Prelude.{◌≡◌, ℕ, ◌+◌, ◌<◌, List, [], ◌∷◌, length, map, slice_index_or, Option, Some, None, Vec}
use Rattle.std.specs.Global.{Global}
use Rattle.mc_pages.specs.declared.ids.ChunkId.{ChunkId}
use Rattle.mc_serial_spec.specs.Item.{Item}
use Rattle.mc_serial_spec.specs.Items.{Items, at_chunk}
use Rattle.mc_serial_parts.specs.declared.table.ItemTable.TheInside.{Inside}

-- the chunk at this index of the page
abbrev pub chunk_of_place : ℕ → ℕ → ChunkId
chunk_of_place page index = record { page = page; index = index }

-- the items of a page from this index on, then those of later pages
abbrev pub items_in : ℕ → ℕ → List (Option Item) → Items → Items
items_in page index [] later = later
items_in page index (None ∷ places) later = items_in page (index + 1) places later
items_in page index (Some item ∷ places) later = at_chunk (chunk_of_place page index) item ∷ items_in page (index + 1) places later

-- the items of all pages from this one on
abbrev pub items_from : ℕ → List (List (Option Item)) → Items
items_from page [] = []
items_from page (places ∷ pages) = items_in page 0 places (items_from (page + 1) pages)

-- two pages have the same items
abbrev pub AreAlike : List (Option Item) → List (Option Item) → Type 0
AreAlike old new = (page : ℕ) (later : Items) → items_in page 0 new later ≡ items_in page 0 old later

-- the places of each page of a table
abbrev pub table_places : List (Vec (Option Item) Global) → List (List (Option Item))
table_places pages = map (λ places. places.items) pages

-- the chunk has a place
pub record HasPlace (pages : List (List (Option Item))) (chunk : ChunkId) : Type 0 where
  pub page : chunk.page < length pages
  pub index : chunk.index < length (slice_index_or pages chunk.page [])

-- the items of a table
abbrev pub items_of : Inside → Items
items_of table = items_from 0 (table_places table.pages.items)
