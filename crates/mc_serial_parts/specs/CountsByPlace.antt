-- Counts by place: for each page, one at each index, and 0 beyond.
use Rattle.std.specs.Prelude.{◌≡◌, ℕ, ◌<◌, List, [], length, map, slice_index_or, Vec}
use Rattle.std.specs.Global.{Global}
use Rattle.mc_pages.specs.declared.ids.ChunkId.{ChunkId}
use Rattle.mc_serial_parts.specs.declared.hold_counts.HoldCounts.TheInside.{Inside}

-- the counts of each page
abbrev pub counts_by_page : List (Vec ℕ Global) → List (List ℕ)
counts_by_page pages = map (λ counts. counts.items) pages

-- the counts of a table
abbrev pub count_rows : Inside → List (List ℕ)
count_rows table = counts_by_page table.pages.items

-- the chunk's count
abbrev pub count_at : List (List ℕ) → ChunkId → ℕ
count_at rows chunk = slice_index_or (slice_index_or rows chunk.page []) chunk.index 0

-- every chunk has the same count
abbrev pub CountAlike : List (List ℕ) → List (List ℕ) → Type 0
CountAlike old new = (chunk : ChunkId) → count_at new chunk ≡ count_at old chunk

-- the chunk has a place
pub record IsReached (rows : List (List ℕ)) (chunk : ChunkId) : Type 0 where
  pub page : chunk.page < length rows
  pub index : chunk.index < length (slice_index_or rows chunk.page [])
