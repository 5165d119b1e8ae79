-- What rows, heads and tails mean as lists, and when they do.
use Rattle.std.specs.Prelude.{◌≡◌, ◌≢◌, ℕ, ◌≤◌, ◌==◌, zero, suc, Bool, false, if◌then◌else◌, List, [], ◌∷◌, length, Option, Some, None}
use Rattle.mc_pages.specs.declared.ids.ChunkId.{ChunkId}
use Rattle.mc_pages.specs.declared.rows.ListName.{ListName}
use Rattle.mc_pages.specs.declared.rows.ListName.TheVariants.{Free, HandedOut}
use Rattle.mc_pages.specs.declared.rows.Mark.{Mark}
use Rattle.mc_pages.specs.declared.rows.Mark.TheVariants.{Unlisted}
use Rattle.mc_pages.specs.declared.rows.Mark.TheVariants as marks
use Rattle.mc_pages.specs.declared.rows.Field.{Field}
use Rattle.mc_pages.specs.declared.rows.Field.TheVariants.{Next, Previous, Head, Tail}
use Rattle.mc_pages.specs.ClassState.{times_in}
use Rattle.mc_pages.specs.Rows.{RowsState, IsRow, row_of_chunk, field_of, list_length, with_field, with_mark, longer_list, shorter_list}

-- the chunks from this one on, at most n
abbrev pub walk : (ChunkId → Option ChunkId) → ℕ → Option ChunkId → List ChunkId
walk next zero link = []
walk next (suc count) None = []
walk next (suc count) (Some chunk) = chunk ∷ walk next count (next chunk)

-- the chunks of a list, from its head on
abbrev pub list_chunks : RowsState → ListName → List ChunkId
list_chunks rows list = walk (λ chunk. field_of rows (Next chunk)) (list_length rows list) (field_of rows (Head list))

-- the field that leads from a chunk to the next one of its list; for no chunk it is the head of the list
abbrev pub forth : ListName → Option ChunkId → Field
forth list None = Head list
forth list (Some chunk) = Next chunk

-- the field that leads from a chunk to the one before it in its list; for no chunk it is the tail of the list
abbrev pub back : ListName → Option ChunkId → Field
back list None = Tail list
back list (Some chunk) = Previous chunk

-- the list runs from here: each chunk leads to the next one, and each leads back
abbrev pub IsChain : (Option ChunkId → Option ChunkId) → (Option ChunkId → Option ChunkId) → Option ChunkId → List ChunkId → Type 0
IsChain next previous from [] = (next from ≡ None) × (previous None ≡ from)
IsChain next previous from (chunk ∷ chunks) = (next from ≡ Some chunk) × (previous (Some chunk) ≡ from) × IsChain next previous (Some chunk) chunks

-- how the chunks of the list are marked
abbrev pub list_mark : ListName → Mark
list_mark (Free class) = marks.Free
list_mark (HandedOut class) = marks.HandedOut

-- the rows are these lists: each runs from its head to its tail, and a chunk is in one of them at most, and once
pub record IsLinked (rows : RowsState) (lists : ListName → List ChunkId) (loose : Option ChunkId) : Type 0 where
  pub runs : (list : ListName) → IsChain (λ link. field_of rows (forth list link)) (λ link. field_of rows (back list link)) None (lists list)
  pub long : (list : ListName) → list_length rows list ≡ length (lists list)
  pub once : (list : ListName) (chunk : ChunkId) → times_in chunk (lists list) ≤ 1
  pub apart : (list other : ListName) (chunk : ChunkId) → other ≢ list → 1 ≤ times_in chunk (lists list) → times_in chunk (lists other) ≡ 0
  pub sides : (list : ListName) (chunk : ChunkId) → 1 ≤ times_in chunk (lists list) → (row_of_chunk rows chunk).mark ≡ list_mark list
  -- a chunk that is marked as one of a list is in one, but for the loose chunk, which is on its way to another list
  pub listed : (chunk : ChunkId) → loose ≢ Some chunk → (row_of_chunk rows chunk).mark ≢ Unlisted → (list : ListName) × (1 ≤ times_in chunk (lists list))
  pub placed : (list : ListName) (chunk : ChunkId) → 1 ≤ times_in chunk (lists list) → IsRow rows chunk

-- the rows are lists
abbrev pub AreLinked : RowsState → Type 0
AreLinked rows = IsLinked rows (list_chunks rows) None

-- the rows are lists, but for the mark of this chunk
abbrev pub AreLinkedBut : RowsState → ChunkId → Type 0
AreLinkedBut rows chunk = IsLinked rows (list_chunks rows) (Some chunk)

-- two names of one list
abbrev pub is_list : ListName → ListName → Bool
is_list (Free a) (Free b) = a == b
is_list (HandedOut a) (HandedOut b) = a == b
is_list a b = false

-- the lists, one of which is now this
abbrev pub with_list : (ListName → List ChunkId) → ListName → List ChunkId → ListName → List ChunkId
with_list lists list chunks other = if is_list other list then chunks else lists other

-- how many rows and lists there are
pub record Sizes : Type 0 where
  pub most : ℕ
  pub rows : ℕ
  pub free : ℕ
  pub handed_out : ℕ
  pub free_lengths : ℕ
  pub handed_out_lengths : ℕ

-- the sizes of the rows: how many rows, own rows of lists and lengths there are, and the most chunks of a page
abbrev pub sizes_of : RowsState → Sizes
sizes_of rows = record {
  most = rows.most;
  rows = length rows.rows;
  free = length rows.free;
  handed_out = length rows.handed_out;
  free_lengths = length rows.free_lengths;
  handed_out_lengths = length rows.handed_out_lengths;
}

-- two chunks become neighbours; None is the list's end
abbrev pub with_neighbours : RowsState → ListName → Option ChunkId → Option ChunkId → RowsState
with_neighbours rows list before behind = with_field (with_field rows (forth list before) behind) (back list behind) before

-- a chunk comes between two neighbours
abbrev pub with_chunk_between : RowsState → ListName → Option ChunkId → ChunkId → Option ChunkId → RowsState
with_chunk_between rows list before chunk behind = longer_list (with_mark (with_neighbours (with_neighbours rows list before (Some chunk)) list (Some chunk) behind) chunk (list_mark list)) list

-- a chunk leaves the list
abbrev pub list_without_chunk : RowsState → ListName → ChunkId → RowsState
list_without_chunk rows list chunk = shorter_list (with_neighbours rows list (field_of rows (Previous chunk)) (field_of rows (Next chunk))) list

-- a chunk is in no list
abbrev pub IsUnlisted : RowsState → ChunkId → Type 0
IsUnlisted rows chunk = (list : ListName) → times_in chunk (list_chunks rows list) ≡ 0
