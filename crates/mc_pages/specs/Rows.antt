-- The lists of all classes as rows, heads and tails, and what they mean.
use Rattle.std.specs.Prelude.{ℕ, ◌+◌, ◌-◌, ◌*◌, ◌<◌, nat_lt, if◌then◌else◌, List, length, replicate, slice_index_or, slice_set, Option, None, IfSome}
use Rattle.mc_pages.specs.declared.ids.ChunkId.{ChunkId}
use Rattle.mc_pages.specs.declared.rows.fields.Row.{Row}
use Rattle.mc_pages.specs.declared.rows.ListName.{ListName}
use Rattle.mc_pages.specs.declared.rows.ListName.TheVariants.{Free, HandedOut}
use Rattle.mc_pages.specs.declared.rows.Mark.{Mark}
use Rattle.mc_pages.specs.declared.rows.Mark.TheVariants.{Unlisted}
use Rattle.mc_pages.specs.declared.rows.Field.{Field}
use Rattle.mc_pages.specs.declared.rows.Field.TheVariants.{Next, Previous, Head, Tail}
use Rattle.mc_pages.specs.declared.rows.Change.{Change}
use Rattle.mc_pages.specs.declared.rows.Change.TheVariants as change

-- the most chunks of a page; a row for each chunk; the own rows of the lists; their lengths; and how many fields were written
pub record RowsState : Type 0 where
  pub most : ℕ
  pub rows : List Row
  pub free : List Row
  pub handed_out : List Row
  pub free_lengths : List ℕ
  pub handed_out_lengths : List ℕ
  pub writes : ℕ

-- a row without neighbours, of a chunk that is in no list
abbrev pub no_row : Row
no_row = record { next = None; previous = None; mark = Unlisted }

-- this many rows, and lists of this many classes, all empty
abbrev pub fresh_rows : ℕ → ℕ → ℕ → RowsState
fresh_rows most rows classes = record {
  most = most;
  rows = replicate rows no_row;
  free = replicate classes no_row;
  handed_out = replicate classes no_row;
  free_lengths = replicate classes 0;
  handed_out_lengths = replicate classes 0;
  writes = 0;
}

-- the place of a chunk's row
abbrev pub row_place : ℕ → ChunkId → ℕ
row_place most chunk = chunk.page * most + chunk.index

-- the row of a chunk
abbrev pub row_of_chunk : RowsState → ChunkId → Row
row_of_chunk rows chunk = if nat_lt chunk.index rows.most then slice_index_or rows.rows (row_place rows.most chunk) no_row else no_row

-- the own row of a list
abbrev pub ends_of : RowsState → ListName → Row
ends_of rows (Free class) = slice_index_or rows.free class no_row
ends_of rows (HandedOut class) = slice_index_or rows.handed_out class no_row

-- how many chunks a list has
abbrev pub list_length : RowsState → ListName → ℕ
list_length rows (Free class) = slice_index_or rows.free_lengths class 0
list_length rows (HandedOut class) = slice_index_or rows.handed_out_lengths class 0

-- the chunk to which a field leads, or none
abbrev pub field_of : RowsState → Field → Option ChunkId
field_of rows (Next chunk) = (row_of_chunk rows chunk).next
field_of rows (Previous chunk) = (row_of_chunk rows chunk).previous
field_of rows (Head list) = (ends_of rows list).next
field_of rows (Tail list) = (ends_of rows list).previous

-- a chunk has a row
abbrev pub IsRow : RowsState → ChunkId → Type 0
IsRow rows chunk = (chunk.index < rows.most) × (row_place rows.most chunk < length rows.rows)

-- a list of one of the classes
abbrev pub IsList : RowsState → ListName → Type 0
IsList rows (Free class) = (class < length rows.free) × (class < length rows.free_lengths)
IsList rows (HandedOut class) = (class < length rows.handed_out) × (class < length rows.handed_out_lengths)

-- a field of one of the rows
abbrev pub IsField : RowsState → Field → Type 0
IsField rows (Next chunk) = IsRow rows chunk
IsField rows (Previous chunk) = IsRow rows chunk
IsField rows (Head list) = IsList rows list
IsField rows (Tail list) = IsList rows list

-- the row of a chunk is now this
abbrev pub with_row : RowsState → ChunkId → Row → RowsState
with_row rows chunk row = record rows { rows = slice_set rows.rows (row_place rows.most chunk) row; writes = rows.writes + 1 }

-- the own row of a list is now this
abbrev pub with_ends : RowsState → ListName → Row → RowsState
with_ends rows (Free class) row = record rows { free = slice_set rows.free class row; writes = rows.writes + 1 }
with_ends rows (HandedOut class) row = record rows { handed_out = slice_set rows.handed_out class row; writes = rows.writes + 1 }

-- a field is now this
abbrev pub with_field : RowsState → Field → Option ChunkId → RowsState
with_field rows (Next chunk) link = with_row rows chunk (record (row_of_chunk rows chunk) { next = link })
with_field rows (Previous chunk) link = with_row rows chunk (record (row_of_chunk rows chunk) { previous = link })
with_field rows (Head list) link = with_ends rows list (record (ends_of rows list) { next = link })
with_field rows (Tail list) link = with_ends rows list (record (ends_of rows list) { previous = link })

-- the mark of a chunk is now this
abbrev pub with_mark : RowsState → ChunkId → Mark → RowsState
with_mark rows chunk mark = with_row rows chunk (record (row_of_chunk rows chunk) { mark = mark })

-- the rows after this change was written
abbrev pub with_change : RowsState → Change → RowsState
with_change rows (change.Link field link) = with_field rows field link
with_change rows (change.Mark chunk mark) = with_mark rows chunk mark

-- the change writes into one of the rows, and a link that it writes leads to one of them or to none
abbrev pub IsChange : RowsState → Change → Type 0
IsChange rows (change.Link field link) = IsField rows field × IfSome link (IsRow rows)
IsChange rows (change.Mark chunk mark) = IsRow rows chunk

-- the length of a list is now this
abbrev pub with_length : RowsState → ListName → ℕ → RowsState
with_length rows (Free class) count = record rows { free_lengths = slice_set rows.free_lengths class count }
with_length rows (HandedOut class) count = record rows { handed_out_lengths = slice_set rows.handed_out_lengths class count }

-- the list is longer by one
abbrev pub longer_list : RowsState → ListName → RowsState
longer_list rows list = with_length rows list (list_length rows list + 1)

-- the list is shorter by one
abbrev pub shorter_list : RowsState → ListName → RowsState
shorter_list rows list = with_length rows list (list_length rows list - 1)
