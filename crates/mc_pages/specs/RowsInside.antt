-- The rows as their callers see them.
use Rattle.std.specs.Prelude.{◌*◌, ◌≤◌, vec_len}
use Rattle.mc_classes.specs.Limits.{most_arena_pages, most_page_chunks}
use Rattle.mc_pages.specs.declared.rows.fields.Rows.TheInside.{Inside}
use Rattle.mc_pages.specs.Rows.{RowsState}

-- the rows, and the lists' own rows and lengths, that are in memory; and how many fields were ever written
abbrev pub list_rows : Inside → RowsState
list_rows rows = record {
  most = rows.most;
  rows = rows.rows.items;
  free = rows.free.items;
  handed_out = rows.handed_out.items;
  free_lengths = rows.free_lengths.items;
  handed_out_lengths = rows.handed_out_lengths.items;
  writes = rows.writes.total;
}

-- there are at most 32512 rows, and at most 256 for a page
abbrev pub HasSpace : Inside → Type 0
HasSpace rows = (vec_len rows.rows ≤ most_arena_pages * most_page_chunks) × (rows.most ≤ most_page_chunks)
