-- What is known of each class before anything runs.
use Rattle.std.specs.Prelude.{ℕ, ◌+◌, ◌%◌, List, map}
use Rattle.std.specs.List.{range_with_len}
use Rattle.mc_classes.specs.Classes.{Classes, per_page_of, size_of}
use Rattle.mc_waste.specs.Tables.{waste_of}
use Rattle.mc_picture.specs.declared.classes.ClassRow.{ClassRow}

-- the row of a class: its sizes, the most that an item leaves unused, and what is left of a page
abbrev pub row_of : Classes → ℕ → ClassRow
row_of table class = record {
  class = class;
  size = size_of table class;
  per_page = per_page_of table class;
  waste = waste_of table class;
  rest = table.page % size_of table class;
}

-- the rows of the first n classes, class 1 first
abbrev pub class_table_rows : Classes → ℕ → List ClassRow
class_table_rows table count = map (λ place. row_of table (place + 1)) (range_with_len 0 count)
