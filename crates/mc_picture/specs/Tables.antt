-- The class table, as text.
use Rattle.std.specs.Prelude.{ℕ, ◌-◌, List, ◌++◌, Option, Some, None, codes, decimal, flat_map}
use Rattle.mc_picture.specs.declared.classes.ClassRow.{ClassRow}
use Rattle.mc_picture.specs.Aligned.{right}

-- the bytes of the items that go to chunks of this size, and the most that one of them leaves unused
unfoldable pub waste_text : ℕ → Option ℕ → List ℕ
waste_text size None = codes "            none            -"
waste_text size (Some waste) = right 9 (size - waste) ++ codes " to" ++ right 6 size ++ right 13 waste

-- the line of a class
unfoldable pub row_text : ClassRow → List ℕ
row_text row = right 5 row.class ++ right 7 row.size ++ right 15 row.per_page ++ waste_text row.size row.waste ++ right 16 row.rest ++ codes "\n"

-- what the numbers of the class table are about
unfoldable pub table_note : List ℕ
table_note = codes " bytes, and beyond them a first one for each class; an item of n words asks for 24 + 8 n bytes\n\n"

-- the text of how many pages there are, and of which size
unfoldable pub memory_text : ℕ → ℕ → List ℕ
memory_text pages page = decimal pages ++ codes " pages of " ++ decimal page ++ table_note

-- what the columns of the class table are
unfoldable pub row_columns : List ℕ
row_columns = codes "class   size  chunks a page  items of bytes  worst waste  left of a page\n"

-- the class table: a line for each class
unfoldable pub class_table_text : ℕ → ℕ → List ClassRow → List ℕ
class_table_text pages page rows = memory_text pages page ++ row_columns ++ flat_map row_text rows
