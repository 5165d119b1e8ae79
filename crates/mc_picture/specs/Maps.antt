-- A map, as text.
use Rattle.std.specs.Prelude.{ℕ, ◌+◌, ◌-◌, ◌*◌, ◌/◌, ◌%◌, ◌^◌, ◌==◌, ◌||◌, Bool, true, false, if◌then◌else◌, List, [], ◌∷◌, ◌++◌, codes, count_by, decimal, drop, flat_map, length, min, slice_index_or, take}
use Rattle.std.specs.List.{range_with_len}
use Rattle.mc_pages.specs.declared.ledger.Owner.{Owner}
use Rattle.mc_pages.specs.declared.ledger.Owner.TheVariants.{Untouched, Pool, Class, Moving}
use Rattle.mc_map.specs.declared.kept.ClassLine.{ClassLine}
use Rattle.mc_map.specs.declared.map.Map.{Map}
use Rattle.mc_pages.specs.declared.numbers.Totals.{Totals}
use Rattle.mc_picture.specs.Aligned.{left_aligned, right}
use Rattle.mc_picture.specs.Lines.{ledger_text}
use Rattle.mc_picture.specs.Moves.{move_text}

-- the heading of a map: its place in the script, and how many commands are done
unfoldable pub heading_text : List ℕ → ℕ → List ℕ
heading_text heading done = codes "map " ++ heading ++ codes ", " ++ decimal done ++ codes " commands done\n\n"

-- nobody was given the page yet, or somebody was
abbrev pub is_granted : Owner → Bool
is_granted Untouched = false
is_granted owner = true

-- the bytes of a page
unfoldable pub page_bytes_text : ℕ → List ℕ
page_bytes_text page = codes "pages of " ++ (decimal page ++ codes " bytes: ")

-- how many of these pages within the limit were granted
unfoldable pub granted_within_text : List Owner → List ℕ
granted_within_text owners = decimal (count_by is_granted owners) ++ (codes " of " ++ (decimal (length owners) ++ codes " within the limit granted, "))

-- how many of these pages beyond the limit were granted
unfoldable pub granted_beyond_text : List Owner → List ℕ
granted_beyond_text owners = decimal (count_by is_granted owners) ++ (codes " of " ++ (decimal (length owners) ++ codes " first pages beyond it; "))

-- how many pages are in the pool, and how many moved
unfoldable pub moved_text : Totals → List ℕ
moved_text totals = decimal totals.pool ++ (codes " in the pool, " ++ (decimal totals.moved ++ codes " moved\n"))

-- the line that counts the pages: granted within the limit and beyond it, in the pool, and moved
unfoldable pub page_totals_text : ℕ → List Owner → List Owner → Totals → List ℕ
page_totals_text page within beyond totals =
    page_bytes_text page ++ granted_within_text within ++ granted_beyond_text beyond ++ moved_text totals

-- an owner in seven places; class 0 is the pool
unfoldable pub owner_text : Owner → List ℕ
owner_text Untouched = codes "      ."
owner_text Pool = codes "      p"
owner_text (Class class) = right 7 class
owner_text (Moving src dst) = if dst == 0 then right 5 src ++ codes ">p" else right 4 src ++ codes ">" ++ left_aligned 2 dst

-- a page's number, where a line of eight pages starts: the page at this place of a part that begins with page `first`
unfoldable pub start_text : ℕ → ℕ → List ℕ
start_text first place = if place % 8 == 0 then right 4 (first + place) else []

-- the end of a line, behind eight pages and behind the last of n
unfoldable pub end_text : ℕ → ℕ → List ℕ
end_text place pages = if place % 8 == 7 || place == pages - 1 then codes "\n" else []

-- the text of the page at this place of a part
unfoldable pub map_page_text : ℕ → List Owner → ℕ → List ℕ
map_page_text first owners place = start_text first place ++ owner_text (slice_index_or owners place Untouched) ++ end_text place (length owners)

-- the first n pages of a part, which begins with page `first`
abbrev pub pages_text : ℕ → List Owner → ℕ → List ℕ
pages_text first owners count = flat_map (map_page_text first owners) (range_with_len 0 count)

-- what the columns of the page map are
unfoldable pub page_columns : List ℕ
page_columns = codes "         +0     +1     +2     +3     +4     +5     +6     +7\n"

-- what is before the pages beyond the limit
unfoldable pub beyond_heading : List ℕ
beyond_heading = codes "  beyond the limit, for the first page of a class:\n"

-- how the page map is to be read
unfoldable pub page_legend : List ℕ
page_legend = codes "  a number is a class, 4>1 moves from class 4 to 1, p is the pool, . was never granted\n"

-- the page map: who owns each page within the limit, and each beyond it
unfoldable pub page_map_text : List Owner → List Owner → List ℕ
page_map_text within beyond =
    page_columns ++ pages_text 0 within (length within) ++ beyond_heading ++ pages_text (length within) beyond (length beyond) ++ page_legend

-- the share of chunks with items in use, in whole parts of a hundred
abbrev pub share_used : ℕ → ℕ → ℕ → ℕ
share_used linked unlinked chunks = if chunks == 0 then 0 else (linked + unlinked) * 100 / chunks

-- the text of a class, of the bytes of its chunks, of how many chunks a page has, and of how many pages the class has
unfoldable pub sizes_text : ClassLine → List ℕ
sizes_text line = right 5 line.class ++ right 7 line.size ++ right 9 line.per_page ++ right 6 line.pages

-- the text of how many chunks there are, and which share is in use
unfoldable pub share_text : ℕ → ℕ → ℕ → List ℕ
share_text chunks linked unlinked = right 7 chunks ++ (right 5 (share_used linked unlinked chunks) ++ codes "%")

-- the text of how many chunks are linked, unlinked, dead, free and cleared, and of how many items are held
unfoldable pub chunk_counts_text : ClassLine → List ℕ
chunk_counts_text line = right 7 line.linked ++ right 9 line.unlinked ++ right 6 line.dead ++ right 6 line.free ++ right 8 line.cleared ++ right 6 line.held

-- the bytes that a class's items ask for, those of their chunks, and what is wasted of these; and how many were evicted
unfoldable pub bytes_text : ClassLine → List ℕ
bytes_text line = right 9 line.asked ++ right 9 line.bytes ++ right 9 (line.bytes - line.asked) ++ right 8 line.evictions ++ codes "\n"

-- the counts of a class
unfoldable pub counts_text : ClassLine → List ℕ
counts_text line = share_text line.chunks line.linked line.unlinked ++ chunk_counts_text line ++ bytes_text line

-- the line of a class
unfoldable pub line_text : ClassLine → List ℕ
line_text line = sizes_text line ++ counts_text line

-- the greatest number that a sum of counts has
abbrev pub most_summed : ℕ
most_summed = 2 ^ 64 - 1

-- the counts of two lines as one, none beyond the greatest
abbrev pub added_line : ClassLine → ClassLine → ClassLine
added_line sum line = record sum {
  pages = min (sum.pages + line.pages) most_summed;
  chunks = min (sum.chunks + line.chunks) most_summed;
  linked = min (sum.linked + line.linked) most_summed;
  held = min (sum.held + line.held) most_summed;
  unlinked = min (sum.unlinked + line.unlinked) most_summed;
  dead = min (sum.dead + line.dead) most_summed;
  free = min (sum.free + line.free) most_summed;
  cleared = min (sum.cleared + line.cleared) most_summed;
  asked = min (sum.asked + line.asked) most_summed;
  bytes = min (sum.bytes + line.bytes) most_summed;
  evictions = min (sum.evictions + line.evictions) most_summed;
}

-- a line without counts
abbrev pub no_line : ClassLine
no_line = record {
  class = 0;
  size = 0;
  per_page = 0;
  pages = 0;
  chunks = 0;
  linked = 0;
  held = 0;
  unlinked = 0;
  dead = 0;
  free = 0;
  cleared = 0;
  asked = 0;
  bytes = 0;
  evictions = 0;
}

-- the counts of these lines as one, added to a line
abbrev pub sum_with : ClassLine → List ClassLine → ClassLine
sum_with sum [] = sum
sum_with sum (line ∷ more) = sum_with (added_line sum line) more

-- how many pages all classes have
unfoldable pub sum_heading_text : ℕ → List ℕ
sum_heading_text pages = codes "total" ++ right 22 pages

-- the line of totals
unfoldable pub sum_text : ClassLine → List ℕ
sum_text sum = sum_heading_text sum.pages ++ counts_text sum

-- what the columns of the classes are
unfoldable pub line_columns : List ℕ
line_columns = codes "\nclass   size per page pages chunks  used linked unlinked  dead  free cleared  held    asked    bytes    waste evicted\n"

-- how the counts of chunks are to be read
unfoldable pub chunk_legend : List ℕ
chunk_legend = codes "  chunks = linked + unlinked + dead + free + cleared; used is the share of the linked and the unlinked\n"

-- what the kinds of chunks are
unfoldable pub kind_legend : List ℕ
kind_legend =
    codes "  linked: its key leads to the item; unlinked: deleted or replaced, and somebody holds it; dead: nobody does\n"

-- how the other counts are to be read
unfoldable pub bytes_legend : List ℕ
bytes_legend =
    codes "  held: items that somebody holds; cleared: emptied for a move; of the linked items: asked, their bytes; bytes, those of their chunks\n"

-- how the lines of the classes are to be read
unfoldable pub line_legend : List ℕ
line_legend = chunk_legend ++ kind_legend ++ bytes_legend

-- the lines of the classes that have a page, and their totals
unfoldable pub lines_text : List ClassLine → List ℕ
lines_text lines =
    if length lines == 0 then codes "\nno class has a page\n"
    else line_columns ++ flat_map line_text lines ++ sum_text (sum_with no_line lines) ++ line_legend

-- the text of who owns each page within the limit and beyond it, and of what each class has
unfoldable pub parts_text : List ℕ → Map → List Owner → List Owner → List ℕ
parts_text heading map within beyond =
    heading_text heading map.done ++ page_totals_text map.page within beyond map.totals ++ page_map_text within beyond ++ lines_text map.classes.items

-- the text of who owns each page, and of what each class has
unfoldable pub front_text : List ℕ → Map → List ℕ
front_text heading map = parts_text heading map (take (min map.within (length map.owners.items)) map.owners.items) (drop (min map.within (length map.owners.items)) map.owners.items)

-- the text of a map under this heading: its pages and classes, how pages changed hands, and what holds a move up
unfoldable pub map_text : List ℕ → Map → List ℕ
map_text heading map = front_text heading map ++ ledger_text map.ledger.items ++ move_text map.moving map.chunks map.hang ++ codes "\n"
