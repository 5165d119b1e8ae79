-- Worked examples of what is written, which the prover computes.
use Rattle.std.specs.Prelude.{◌≡◌, [], ◌∷◌, ◌++◌, Some, None, codes}
use Rattle.mc_pages.specs.declared.ledger.Owner.TheVariants.{Untouched, Pool, Class, Moving}
use Rattle.mc_picture.specs.Cells.{runs_text}
use Rattle.mc_map.specs.declared.kept.ClassLine.{ClassLine}
use Rattle.mc_picture.specs.Maps.{heading_text, line_text, lines_text, no_line, page_totals_text, pages_text, sum_text, sum_with}
use Rattle.mc_picture.specs.Tables.{memory_text, row_text}

-- a worked case of the text before the page map
abbrev pub HeadingShown : Type 0
HeadingShown =
    heading_text (codes "at line 7") 12 ++ page_totals_text 1024 (Class 1 ∷ Pool ∷ Moving 1 2 ∷ Untouched ∷ []) (Untouched ∷ Class 2 ∷ []) (record { granted = 5; pool = 1; moved = 2; rescues = 30; evictions_nomem = 40; busy = 50 })
    ≡ codes "map at line 7, 12 commands done\n\npages of 1024 bytes: 3 of 4 within the limit granted, 1 of 2 first pages beyond it; 1 in the pool, 2 moved\n"

-- ten pages from page 16 on: eight in the first line, which begins with the number of its first page
abbrev pub PagesShown : Type 0
PagesShown =
    pages_text 16 (Class 4 ∷ Moving 4 1 ∷ Moving 12 0 ∷ Pool ∷ Untouched ∷ Class 1 ∷ Class 1 ∷ Class 1 ∷ Class 63 ∷ Untouched ∷ []) 10
    ≡ codes "  16      4   4>1    12>p      p      .      1      1      1\n  24     63      .\n"

-- a page that nobody had in column 0, class 4 in columns 1 and 2, and that then moves to class 1: three boxes, and hatching over the last
abbrev pub RunsShown : Type 0
RunsShown =
    runs_text (Untouched ∷ Class 4 ∷ Class 4 ∷ Moving 4 1 ∷ []) 64 4
    ≡ codes "<rect x=\"76\" y=\"64\" width=\"24\" height=\"17\" fill=\"none\" stroke=\"#ddd\"/>\n"
    ++ codes "<rect x=\"100\" y=\"64\" width=\"48\" height=\"17\" fill=\"rgb(246,196,146)\"/>\n"
    ++ codes "<rect x=\"148\" y=\"64\" width=\"24\" height=\"17\" fill=\"rgb(246,196,146)\"/>\n"
    ++ codes "<rect x=\"148\" y=\"64\" width=\"24\" height=\"17\" fill=\"url(#moving)\"/>\n"

-- a class whose items leave 144 bytes of their chunks
abbrev pub worked_line : ClassLine
worked_line = record {
  class = 3;
  size = 192;
  per_page = 5;
  pages = 2;
  chunks = 10;
  linked = 7;
  held = 1;
  unlinked = 1;
  dead = 0;
  free = 2;
  cleared = 0;
  asked = 1200;
  bytes = 1344;
  evictions = 12;
}

-- the line of a class
abbrev pub LineShown : Type 0
LineShown = line_text worked_line ≡ codes "    3    192        5     2     10   80%      7        1     0     2       0     1     1200     1344      144      12\n"

-- the line of totals of two classes
abbrev pub SumShown : Type 0
SumShown =
    sum_text (sum_with no_line (worked_line ∷ worked_line ∷ []))
    ≡ codes "total                     4     20   80%     14        2     0     4       0     2     2400     2688      288      24\n"

-- no class has a page
abbrev pub NoLinesShown : Type 0
NoLinesShown = lines_text [] ≡ codes "\nno class has a page\n"

-- four pages of 1,024 bytes
abbrev pub MemoryShown : Type 0
MemoryShown = memory_text 4 1024 ≡ codes "4 pages of 1024 bytes, and beyond them a first one for each class; an item of n words asks for 24 + 8 n bytes\n\n"

-- the lines of a class whose items leave up to 16 bytes, and of one that no item goes to
abbrev pub RowsShown : Type 0
RowsShown =
    row_text (record { class = 1; size = 48; per_page = 21; waste = Some 16; rest = 16 }) ++ row_text (record { class = 2; size = 52; per_page = 19; waste = None; rest = 36 })
    ≡ codes "    1     48             21       32 to    48           16              16\n    2     52             19            none            -              36\n"
