-- How owners are drawn: a row for each page, and in it a box for each run of columns in which the page has one owner.
use Rattle.std.specs.Prelude.{ℕ, ◌+◌, ◌-◌, ◌*◌, ◌/◌, ◌%◌, ◌==◌, ◌&&◌, Bool, true, false, not, if◌then◌else◌, List, [], ◌∷◌, ◌++◌, drop, length, map, codes, decimal, flat_map}
use Rattle.std.specs.List.{range_with_len}
use Rattle.mc_pages.specs.declared.ledger.Owner.{Owner}
use Rattle.mc_pages.specs.declared.ledger.Owner.TheVariants.{Untouched, Pool, Class, Moving}
use Rattle.mc_pages.specs.Ledger.{owner_at}

-- a number below 64, which differs from class to class
abbrev pub colour_code : ℕ → ℕ
colour_code class = (class % 64 * 39 + 63) % 64

-- one of four shades of red, green or blue
abbrev pub shade_of : ℕ → ℕ
shade_of code = 96 + code % 4 * 50

-- the colour of a class
abbrev pub colour_text : ℕ → List ℕ
colour_text class =
    codes "rgb(" ++ decimal (shade_of (colour_code class)) ++ codes "," ++ decimal (shade_of (colour_code class / 4)) ++ codes ","
    ++ decimal (shade_of (colour_code class / 16)) ++ codes ")"

-- a box so far from the left and from the top
unfoldable pub box_corner_text : ℕ → ℕ → List ℕ
box_corner_text x y = codes "<rect x=\"" ++ decimal x ++ codes "\" y=\"" ++ decimal y ++ codes "\""

-- a box so far from the left and from the top, and so wide, up to its fill
abbrev pub box_place_text : ℕ → ℕ → ℕ → List ℕ
box_place_text x y wide = box_corner_text x y ++ (codes " width=\"" ++ (decimal wide ++ codes "\" height=\"17\" fill=\""))

-- a box with this fill
abbrev pub box_text : ℕ → ℕ → ℕ → List ℕ → List ℕ
box_text x y wide fill = box_place_text x y wide ++ (fill ++ codes "\"/>\n")

-- a box in the colour of a class
abbrev pub class_box_text : ℕ → ℕ → ℕ → ℕ → List ℕ
class_box_text x y wide class = box_text x y wide (colour_text class)

-- how the box of a page with this owner is filled: empty before it was granted, dotted in the pool, in its class's colour, and hatched over that
-- while it moves
abbrev pub cell_text : ℕ → ℕ → ℕ → Owner → List ℕ
cell_text x y wide Untouched = box_text x y wide (codes "none\" stroke=\"#ddd")
cell_text x y wide Pool = box_text x y wide (codes "url(#pool)")
cell_text x y wide (Class class) = class_box_text x y wide class
cell_text x y wide (Moving src dst) = class_box_text x y wide src ++ box_text x y wide (codes "url(#moving)")

-- the two owners are the same
abbrev pub is_same_owner : Owner → Owner → Bool
is_same_owner Untouched Untouched = true
is_same_owner Pool Pool = true
is_same_owner (Class class) (Class to) = class == to
is_same_owner (Moving src dst) (Moving from to) = src == from && dst == to
is_same_owner owner other = false

-- a run begins in column k: the column before has another owner, or there is none
abbrev pub is_run_start : List Owner → ℕ → Bool
is_run_start owners k = if k == 0 then true else not (is_same_owner (owner_at owners (k - 1)) (owner_at owners k))

-- how many of the first owners are this one
abbrev pub same_count : Owner → List Owner → ℕ
same_count owner [] = 0
same_count owner (other ∷ more) = if is_same_owner owner other then 1 + same_count owner more else 0

-- how many columns from column k on have the owner of column k
abbrev pub run_length : List Owner → ℕ → ℕ
run_length owners k = same_count (owner_at owners k) (drop k owners)

-- the box of the run that begins in column k, if one does: a column is 24 wide
unfoldable pub run_text : List Owner → ℕ → ℕ → List ℕ
run_text owners y k = if is_run_start owners k then cell_text (76 + k * 24) y (run_length owners k * 24) (owner_at owners k) else []

-- the boxes of the runs that begin in the first n columns
abbrev pub runs_text : List Owner → ℕ → ℕ → List ℕ
runs_text owners y count = flat_map (run_text owners y) (range_with_len 0 count)

-- the owners of a page, column after column
abbrev pub page_owners : List (List Owner) → ℕ → List Owner
page_owners columns page = map (λ column. owner_at column page) columns

-- the row of a page, so many from the top: a row is 20 high
abbrev pub page_row_text : List (List Owner) → ℕ → List ℕ
page_row_text columns page = runs_text (page_owners columns page) (64 + page * 20) (length (page_owners columns page))

-- the rows of the first n pages, page 0 first
abbrev pub cells_text : List (List Owner) → ℕ → List ℕ
cells_text columns pages = flat_map (page_row_text columns) (range_with_len 0 pages)
