-- The texts of a cache's items in the forms of memcached's `stats items` and `stats`.
use Rattle.std.specs.Prelude.{◌≡◌, ℕ, zero, suc, ◌+◌, ◌==◌, if◌then◌else◌, List, [], ◌∷◌, ◌++◌, codes, fold, length, slice_index_or}
use Rattle.mc_watch.specs.Texts.{line, stat_line}
use Rattle.mc_shard.specs.ClassItems.{no_items}
use Rattle.mc_shard.specs.declared.class_items.ClassItems.{ClassItems}
use Rattle.mc_cache.specs.Stats.{no_statistics}
use Rattle.mc_cache.specs.Windows.{count_with}
use Rattle.mc_cache.specs.declared.stats.ClassStats.{ClassStats}
use Rattle.mc_stats.specs.Slabs.{labelled_line}

-- the three lines of a class; one without items has none
abbrev pub lines_of_items : ℕ → ClassItems → ClassStats → List ℕ
lines_of_items class items row =
    if items.items == 0 then [] else labelled_line (codes "STAT items:") class (codes "number") items.items
    ++ labelled_line (codes "STAT items:") class (codes "mem_requested") items.bytes
    ++ labelled_line (codes "STAT items:") class (codes "evicted") row.evictions

-- the lines of the first n classes, class 1 first
abbrev pub lines_of_first_items : List ClassItems → List ClassStats → ℕ → List ℕ
lines_of_first_items items rows zero = []
lines_of_first_items items rows (suc place) =
    lines_of_first_items items rows place ++ lines_of_items (place + 1) (slice_index_or items place no_items) (slice_index_or rows place no_statistics)

-- the text of `stats items`: the lines of the classes, and a last one
abbrev pub items_text : List ClassItems → List ClassStats → List ℕ
items_text items rows = lines_of_first_items items rows (length items) ++ line (codes "END")

-- the items of all classes and their bytes; each number stays at 2^64 - 1 once there
abbrev pub items_in_all : List ClassItems → ClassItems
items_in_all rows = fold (λ all row. record { items = count_with row.items all.items; bytes = count_with row.bytes all.bytes }) no_items rows

-- how many items of all classes were evicted to make room; the number stays at 2^64 - 1 once there
abbrev pub evictions_in_all : List ClassStats → ℕ
evictions_in_all rows = fold (λ all row. count_with row.evictions all) 0 rows

-- the text of how many items there are, their bytes, and how many were evicted
abbrev pub usage_text : List ClassItems → List ClassStats → List ℕ
usage_text items rows =
    stat_line (codes "curr_items") (items_in_all items).items
    ++ stat_line (codes "bytes") (items_in_all items).bytes
    ++ stat_line (codes "evictions") (evictions_in_all rows)
    ++ line (codes "END")

-- the items of two classes: class 1 has none, and class 2 has three of 500 bytes
abbrev pub two_items_rows : List ClassItems
two_items_rows = no_items ∷ record { items = 3; bytes = 500 } ∷ []

-- the statistics of these classes: class 1 has two evictions, and class 2 has seven
abbrev pub two_stats_rows : List ClassStats
two_stats_rows = record no_statistics { evictions = 2 } ∷ record { pages = 3; free = 4; evictions = 7 } ∷ []

-- the worked texts of these
pub record ItemsOfTwoClasses : Type 0 where
  pub items : items_text two_items_rows two_stats_rows ≡ codes "STAT items:2:number 3\r\nSTAT items:2:mem_requested 500\r\nSTAT items:2:evicted 7\r\nEND\r\n"
  pub usage : usage_text two_items_rows two_stats_rows ≡ codes "STAT curr_items 3\r\nSTAT bytes 500\r\nSTAT evictions 9\r\nEND\r\n"
