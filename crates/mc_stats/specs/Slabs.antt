-- The text of a cache's classes in the form of memcached's `stats slabs`.
use Rattle.std.specs.Prelude.{◌≡◌, ℕ, zero, suc, ◌+◌, ◌*◌, ◌-◌, ◌^◌, ◌==◌, if◌then◌else◌, List, [], ◌∷◌, ◌++◌, codes, count_by, decimal, length, min, nat_lt, slice_index_or}
use Rattle.mc_classes.specs.Classes.{Classes}
use Rattle.mc_watch.specs.Texts.{line, stat_line}
use Rattle.mc_cache.specs.Chunks.{chunks_of, two_class_table}
use Rattle.mc_cache.specs.Stats.{no_statistics}
use Rattle.mc_cache.specs.declared.stats.ClassStats.{ClassStats}

-- the begin of a line of a class
abbrev pub class_label : List ℕ → ℕ → List ℕ
class_label head class = head ++ decimal class ++ codes ":"

-- a number behind its name, and the end of the line
abbrev pub named_number : List ℕ → ℕ → List ℕ
named_number name value = name ++ codes " " ++ decimal value ++ codes "\r\n"

-- one number of a class, with this head before the class's number
abbrev pub labelled_line : List ℕ → ℕ → List ℕ → ℕ → List ℕ
labelled_line head class name value = class_label head class ++ named_number name value

-- the six lines of a class; one without pages has none
abbrev pub lines_of_class : Classes → ℕ → ClassStats → List ℕ
lines_of_class table class row =
    if row.pages == 0 then [] else labelled_line (codes "STAT ") class (codes "chunk_size") (chunks_of table class row).chunk_bytes
    ++ labelled_line (codes "STAT ") class (codes "chunks_per_page") (chunks_of table class row).per_page
    ++ labelled_line (codes "STAT ") class (codes "total_pages") row.pages
    ++ labelled_line (codes "STAT ") class (codes "total_chunks") (chunks_of table class row).chunks
    ++ labelled_line (codes "STAT ") class (codes "used_chunks") (chunks_of table class row).used
    ++ labelled_line (codes "STAT ") class (codes "free_chunks") row.free

-- the lines of the first n classes, class 1 first
abbrev pub lines_of_first_classes : Classes → List ClassStats → ℕ → List ℕ
lines_of_first_classes table rows zero = []
lines_of_first_classes table rows (suc place) = lines_of_first_classes table rows place ++ lines_of_class table (place + 1) (slice_index_or rows place no_statistics)

-- the bytes of this many pages; the number stays at 2^64 - 1 once there
abbrev pub bytes_of_pages : Classes → ℕ → ℕ
bytes_of_pages table pages = min (pages * table.page) (2 ^ 64 - 1)

-- the text of `stats slabs`: the lines of the classes, how many have pages, and the bytes of the pages that were granted
abbrev pub slab_stats_text : Classes → List ClassStats → ℕ → List ℕ
slab_stats_text table rows granted =
    lines_of_first_classes table rows (length table.sizes)
    ++ stat_line (codes "active_slabs") (count_by (λ row. nat_lt 0 row.pages) rows)
    ++ stat_line (codes "total_malloced") (bytes_of_pages table granted)
    ++ line (codes "END")

-- a worked text of two classes: class 1 has no page, and class 2 has three pages of five chunks, of which four are free
abbrev pub SlabsOfTwoClasses : Type 0
SlabsOfTwoClasses =
    slab_stats_text two_class_table (no_statistics ∷ record { pages = 3; free = 4; evictions = 7 } ∷ []) 3
    ≡ codes "STAT 2:chunk_size 192\r\nSTAT 2:chunks_per_page 5\r\nSTAT 2:total_pages 3\r\nSTAT 2:total_chunks 15\r\nSTAT 2:used_chunks 11\r\n"
    ++ codes "STAT 2:free_chunks 4\r\nSTAT active_slabs 1\r\nSTAT total_malloced 3072\r\nEND\r\n"
