-- The texts of the statistics, as functions of numbers.
use Rattle.std.specs.Prelude.{◌≡◌, ◌≤◌, ℕ, ◌+◌, ◌*◌, ◌-◌, ◌==◌, if◌then◌else◌, nat_lt, List, [], ◌∷◌, ◌++◌, length, slice_index, codes, decimal, count_by}
use Rattle.mc_classes.specs.Classes.{Classes, IsClass, size_of, per_page_of}

-- a line of the statistics, which ends with CR LF
abbrev pub line : List ℕ → List ℕ
line text = text ++ codes "\r\n"

-- one number of the statistics
abbrev pub stat_line : List ℕ → ℕ → List ℕ
stat_line name value = line (codes "STAT " ++ name ++ codes " " ++ decimal value)

-- one number of a class
abbrev pub class_line : ℕ → List ℕ → ℕ → List ℕ
class_line class name value = stat_line (decimal class ++ codes ":" ++ name) value

-- the six lines of a class that has pages
abbrev pub class_lines : ℕ → ℕ → ℕ → ℕ → ℕ → List ℕ
class_lines class size per_page pages free =
    class_line class (codes "chunk_size") size
    ++ class_line class (codes "chunks_per_page") per_page
    ++ class_line class (codes "total_pages") pages
    ++ class_line class (codes "total_chunks") (pages * per_page)
    ++ class_line class (codes "used_chunks") (pages * per_page - free)
    ++ class_line class (codes "free_chunks") free

-- the lines of the classes from this one on: a class without pages has none
abbrev pub classes_lines : Classes → ℕ → List ℕ → List ℕ → List ℕ
classes_lines table class (pages ∷ more_pages) (free ∷ more_free) =
    (if pages == 0 then [] else class_lines class (size_of table class) (per_page_of table class) pages free)
    ++ classes_lines table (class + 1) more_pages more_free
classes_lines table class pages free = []

-- the lines below those of the classes: how many have pages, and the bytes granted
abbrev pub totals_lines : ℕ → ℕ → List ℕ
totals_lines active malloced =
    stat_line (codes "active_slabs") active
    ++ stat_line (codes "total_malloced") malloced
    ++ line (codes "END")

-- the text of `stats slabs`: of each class its pages and free chunks, and the bytes granted
abbrev pub slabs_text : Classes → List ℕ → List ℕ → ℕ → List ℕ
slabs_text table pages free malloced =
    classes_lines table 1 pages free ++ totals_lines (count_by (λ n. nat_lt 0 n) pages) malloced

-- the text of `stats`
abbrev pub general_text : ℕ → ℕ → ℕ → ℕ → ℕ → ℕ → List ℕ
general_text pool running moved rescues evictions_nomem busy =
    stat_line (codes "slab_global_page_pool") pool
    ++ stat_line (codes "slab_reassign_running") running
    ++ stat_line (codes "slabs_moved") moved
    ++ stat_line (codes "slab_reassign_rescues") rescues
    ++ stat_line (codes "slab_reassign_evictions_nomem") evictions_nomem
    ++ stat_line (codes "slab_reassign_busy_items") busy
    ++ line (codes "END")

-- a number of pages and of free chunks for each class, no more free chunks than its pages have
pub record AreCounts (table : Classes) (pages free : List ℕ) : Type 0 where
  pub pages_of_each : length pages ≡ length table.sizes
  pub free_of_each : length free ≡ length table.sizes
  pub within_limit : (class : ℕ) → IsClass table class → slice_index pages (class - 1) ≤ 127
  pub within : (class : ℕ) → IsClass table class → slice_index free (class - 1) ≤ slice_index pages (class - 1) * per_page_of table class
