-- The lines of a class, written one after another.
use Rattle.std.proofs.Common.{◌≡◌, ◌≢◌, ℕ, List, [], ◌++◌, ap, append-nil, append_assoc, ne_eqb, refl}
use Rattle.std.specs.Prelude.{codes}
use Rattle.mc_classes.specs.Classes.{Classes}
use Rattle.mc_shard.specs.declared.class_items.ClassItems.{ClassItems}
use Rattle.mc_cache.specs.Chunks.{chunks_of}
use Rattle.mc_cache.specs.declared.chunks.ClassChunks.{ClassChunks}
use Rattle.mc_cache.specs.declared.stats.ClassStats.{ClassStats}
use Rattle.mc_stats.specs.Items.{lines_of_items}
use Rattle.mc_stats.specs.Slabs.{labelled_line, lines_of_class}

-- the six lines of a class with these chunks
abbrev pub lines_with : ℕ → ClassStats → ClassChunks → List ℕ
lines_with class row chunks =
    labelled_line (codes "STAT ") class (codes "chunk_size") chunks.chunk_bytes
    ++ labelled_line (codes "STAT ") class (codes "chunks_per_page") chunks.per_page
    ++ labelled_line (codes "STAT ") class (codes "total_pages") row.pages
    ++ labelled_line (codes "STAT ") class (codes "total_chunks") chunks.chunks
    ++ labelled_line (codes "STAT ") class (codes "used_chunks") chunks.used
    ++ labelled_line (codes "STAT ") class (codes "free_chunks") row.free

-- they are those of a class with pages
pub paged_lines : (table : Classes) (class : ℕ) (row : ClassStats) (chunks : ClassChunks) → row.pages ≢ 0 → chunks ≡ chunks_of table class row → lines_with class row chunks ≡ lines_of_class table class row
paged_lines table class row chunks some is = rw (ne_eqb row.pages 0 some) (ap (lines_with class row) is)

-- the three lines of a class
abbrev pub lines_with_items : ℕ → ClassItems → ClassStats → List ℕ
lines_with_items class items row =
    labelled_line (codes "STAT items:") class (codes "number") items.items
    ++ labelled_line (codes "STAT items:") class (codes "mem_requested") items.bytes
    ++ labelled_line (codes "STAT items:") class (codes "evicted") row.evictions

-- they are those of a class with items
pub items_lines : (class : ℕ) (items : ClassItems) (row : ClassStats) → items.items ≢ 0 → lines_with_items class items row ≡ lines_of_items class items row
items_lines class items row some = rw (ne_eqb items.items 0 some) refl

-- three lines that were written one after another, and the text that they are
pub three_lines : (a b c : List ℕ) → a ++ (b ++ (c ++ [])) ≡ (a ++ b) ++ c
three_lines a b c = simp (append_assoc, append-nil)

-- a text, two lines and an end
pub two_lines_behind : (a b c d : List ℕ) → (a ++ (b ++ (c ++ []))) ++ d ≡ ((a ++ b) ++ c) ++ d
two_lines_behind a b c d = simp (append_assoc, append-nil)

-- three lines and an end
pub three_lines_behind : (a b c d : List ℕ) → (a ++ (b ++ (c ++ []))) ++ d ≡ ((a ++ b) ++ c) ++ d
three_lines_behind a b c d = simp (append_assoc, append-nil)
