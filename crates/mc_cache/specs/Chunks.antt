-- The chunks of a class on all shards together.
use Rattle.std.specs.Prelude.{◌≡◌, ℕ, ◌*◌, ◌-◌, ◌^◌, ◌∷◌, [], min}
use Rattle.mc_classes.specs.Classes.{Classes, per_page_of, size_of}
use Rattle.mc_cache.specs.declared.chunks.ClassChunks.{ClassChunks}
use Rattle.mc_cache.specs.declared.stats.ClassStats.{ClassStats}

-- the chunks of this many pages; the number stays at 2^64 - 1 once there
abbrev pub chunks_in_pages : ℕ → ℕ → ℕ
chunks_in_pages pages per_page = min (pages * per_page) (2 ^ 64 - 1)

-- the chunks of a class that has these statistics: those of its pages, of which each that isn't free is used
abbrev pub chunks_of : Classes → ℕ → ClassStats → ClassChunks
chunks_of table class stats = record {
  chunk_bytes = size_of table class;
  per_page = per_page_of table class;
  chunks = chunks_in_pages stats.pages (per_page_of table class);
  used = chunks_in_pages stats.pages (per_page_of table class) - stats.free;
}

-- a table of two classes, with pages of 1,024 bytes
abbrev pub two_class_table : Classes
two_class_table = record { page = 1024; limit = 4096; sizes = 96 ∷ 192 ∷ [] }

-- the worked cases: some chunks are free, there is no page, and a product is too great
pub record WorkedChunks : Type 0 where
  pub some : chunks_of two_class_table 2 (record { pages = 3; free = 4; evictions = 7 }) ≡ record { chunk_bytes = 192; per_page = 5; chunks = 15; used = 11 }
  pub none : chunks_of two_class_table 1 (record { pages = 0; free = 0; evictions = 7 }) ≡ record { chunk_bytes = 96; per_page = 10; chunks = 0; used = 0 }
  pub most : chunks_of two_class_table 1 (record { pages = 2 ^ 64 - 1; free = 5; evictions = 0 }) ≡ record { chunk_bytes = 96; per_page = 10; chunks = 2 ^ 64 - 1; used = 2 ^ 64 - 6 }
