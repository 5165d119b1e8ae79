-- The text of a cache's classes in the format OpenMetrics.
use Rattle.std.specs.Prelude.{◌≡◌, ℕ, zero, suc, ◌+◌, ◌==◌, if◌then◌else◌, List, [], ◌∷◌, ◌++◌, codes, decimal, length, slice_index_or}
use Rattle.std.specs.List.{flat_map}
use Rattle.mc_classes.specs.Classes.{Classes}
use Rattle.mc_shard.specs.ClassItems.{no_items}
use Rattle.mc_shard.specs.declared.class_items.ClassItems.{ClassItems}
use Rattle.mc_cache.specs.Chunks.{chunks_of, two_class_table}
use Rattle.mc_cache.specs.Stats.{no_statistics}
use Rattle.mc_cache.specs.declared.chunks.ClassChunks.{ClassChunks}
use Rattle.mc_cache.specs.declared.stats.ClassStats.{ClassStats}
use Rattle.mc_stats.specs.Rows.{some_calls}
use Rattle.mc_stats.specs.Texts.{openmetrics_text}
use Rattle.mc_stats.specs.declared.class_metrics.ClassMetric.{ClassMetric}
use Rattle.mc_stats.specs.declared.class_metrics.ClassMetric.TheVariants.{ChunkBytes, Chunks, ChunksPerPage, Evictions, FreeChunks, ItemBytes, Items, Pages, UsedChunks}
use Rattle.mc_stats.specs.declared.counts.Counts.{Counts}

-- the number that a metric has of a class with these chunks, statistics and items
abbrev pub number_of_metric : ClassMetric → ClassChunks → ClassStats → ClassItems → ℕ
number_of_metric ChunkBytes chunks row items = chunks.chunk_bytes
number_of_metric ChunksPerPage chunks row items = chunks.per_page
number_of_metric Pages chunks row items = row.pages
number_of_metric Chunks chunks row items = chunks.chunks
number_of_metric UsedChunks chunks row items = chunks.used
number_of_metric FreeChunks chunks row items = row.free
number_of_metric Items chunks row items = items.items
number_of_metric ItemBytes chunks row items = items.bytes
number_of_metric Evictions chunks row items = row.evictions

-- a number of a class behind its name, with the class as the label
abbrev pub class_sample : List ℕ → ℕ → ℕ → List ℕ
class_sample name class number = name ++ codes "{class=\"" ++ decimal class ++ codes "\"} " ++ decimal number ++ codes "\n"

-- the sample that a metric has of a class; of one without pages it has none
abbrev pub sample_of_class : List ℕ → ClassMetric → Classes → ℕ → ClassStats → ClassItems → List ℕ
sample_of_class name metric table class row items =
    if row.pages == 0 then [] else class_sample name class (number_of_metric metric (chunks_of table class row) row items)

-- the samples of the first n classes, class 1 first
abbrev pub samples_of_first_classes : List ℕ → ClassMetric → Classes → List ClassStats → List ClassItems → ℕ → List ℕ
samples_of_first_classes name metric table rows items zero = []
samples_of_first_classes name metric table rows items (suc place) =
    samples_of_first_classes name metric table rows items place
    ++ sample_of_class name metric table (place + 1) (slice_index_or rows place no_statistics) (slice_index_or items place no_items)

-- a metric: the lines of its type and its unit, the name of its samples, and what it counts
pub record MetricFamily : Type 0 where
  pub head : List ℕ
  pub name : List ℕ
  pub metric : ClassMetric

-- the metrics of the classes, in the order of the text
abbrev pub class_families : List MetricFamily
class_families =
    record { head = codes "# TYPE mc_class_chunk_bytes gauge\n# UNIT mc_class_chunk_bytes bytes\n"; name = codes "mc_class_chunk_bytes"; metric = ChunkBytes }
    ∷ record { head = codes "# TYPE mc_class_chunks_per_page gauge\n"; name = codes "mc_class_chunks_per_page"; metric = ChunksPerPage }
    ∷ record { head = codes "# TYPE mc_class_pages gauge\n"; name = codes "mc_class_pages"; metric = Pages }
    ∷ record { head = codes "# TYPE mc_class_chunks gauge\n"; name = codes "mc_class_chunks"; metric = Chunks }
    ∷ record { head = codes "# TYPE mc_class_used_chunks gauge\n"; name = codes "mc_class_used_chunks"; metric = UsedChunks }
    ∷ record { head = codes "# TYPE mc_class_free_chunks gauge\n"; name = codes "mc_class_free_chunks"; metric = FreeChunks }
    ∷ record { head = codes "# TYPE mc_class_items gauge\n"; name = codes "mc_class_items"; metric = Items }
    ∷ record { head = codes "# TYPE mc_class_item_bytes gauge\n# UNIT mc_class_item_bytes bytes\n"; name = codes "mc_class_item_bytes"; metric = ItemBytes }
    ∷ record { head = codes "# TYPE mc_class_evictions counter\n"; name = codes "mc_class_evictions_total"; metric = Evictions }
    ∷ []

-- the text of a metric: its head, and then the samples of all classes
abbrev pub family_text : Classes → List ClassStats → List ClassItems → List ℕ → List ℕ → ClassMetric → List ℕ
family_text table rows items head name metric = head ++ samples_of_first_classes name metric table rows items (length table.sizes)

-- the text of the classes, without the end of an exposition
abbrev pub class_metrics_text : Classes → List ClassStats → List ClassItems → List ℕ
class_metrics_text table rows items = flat_map (λ family. family_text table rows items family.head family.name family.metric) class_families

-- a whole exposition: the text of the classes, and that of the counts with the end
abbrev pub exposition_text : Counts → Classes → List ClassStats → List ClassItems → List ℕ
exposition_text counts table rows items = class_metrics_text table rows items ++ openmetrics_text counts

-- three classes: the pages of class 2 went to other classes
abbrev pub three_class_table : Classes
three_class_table = record two_class_table { sizes = 96 ∷ 192 ∷ 392 ∷ [] }

-- the statistics of these classes
abbrev pub three_stats_rows : List ClassStats
three_stats_rows = record { pages = 1; free = 3; evictions = 2 } ∷ record { pages = 0; free = 0; evictions = 5 } ∷ record { pages = 3; free = 4; evictions = 7 } ∷ []

-- the items of these classes
abbrev pub three_items_rows : List ClassItems
three_items_rows = record { items = 6; bytes = 400 } ∷ no_items ∷ record { items = 2; bytes = 700 } ∷ []

-- the worked text of these
abbrev pub metrics_of_three_classes : List ℕ
metrics_of_three_classes =
    codes "# TYPE mc_class_chunk_bytes gauge\n# UNIT mc_class_chunk_bytes bytes\nmc_class_chunk_bytes{class=\"1\"} 96\nmc_class_chunk_bytes{class=\"3\"} 392\n"
    ++ codes "# TYPE mc_class_chunks_per_page gauge\nmc_class_chunks_per_page{class=\"1\"} 10\nmc_class_chunks_per_page{class=\"3\"} 2\n"
    ++ codes "# TYPE mc_class_pages gauge\nmc_class_pages{class=\"1\"} 1\nmc_class_pages{class=\"3\"} 3\n"
    ++ codes "# TYPE mc_class_chunks gauge\nmc_class_chunks{class=\"1\"} 10\nmc_class_chunks{class=\"3\"} 6\n"
    ++ codes "# TYPE mc_class_used_chunks gauge\nmc_class_used_chunks{class=\"1\"} 7\nmc_class_used_chunks{class=\"3\"} 2\n"
    ++ codes "# TYPE mc_class_free_chunks gauge\nmc_class_free_chunks{class=\"1\"} 3\nmc_class_free_chunks{class=\"3\"} 4\n"
    ++ codes "# TYPE mc_class_items gauge\nmc_class_items{class=\"1\"} 6\nmc_class_items{class=\"3\"} 2\n"
    ++ codes "# TYPE mc_class_item_bytes gauge\n# UNIT mc_class_item_bytes bytes\nmc_class_item_bytes{class=\"1\"} 400\nmc_class_item_bytes{class=\"3\"} 700\n"
    ++ codes "# TYPE mc_class_evictions counter\nmc_class_evictions_total{class=\"1\"} 2\nmc_class_evictions_total{class=\"3\"} 7\n"

-- the worked texts of these classes, alone and in a whole exposition
pub record MetricsOfThreeClasses : Type 0 where
  pub classes : class_metrics_text three_class_table three_stats_rows three_items_rows ≡ metrics_of_three_classes
  pub whole : exposition_text some_calls three_class_table three_stats_rows three_items_rows ≡ metrics_of_three_classes ++ openmetrics_text some_calls
