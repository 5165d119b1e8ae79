-- What a call does by the tender, and the code that it returns.
use Rattle.std.specs.Prelude.{◌≡◌, ◌⊎◌, ◌+◌, ◌<◌, ◌≤◌, ℕ, List, Option, None, Some, Result, if◌then◌else◌, ◌==◌, length, slice_index_or}
use Rattle.std.specs.Arc.{arc_value}
use Rattle.mc_classes.specs.Classes.{Classes, per_page_of, size_of}
use Rattle.mc_pages.specs.declared.moves.Reassign.{Reassign}
use Rattle.mc_cache.specs.declared.cache.Cache.{Cache}
use Rattle.mc_cache.specs.declared.stats.CacheStats.{CacheStats}
use Rattle.mc_cache.specs.declared.stats.ClassStats.{ClassStats}
use Rattle.mc_cache.specs.declared.tending_within.TendedWithin.{TendedWithin}
use Rattle.mc_cache.specs.Observers.{classes_of, shard_count}
use Rattle.mc_cache.specs.Stats.{CountsCache, CountsUpToRefusal, SetsModes, no_statistics}
use Rattle.mc_cache.specs.TendingWithin.{CountsUpToMiss, MissesOnlyOn, ReassignsOn, SetsModesUpToMiss, TendsCacheWithin, TendsUpToRefusalWithin}
use Rattle.mc_c.specs.declared.client.TenderClient.{TenderClient}
use Rattle.mc_c.specs.declared.tending.McClassStats.{McClassStats}
use Rattle.mc_c.specs.declared.tending.McTended.{McTended}
use Rattle.mc_c.specs.declared.tending.McTotals.{McTotals}
use Rattle.mc_c.specs.Codes.{reassign_code}

-- the cache of the tender's client
abbrev pub cache_of : TenderClient → Cache
cache_of client = arc_value client.cache

-- what was done, as C has it
abbrev pub tended_of : TendedWithin → McTended
tended_of done = record { found = done.tended.found; began = done.tended.began; ended = done.tended.ended; rescued = done.tended.rescued; evicted = done.tended.evicted; held = done.held }

-- the sums over all shards, as C has them
abbrev pub totals_of : CacheStats → McTotals
totals_of stats = record { granted = stats.granted; pool = stats.pool; moving = stats.moving; ended = stats.ended; rescued = stats.rescued; evicted = stats.evicted; busy = stats.busy }

-- what a class has, as C has it
abbrev pub class_row : Classes → ℕ → ClassStats → McClassStats
class_row table class stats = record { size = size_of table class; per_page = per_page_of table class; pages = stats.pages; free_chunks = stats.free; evictions = stats.evictions }

-- a window of all shards, and what was written of it
pub record TendsAs (code tries : ℕ) (before now : McTended) (client after : TenderClient) : Type 0 where
  pub codes : (code ≡ 0) ⊎ (code ≡ 6)
  pub tends : code ≡ 0 → (done : TendedWithin) × TendsCacheWithin tries (cache_of client) done client.tender after.tender × (now ≡ tended_of done)
  pub refused : code ≡ 6 → TendsUpToRefusalWithin tries (cache_of client) client.tender after.tender × (now ≡ before)
  pub cache : cache_of after ≡ cache_of client

-- the mode of all shards was set, or the number is no mode
pub record SetsModeAs (code tries mode : ℕ) (client after : TenderClient) : Type 0 where
  pub codes : (code ≡ 0) ⊎ (code ≡ 2) ⊎ (code ≡ 15)
  pub sets : code ≡ 0 → (mode ≤ 2) × SetsModes mode client.tender after.tender
  pub held : code ≡ 2 → (mode ≤ 2) × SetsModesUpToMiss tries mode (cache_of client) client.tender after.tender
  pub no_mode : code ≡ 15 → (2 < mode) × (after.tender ≡ client.tender)
  pub cache : cache_of after ≡ cache_of client

-- class 0 is none
abbrev pub source_of : ℕ → Option ℕ
source_of src = if src == 0 then None else Some src

-- a move was asked for on a shard, or there is no such shard
pub record ReassignsAs (code tries shard src dst : ℕ) (client after : TenderClient) : Type 0 where
  pub no_shard : shard_count (cache_of client) ≤ shard → (code ≡ 15) × (after.tender ≡ client.tender)
  pub asks : shard < shard_count (cache_of client) → ((code ≡ 2) × MissesOnlyOn tries (cache_of client) shard client.tender after.tender)
      ⊎ ((answer : Result (Unit {0}) Reassign) × (code ≡ reassign_code answer) × ReassignsOn (cache_of client) shard (source_of src) dst answer client.tender after.tender)
  pub cache : cache_of after ≡ cache_of client

-- the first rows are those of the classes, as far as there are both; the others are as they were
pub record WritesClasses (table : Classes) (stats : List ClassStats) (before now : List McClassStats) : Type 0 where
  pub length_is : length now ≡ length before
  pub written : (place : ℕ) (row : McClassStats) → place < length table.sizes → place < length stats → place < length before
      → slice_index_or now place row ≡ class_row table (place + 1) (slice_index_or stats place no_statistics)
  pub others : (place : ℕ) (row : McClassStats) → length table.sizes ≤ place → slice_index_or now place row ≡ slice_index_or before place row

-- the statistics were written, or the number of classes alone, or nothing
pub record CountsAs (code tries : ℕ) (totals : McTotals) (rows : List McClassStats) (count : ℕ) (new_totals : McTotals) (new_rows : List McClassStats) (new_count : ℕ) (client after : TenderClient) : Type 0 where
  pub codes : (code ≡ 0) ⊎ (code ≡ 2) ⊎ (code ≡ 6) ⊎ (code ≡ 7)
  pub counts : code ≡ 0 → (stats : CacheStats) × (table : Classes) × CountsCache (cache_of client) stats client.tender after.tender × (classes_of (cache_of client) ≡ Some table)
      × (new_totals ≡ totals_of stats) × (new_count ≡ length table.sizes) × WritesClasses table stats.classes.items rows new_rows
  pub held : code ≡ 2 → CountsUpToMiss tries (cache_of client) client.tender after.tender
  pub no_memory : code ≡ 6 → CountsUpToRefusal (cache_of client) client.tender after.tender
  pub too_small : code ≡ 7 → (after.tender ≡ client.tender) × ((table : Classes) × (classes_of (cache_of client) ≡ Some table) × (new_count ≡ length table.sizes) × (length rows < length table.sizes))
  pub kept : (code ≡ 0 → ⊥) → (new_totals ≡ totals) × (new_rows ≡ rows)
  pub kept_count : (code ≡ 2) ⊎ (code ≡ 6) → new_count ≡ count
  pub cache : cache_of after ≡ cache_of client
