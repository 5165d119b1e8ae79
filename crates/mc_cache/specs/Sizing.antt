-- The configuration of a cache that takes at most so many bytes.
use Rattle.std.specs.Prelude.{◌≡◌, ℕ, ◌+◌, ◌*◌, ◌/◌, ◌<◌, ◌≤◌, min, max, not, nat_lt, if◌then◌else◌, Option, None, Some}
use Rattle.mc_classes.specs.Limits.{most_page_bytes, most_workers}
use Rattle.mc_classes.specs.declared.config.Config.{Config}
use Rattle.mc_classes.specs.Refusals.{is_between}
use Rattle.mc_cache.specs.declared.opening.CacheConfig.{CacheConfig}
use Rattle.mc_cache.specs.declared.sizing.SizingError.{SizingError}
use Rattle.mc_cache.specs.declared.sizing.SizingError.TheVariants.{TooFewBytes, Workers}
use Rattle.mc_cache.specs.Bytes.{cache_bytes}
use Rattle.mc_cache.specs.Opening.{cache_refusal}

-- the bytes of a chunk for n bytes of key and value: 24 of a header, 16 of two lengths, and the words of both, the last of each perhaps in part
abbrev pub usual_chunk : ℕ → ℕ
usual_chunk item = 40 + (min item most_page_bytes + 14) / 8 * 8

-- the chunks of the usual items that a page of 16,384 bytes has, one at least
abbrev pub usual_page_chunks : ℕ → ℕ
usual_page_chunks item = max (most_page_bytes / usual_chunk item) 1

-- the size of the first class: the largest of which a page has as many chunks, 64 at least
abbrev pub sized_first : ℕ → ℕ
sized_first item = max (most_page_bytes / usual_page_chunks item / 8 * 8) 64

-- twice the factor from class to class: of 4, and of 1.5 where a page has four chunks of the first class or fewer
abbrev pub doubled_factor : ℕ → ℕ
doubled_factor first = if nat_lt first 4096 then 8 else 3

-- the chunks that the pages within a limit have of the first class
abbrev pub sized_chunks : ℕ → ℕ → ℕ
sized_chunks item limit = limit / most_page_bytes * (most_page_bytes / sized_first item)

-- the stripes of an arena with n chunks of the first class: one for each 436 of them, so that an index seldom has more than 540 items
abbrev pub sized_stripes : ℕ → ℕ
sized_stripes chunks = (chunks + 435) / 436

-- the bytes that an index with room for 576 items takes: 64 groups of 64 bytes, and 40 for each item
abbrev pub index_bytes : ℕ
index_bytes = 64 * 64 + 40 * 576

-- the bytes that an index takes beside these while a worker makes it anew: 128 groups, and room for as many items again
abbrev pub renewal_bytes : ℕ
renewal_bytes = 64 * 128 + 40 * 576

-- the bytes that a new cache takes, those of its indexes once they are in use, and those that each worker makes one anew with
abbrev pub filled_bytes : CacheConfig → ℕ
filled_bytes config = cache_bytes config + config.shards * config.arena.stripes * index_bytes + config.workers * renewal_bytes

-- an arena for usual items of n bytes of key and value, with this limit: pages of 16,384 bytes, and one class that is near the usual item
abbrev pub sized_arena : ℕ → ℕ → Config
sized_arena item limit = record {
  page = most_page_bytes;
  limit = limit;
  first = sized_first item;
  num = doubled_factor (sized_first item);
  den = 2;
  max = most_page_bytes;
  stripes = sized_stripes (sized_chunks item limit);
  bulk = 64;
}

-- a cache of one shard with n pages, for usual items of this many bytes
abbrev pub sized_cache : ℕ → ℕ → ℕ → CacheConfig
sized_cache item workers pages = record { arena = sized_arena item (most_page_bytes * pages); shards = 1; workers = workers }

-- the configuration with n shards
abbrev pub with_shards : ℕ → CacheConfig → CacheConfig
with_shards shards config = record config { shards = shards }

-- a cache with one shard more is refused, or takes more than these bytes with its indexes
abbrev pub FillsBytes : ℕ → CacheConfig → Type 0
FillsBytes bytes config = cache_refusal (with_shards (config.shards + 1) config) ≡ None → bytes < filled_bytes (with_shards (config.shards + 1) config)

-- the configuration is accepted, takes at most these bytes with its indexes, and has no room for a shard more, with these workers and such an arena
pub record IsSized (bytes item workers : ℕ) (config : CacheConfig) : Type 0 where
  pub accepted : cache_refusal config ≡ None
  pub fits : filled_bytes config ≤ bytes
  pub full : FillsBytes bytes config
  pub count : config.workers ≡ workers
  pub arena : config.arena ≡ sized_arena item config.arena.limit

-- the first test that the numbers fail: of the workers, and of the bytes, which the smallest cache has to fit
abbrev pub sizing_refusal : ℕ → ℕ → ℕ → Option SizingError
sizing_refusal bytes item workers =
    if not (is_between 1 most_workers workers) then Some Workers
    else if nat_lt bytes (filled_bytes (sized_cache item workers 1)) then Some TooFewBytes
    else None
