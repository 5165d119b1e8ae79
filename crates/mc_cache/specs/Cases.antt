-- Worked cases of caches, which the prover computes.
use Rattle.std.specs.Prelude.{◌≡◌, None, Some, ◌∷◌, []}
use Rattle.mc_mover.specs.declared.counts.Turn.TheVariants.{Finished, Went}
use Rattle.mc_cache.specs.declared.opening.CacheConfig.{CacheConfig}
use Rattle.mc_cache.specs.Bytes.{cache_bytes, config_table_bytes}
use Rattle.mc_cache.specs.Sizing.{sized_chunks, sized_first, sized_stripes, sizing_refusal}
use Rattle.mc_cache.specs.declared.sizing.SizingError.TheVariants.{TooFewBytes, Workers}
use Rattle.mc_cache.specs.Tending.{tended_in_all}
use Rattle.mc_cache.specs.Windows.{turns_tended}

-- three shards of two pages of 64 bytes, with chunks of 24 bytes at least and one stripe: the tables have 133 words each. Two workers
abbrev pub SmallCaches : Type 0
SmallCaches =
    let config : CacheConfig = record { arena = record { page = 64; limit = 128; first = 24; num = 5; den = 4; max = 64; stripes = 1; bulk = 1 }; shards = 3; workers = 2 } in
    (config_table_bytes config ≡ 3192) × (cache_bytes config ≡ 27336)

-- four shards of 64 pages of 16,384 bytes, with chunks of 64 bytes at least and 16 stripes. Two workers
abbrev pub LargeCache : Type 0
LargeCache = cache_bytes (record { arena = record { page = 16384; limit = 1048576; first = 64; num = 2; den = 1; max = 4096; stripes = 16; bulk = 64 }; shards = 4; workers = 2 }) ≡ 6946832

-- the first class for items of 72 and of 1,032 bytes, and when a size is refused: there is no worker, or there are too few bytes
abbrev pub UsualSizes : Type 0
UsualSizes =
    (sized_first 72 ≡ 120)
    × (sized_stripes (sized_chunks 72 16384) ≡ 1)
    × (sized_stripes (sized_chunks 72 1048576) ≡ 20)
    × (sized_first 1032 ≡ 1088)
    × (sizing_refusal 1000000 72 0 ≡ Some Workers)
    × (sizing_refusal 168319 72 1 ≡ Some TooFewBytes)
    × (sizing_refusal 168320 72 1 ≡ None)

-- a turn that went on and one that finished: one move that ended, and what both did
abbrev pub TwoTurns : Type 0
TwoTurns =
    turns_tended (Finished (record { cleared = 5; rescued = 2; evicted = 3; busy = 0; locked = 0 }) ∷ Went (record { cleared = 4; rescued = 1; evicted = 0; busy = 6; locked = 7 }) ∷ [])
    ≡ record { found = 0; began = 0; ended = 1; rescued = 3; evicted = 3 }

-- what was done on two shards is summed
abbrev pub TwoShards : Type 0
TwoShards =
    tended_in_all (record { found = 1; began = 0; ended = 1; rescued = 2; evicted = 3 } ∷ record { found = 0; began = 1; ended = 1; rescued = 0; evicted = 1 } ∷ [])
    ≡ record { found = 1; began = 1; ended = 2; rescued = 2; evicted = 4 }
