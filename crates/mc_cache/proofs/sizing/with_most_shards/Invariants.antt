use Rattle.std.proofs.Common.{◌≡◌, ◌-◌, ◌≤◌, None}
use Rattle.mc_cache.specs.Opening.{cache_refusal}
use Rattle.mc_cache.specs.Sizing.{filled_bytes, with_shards}
use Rattle.mc_cache.proofs.sizing.with_most_shards.Given as goal

abbrev pub invariant-loop-shards : goal.invariant-loop-shards
invariant-loop-shards l =
    record {
      accepted : cache_refusal (with_shards l.shards l.config) ≡ None;
      fits : filled_bytes (with_shards l.shards l.config) ≤ l.bytes;
      within_limit : l.shards ≤ 4096;
    }

abbrev pub decreases-loop-shards : goal.decreases-loop-shards
decreases-loop-shards l = 4096 - l.shards
