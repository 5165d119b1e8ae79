-- What callers did that cleared a cache, or listed the keys of a shard.
use Rattle.std.specs.Prelude.{◌≡◌, ℕ, zero, suc, List}
use Rattle.mc_cache.specs.declared.cache.Cache.{Cache}
use Rattle.mc_cache.specs.declared.cache.Worker.{Worker}
use Rattle.mc_cache.specs.Listing.{ListsPart}
use Rattle.mc_cache.specs.Tending.{SayNothing}
use Rattle.mc_cache.specs.Walking.{ClearsCache, CountsItems, LosesEachHash}

-- the worker deleted every key of the cache, and then counted its items
pub record ClearsAndCounts (cache : Cache) (deleted left : ℕ) (before now : Worker) : Type 0 where
  pub between : Worker
  pub clears : ClearsCache cache deleted before between
  -- for each hash there is a moment in which it led nowhere, behind all that the worker had done before, and before it counted
  pub gone : LosesEachHash cache before between
  pub counts : CountsItems cache left between now

-- the worker stored nothing with any of its hands
abbrev pub StoresNoValue : Worker → Worker → Type 0
StoresNoValue before now = SayNothing before.hands.items now.hands.items

-- the worker listed the keys of the first n parts of the shard, one part after another, each behind the keys of those before it
abbrev pub ListsFirstParts : Cache → ℕ → ℕ → List (List ℕ) → List (List ℕ) → Worker → Worker → Type 0
ListsFirstParts cache shard zero old new before now = (new ≡ old) × (now ≡ before)
ListsFirstParts cache shard (suc part) old new before now =
    (keys : List (List ℕ)) × (between : Worker) × ListsFirstParts cache shard part old keys before between × ListsPart cache shard part keys new between now
