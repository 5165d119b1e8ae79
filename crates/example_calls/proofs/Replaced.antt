-- What a set over a version took the place of.
use Rattle.std.proofs.Common.{ℕ, List, Ok}
use Rattle.mc_cache.specs.declared.cache.Cache.{Cache}
use Rattle.mc_cache.specs.declared.cache.Worker.{Worker}
use Rattle.mc_shard.specs.declared.conditions.Outcome.TheVariants.{Stored}
use Rattle.mc_shard.specs.declared.conditions.When.TheVariants.{Version}
use Rattle.mc_cache.specs.Belonging.{ActsOnKey, hash_in}
use Rattle.mc_cache.specs.Conditional.{SetsValueIf, VersionsAreReplaced}
use Rattle.example_calls.specs.Cached.{StoresOverVersion}

-- a set over a version that stored took the place of the value of that version
pub stored_over : (cache : Cache) (key value : List ℕ) (version stamp : ℕ) (before now : Worker) → VersionsAreReplaced → ActsOnKey cache key (SetsValueIf (hash_in cache key) key value (Version version) (Ok (Stored stamp))) before now → ActsOnKey cache key (StoresOverVersion (hash_in cache key) key value version stamp) before now
stored_over cache key value version stamp before now law acts = record {
  arena = acts.arena;
  is_arena = acts.is_arena;
  hand = acts.hand;
  is_hand = acts.is_hand;
  after = acts.after;
  others = acts.others;
  does = law acts.arena (hash_in cache key) key value version stamp acts.hand acts.after acts.does;
}
