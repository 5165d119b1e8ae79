-- A value that was changed without a test of its bytes.
use Rattle.std.proofs.Common.{◌≡◌, ◌∙◌, ℕ, List, Option, Some, Ok, subst, sym}
use Rattle.mc_cache.specs.declared.cache.Cache.{Cache}
use Rattle.mc_cache.specs.declared.cache.Worker.{Worker}
use Rattle.mc_shard.specs.declared.conditions.Outcome.TheVariants.{Stored}
use Rattle.mc_shard.specs.declared.conditions.When.TheVariants.{Version}
use Rattle.mc_cache.specs.Belonging.{ActsOnKey, hash_in}
use Rattle.mc_cache.specs.Conditional.{SetsValueIf, VersionsAreReplaced}
use Rattle.mc_update.specs.Changes.{changed_by}
use Rattle.mc_update.specs.Updates.{ChangesValue}
use Rattle.mc_update.specs.declared.change.Change.{Change}
use Rattle.example_calls.specs.Lengthened.{StoresChanged}
use Rattle.example_calls.proofs.Replaced.{stored_over}

-- the change gives each value something
pub stores_changed : (cache : Cache) (key value : List ℕ) (change : Change) (becomes : List ℕ → List ℕ) (stamp : ℕ) (before now : Worker) → VersionsAreReplaced → ((old : List ℕ) → changed_by change old ≡ Some (becomes old)) → ChangesValue cache key change value (Ok (Some stamp)) before now → StoresChanged cache key becomes now
stores_changed cache key value change becomes stamp before now law is did =
    let set = did.ends in
    let made : value ≡ becomes set.old = let some : Some value ≡ Some (becomes set.old) = sym set.changes ∙ is set.old in cc in
    record {
      old = set.old;
      version = set.version;
      before = did.between;
      between = set.between;
      finds = set.gets.reads;
      stamp = stamp;
      stores = stored_over cache key (becomes set.old) set.version stamp set.between now law (subst (λ (bytes : List ℕ). ActsOnKey cache key (SetsValueIf (hash_in cache key) key bytes (Version set.version) (Ok (Stored stamp))) set.between now) made set.sets);
    }
