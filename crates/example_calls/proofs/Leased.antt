-- What a store chose, by the kind of the store.
use Rattle.std.proofs.Common.{◌≡◌, ℕ, List, Option, None, Some, Ok, Bor, subst, sym}
use Rattle.mc_shard.specs.declared.conditions.Outcome.TheVariants.{Stored}
use Rattle.mc_cache.specs.declared.cache.Cache.{Cache}
use Rattle.mc_cache.specs.declared.cache.Worker.{Worker}
use Rattle.mc_cache.specs.Belonging.{ActsOnKey, hash_in}
use Rattle.mc_cache.specs.Conditional.{SetsValueIf}
use Rattle.mc_expiry.specs.Choosing.{value_to_store}
use Rattle.mc_expiry.specs.Deadlines.{timed_bytes}
use Rattle.mc_expiry.specs.Looking.{LooksAtKey, condition_of}
use Rattle.mc_expiry.specs.Storing.{StoresUntil}
use Rattle.mc_expiry.specs.declared.kinds.StoreKind.TheVariants.{Add, Replace}
use Rattle.example_calls.specs.Leased.{RenewsLease, StoresOwner, TakesLease}

module _ (cache : Cache) (key : List ℕ) (time deadline stamp : ℕ) (now : Worker) where
  -- the value that was chosen is the owner
  stores_owner : (unexpired : Option (List ℕ)) (found : Option ℕ) (before between : Worker) (value owner : List ℕ) → LooksAtKey cache key time unexpired found before between → value ≡ owner → ActsOnKey cache key (SetsValueIf (hash_in cache key) key (timed_bytes deadline value) (condition_of found) (Ok (Stored stamp))) between now → StoresOwner cache key unexpired owner time deadline now
  stores_owner unexpired found before between value owner looks is sets = record {
    found = found;
    before = before;
    between = between;
    looks = looks;
    stamp = stamp;
    sets = subst (λ (bytes : List ℕ). ActsOnKey cache key (SetsValueIf (hash_in cache key) key (timed_bytes deadline bytes) (condition_of found) (Ok (Stored stamp))) between now) is sets;
  }

  same_some : (value owner : List ℕ) → Some owner ≡ Some value → value ≡ owner
  same_some value owner is = cc

  taken : (owner : Bor (List ℕ)) (unexpired : Option (List ℕ)) (found : Option ℕ) (before between : Worker) (value : List ℕ) → LooksAtKey cache key time unexpired found before between → value_to_store (Add owner) unexpired ≡ Some value → ActsOnKey cache key (SetsValueIf (hash_in cache key) key (timed_bytes deadline value) (condition_of found) (Ok (Stored stamp))) between now → TakesLease cache key owner.now time deadline now
  taken owner None found before between value looks chooses sets = stores_owner None found before between value owner.now looks (same_some value owner.now chooses) sets
  taken owner (Some old) found before between value looks chooses sets = absurd cc

  renewed : (owner : Bor (List ℕ)) (unexpired : Option (List ℕ)) (found : Option ℕ) (before between : Worker) (value : List ℕ) → LooksAtKey cache key time unexpired found before between → value_to_store (Replace owner) unexpired ≡ Some value → ActsOnKey cache key (SetsValueIf (hash_in cache key) key (timed_bytes deadline value) (condition_of found) (Ok (Stored stamp))) between now → RenewsLease cache key owner.now time deadline now
  renewed owner None found before between value looks chooses sets = absurd cc
  renewed owner (Some old) found before between value looks chooses sets = (old, stores_owner (Some old) found before between value owner.now looks (same_some value owner.now chooses) sets)

  -- an add that stored
  pub takes_lease : (owner : Bor (List ℕ)) (before : Worker) → StoresUntil cache key (Add owner) time deadline (Ok (Some stamp)) before now → TakesLease cache key owner.now time deadline now
  takes_lease owner before did = let set = did.ends in taken owner set.unexpired set.found did.between set.between set.value set.looks set.chooses set.sets

  -- a replace that stored
  pub renews_lease : (owner : Bor (List ℕ)) (before : Worker) → StoresUntil cache key (Replace owner) time deadline (Ok (Some stamp)) before now → RenewsLease cache key owner.now time deadline now
  renews_lease owner before did = let set = did.ends in renewed owner set.unexpired set.found did.between set.between set.value set.looks set.chooses set.sets
