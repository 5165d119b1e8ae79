-- What a worker's gets and sets did.
use Rattle.std.proofs.Common.{◌≡◌, ℕ, List, [], Option, Some, IfSome, Result, ap, subst, sym}
use Rattle.mc_shard.specs.declared.conditions.Outcome.{Outcome}
use Rattle.mc_shard.specs.declared.conditions.Outcome.TheVariants.{Stored, Exists, Missing}
use Rattle.mc_shard.specs.declared.conditions.When.TheVariants.{Version}
use Rattle.mc_cache.specs.declared.working.SetError.{SetError}
use Rattle.mc_cache.specs.Conditional.{SetsValueIf}
use Rattle.mc_words.specs.declared.arena.Arena.{Arena}
use Rattle.mc_words.specs.declared.hand.Hand.{Hand}
use Rattle.mc_cache.specs.declared.cache.Cache.{Cache}
use Rattle.mc_cache.specs.declared.cache.Worker.{Worker}
use Rattle.mc_cache.specs.Belonging.{ActsOnKey, hash_in}
use Rattle.mc_cache.specs.Shards.{StoresNoMore}
use Rattle.mc_cache.specs.Versions.{GivesVersionOf, ReadsVersion}
use Rattle.mc_update.specs.Adding.{AddsValue}
use Rattle.mc_update.specs.Changes.{changed_by}
use Rattle.mc_update.specs.Updates.{GetsVersion, EndsWithoutMemory, OnlyGets, SetsChanged, stored_version}
use Rattle.mc_update.specs.declared.change.Change.{Change}

-- what follows from what was done on a shard
pub acts_so : (cache : Cache) (key : List ℕ) (P Q : Arena → Hand → Hand → Type 0) (before now : Worker) → ((arena : Arena) (hand after : Hand) → P arena hand after → Q arena hand after) → ActsOnKey cache key P before now → ActsOnKey cache key Q before now
acts_so cache key P Q before now follows acts = record {
  arena = acts.arena;
  is_arena = acts.is_arena;
  hand = acts.hand;
  is_hand = acts.is_hand;
  after = acts.after;
  others = acts.others;
  does = follows acts.arena acts.hand acts.after acts.does;
}

module _ (cache : Cache) (key : List ℕ) (version : ℕ) (new : List ℕ) (before now : Worker) where
  -- a value that was put behind no bytes is what is there
  pub gets_version : GivesVersionOf cache key version [] new before now → OnlyGets cache key before now → GetsVersion cache key new version before now
  gets_version gives only = record { reads = subst (λ (value : List ℕ). ActsOnKey cache key (ReadsVersion (hash_in cache key) key value version) before now) (sym gives.2) gives.1; only = only }

  -- a get stored nothing
  pub lacks_memory : GivesVersionOf cache key version [] new before now → OnlyGets cache key before now → EndsWithoutMemory cache key before now
  lacks_memory gives only = record {
    stores_nothing = acts_so cache key (ReadsVersion (hash_in cache key) key gives.0 version) StoresNoMore before now (λ arena hand after reads. reads.1) gives.1;
    only = only;
  }

-- a get whose version is this, behind no bytes
pub given_version : (cache : Cache) (key old new : List ℕ) (before now : Worker) (o : Option ℕ) (version : ℕ) → o ≡ Some version → old ≡ [] → IfSome o (λ v. GivesVersionOf cache key v old new before now) → GivesVersionOf cache key version [] new before now
given_version cache key old new before now o version is empty gives =
    subst (λ (none : List ℕ). GivesVersionOf cache key version none new before now) empty (subst (λ (some : Option ℕ). IfSome some (λ v. GivesVersionOf cache key v old new before now)) is gives)

-- what has a stored version was stored
pub is_stored : (outcome : Outcome) (stamp : ℕ) → stored_version outcome ≡ Some stamp → outcome ≡ Stored stamp
is_stored (Stored other) stamp is = let same : other ≡ stamp = cc in ap Stored same
is_stored Exists stamp is = absurd (cc)
is_stored Missing stamp is = absurd (cc)

-- a set over the version that was got, with its result
pub sets_so : (cache : Cache) (key : List ℕ) (change : Change) (found value sent : List ℕ) (version : ℕ) (returned result : Result Outcome SetError) (before between now : Worker)
    → GetsVersion cache key found version before between → changed_by change found ≡ Some value → sent ≡ value → returned ≡ result
    → ActsOnKey cache key (SetsValueIf (hash_in cache key) key sent (Version version) returned) between now → SetsChanged cache key change value result before now
sets_so cache key change found value sent version returned result before between now gets changes same is sets = record {
  old = found;
  version = version;
  between = between;
  gets = gets;
  changes = changes;
  sets = subst (λ (r : Result Outcome SetError). ActsOnKey cache key (SetsValueIf (hash_in cache key) key value (Version version) r) between now) is
      (subst (λ (v : List ℕ). ActsOnKey cache key (SetsValueIf (hash_in cache key) key v (Version version) returned) between now) same sets);
}

-- an add, with its result
pub adds_so : (cache : Cache) (key sent made : List ℕ) (returned result : Result Outcome SetError) (before now : Worker) → sent ≡ made → returned ≡ result → AddsValue cache key sent returned before now → AddsValue cache key made result before now
adds_so cache key sent made returned result before now same is adds =
    subst (λ (r : Result Outcome SetError). AddsValue cache key made r before now) is (subst (λ (v : List ℕ). AddsValue cache key v returned before now) same adds)
