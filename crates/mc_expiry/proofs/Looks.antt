-- What a worker's look at a key found, and what was set behind it.
use Rattle.std.proofs.Common.{◌≡◌, ◌∙◌, ◌++◌, ℕ, List, [], Option, None, Some, IfSome, OnErr, Result, Err, Ok, inl, inr, refl, subst, sym, true≢false}
use Rattle.mc_shard.specs.declared.conditions.Outcome.{Outcome}
use Rattle.mc_shard.specs.declared.conditions.When.{When}
use Rattle.mc_shard.specs.declared.deleting_version.Deletion.{Deletion}
use Rattle.mc_shard.specs.declared.deleting_version.Deletion.TheVariants.{Deleted, Exists, Missing}
use Rattle.mc_cache.specs.declared.cache.Cache.{Cache}
use Rattle.mc_cache.specs.declared.cache.Worker.{Worker}
use Rattle.mc_cache.specs.declared.working.CallError.{CallError}
use Rattle.mc_cache.specs.declared.working.SetError.{SetError}
use Rattle.mc_cache.specs.Belonging.{ActsOnKey, hash_in}
use Rattle.mc_cache.specs.Conditional.{SetsValueIf}
use Rattle.mc_cache.specs.Deleting.{DeletesOnce, DeletesVersionThere, KeepsOtherVersion, LacksVersion}
use Rattle.mc_cache.specs.Shards.{GetsAtMost, IsKey, LooksInVain, ReadsOther, StoresNoMore, TouchesNothing}
use Rattle.mc_cache.specs.Versions.{GivesVersionOf}
use Rattle.mc_update.specs.Updates.{EndsWithoutMemory, OnlyGets}
use Rattle.mc_update.proofs.Acts.{acts_so, gets_version, lacks_memory}
use Rattle.mc_expiry.specs.Choosing.{ChoosesNone, PutsChosen}
use Rattle.mc_expiry.specs.Deadlines.{timed_bytes}
use Rattle.mc_expiry.specs.Getting.{DeletesThisVersion, GetsUnexpired, is_deleted}
use Rattle.mc_expiry.specs.Looking.{FoundUnexpired, LooksAtKey, condition_of}
use Rattle.mc_expiry.specs.Storing.{FindsUnchosen, SetsChosen}
use Rattle.mc_expiry.specs.declared.kinds.StoreKind.{StoreKind}

-- a get with a version behind no bytes
pub record GetsBehind (cache : Cache) (key stored : List ℕ) (found : Option ℕ) (before now : Worker) : Type 0 where
  pub old : List ℕ
  pub empty : old ≡ []
  pub gives : IfSome found (λ version. GivesVersionOf cache key version old stored before now)
  pub none : found ≡ None → ActsOnKey cache key (ReadsOther (hash_in cache key) key) before now
  pub only : OnlyGets cache key before now

-- what a get behind no bytes found
gives_behind : (cache : Cache) (key stored old : List ℕ) (version : ℕ) (before now : Worker) → old ≡ [] → GivesVersionOf cache key version old stored before now → GivesVersionOf cache key version [] stored before now
gives_behind cache key stored old version before now empty gives = subst (λ (none : List ℕ). GivesVersionOf cache key version none stored before now) empty gives

-- such a get is a look at the key
pub looked : (cache : Cache) (key : List ℕ) (time : ℕ) (stored : List ℕ) (before now : Worker) (found : Option ℕ) (unexpired : Option (List ℕ)) → FoundUnexpired time found stored unexpired → GetsBehind cache key stored found before now → LooksAtKey cache key time unexpired found before now
looked cache key time stored before now (Some version) (Some value) has got =
    record { stored = stored; gets = gets_version cache key version stored before now (gives_behind cache key stored got.old version before now got.empty got.gives) got.only; has = has }
looked cache key time stored before now (Some version) None lacks got =
    record { stored = stored; gets = gets_version cache key version stored before now (gives_behind cache key stored got.old version before now got.empty got.gives) got.only; lacks = lacks }
looked cache key time stored before now None (Some value) never got = absurd never
looked cache key time stored before now None None none got = record { none = got.none refl; only = got.only }

-- a look that found an unexpired value, which was added behind the old bytes
pub gets_unexpired : (cache : Cache) (key : List ℕ) (time : ℕ) (value old new : List ℕ) (before now : Worker) (found : Option ℕ) → LooksAtKey cache key time (Some value) found before now → new ≡ old ++ value → GetsUnexpired cache key time old new before now
gets_unexpired cache key time value old new before now (Some version) finds added = record { value = value; version = version; finds = finds; added = added }
gets_unexpired cache key time value old new before now None never added = absurd never

-- such a get stored nothing
pub stored_none : (cache : Cache) (key stored : List ℕ) (before now : Worker) (found : Option ℕ) → GetsBehind cache key stored found before now → EndsWithoutMemory cache key before now
stored_none cache key stored before now (Some version) got = lacks_memory cache key version stored before now (gives_behind cache key stored got.old version before now got.empty got.gives) got.only
stored_none cache key stored before now None got = record {
  stores_nothing = acts_so cache key (ReadsOther (hash_in cache key) key) StoresNoMore before now (λ arena hand after reads. reads.1) (got.none refl);
  only = got.only;
}

-- behind such a get nothing was to be stored
pub finds_unchosen : (cache : Cache) (key : List ℕ) (kind : StoreKind) (time : ℕ) (stored bytes : List ℕ) (before now : Worker) (found : Option ℕ) → bytes ≡ stored → ChoosesNone kind time found bytes → GetsBehind cache key stored found before now → FindsUnchosen cache key kind time before now
finds_unchosen cache key kind time stored bytes before now found same none got = record {
  unexpired = none.unexpired;
  found = found;
  looks = looked cache key time stored before now found none.unexpired (subst (λ (b : List ℕ). FoundUnexpired time found b none.unexpired) same none.finds) got;
  chooses = none.chooses;
}

-- behind such a get this was set, with its result
pub sets_chosen : (cache : Cache) (key : List ℕ) (kind : StoreKind) (time deadline : ℕ) (stored bytes put sent : List ℕ) (found : Option ℕ) (when : When) (returned result : Result Outcome SetError) (before between now : Worker)
    → bytes ≡ stored → PutsChosen kind time deadline found bytes put → GetsBehind cache key stored found before between → sent ≡ put → when ≡ condition_of found → returned ≡ result
    → ActsOnKey cache key (SetsValueIf (hash_in cache key) key sent when returned) between now → SetsChosen cache key kind time deadline result before now
sets_chosen cache key kind time deadline stored bytes put sent found when returned result before between now same puts got is_sent is_when is sets =
    let (value, chosen, is_put) = puts in
    record {
      unexpired = chosen.unexpired;
      found = found;
      between = between;
      looks = looked cache key time stored before between found chosen.unexpired (subst (λ (b : List ℕ). FoundUnexpired time found b chosen.unexpired) same chosen.finds) got;
      value = value;
      chooses = chosen.chooses;
      sets = subst (λ (r : Result Outcome SetError). ActsOnKey cache key (SetsValueIf (hash_in cache key) key (timed_bytes deadline value) (condition_of found) r) between now) is
          (subst (λ (w : When). ActsOnKey cache key (SetsValueIf (hash_in cache key) key (timed_bytes deadline value) w returned) between now) is_when
          (subst (λ (v : List ℕ). ActsOnKey cache key (SetsValueIf (hash_in cache key) key v when returned) between now) (is_sent ∙ is_put) sets));
    }

-- a delete of a version, by what it returned
pub deleted_this : (cache : Cache) (key : List ℕ) (version : ℕ) (before now : Worker) (r : Result Deletion CallError) → IsKey key
    → (r ≡ Ok Deleted → ActsOnKey cache key (DeletesVersionThere (hash_in cache key) key version) before now)
    → (r ≡ Ok Exists → ActsOnKey cache key (KeepsOtherVersion (hash_in cache key) key version) before now)
    → (r ≡ Ok Missing → ActsOnKey cache key (LacksVersion (hash_in cache key) key version) before now)
    → OnErr r (IsKey key → ActsOnKey cache key (LooksInVain (hash_in cache key)) before now)
    → (r ≡ Ok Deleted → ActsOnKey cache key (DeletesOnce (hash_in cache key)) before now)
    → ((r ≡ Ok Deleted → ⊥) → IsKey key → ActsOnKey cache key (GetsAtMost (hash_in cache key)) before now)
    → ActsOnKey cache key TouchesNothing before now → DeletesThisVersion cache key version (is_deleted r) before now
deleted_this cache key version before now (Ok Deleted) is deletes exists missing refused calls looks untouched =
    record { there = λ e. (deletes refl, calls refl); gone = λ e. absurd (true≢false e); untouched = untouched }
deleted_this cache key version before now (Ok Exists) is deletes exists missing refused calls looks untouched =
    record { there = λ e. absurd (true≢false (sym e)); gone = λ e. (inl (exists refl), looks (λ e. absurd (cc)) is); untouched = untouched }
deleted_this cache key version before now (Ok Missing) is deletes exists missing refused calls looks untouched =
    record { there = λ e. absurd (true≢false (sym e)); gone = λ e. (inr (inl (missing refl)), looks (λ e. absurd (cc)) is); untouched = untouched }
deleted_this cache key version before now (Err error) is deletes exists missing refused calls looks untouched =
    record { there = λ e. absurd (true≢false (sym e)); gone = λ e. (inr (inr (refused is)), looks (λ e. absurd (cc)) is); untouched = untouched }
