-- What a worker's delete of a part did.
use Rattle.std.proofs.lemmas.Bool.{leb-false, leb-true}
use Rattle.std.proofs.Common.{◌≡◌, ◌≤◌, Bool, true, false, nat_le, ap, arith, inl, inr, length, refl, ℕ, List, OnErr, Result, Ok, Err}
use Rattle.mc_shard.specs.declared.deleting_version.Deletion.{Deletion}
use Rattle.mc_shard.specs.declared.deleting_version.Deletion.TheVariants.{Deleted, Exists, Missing}
use Rattle.mc_cache.specs.declared.cache.Cache.{Cache}
use Rattle.mc_cache.specs.declared.cache.Worker.{Worker}
use Rattle.mc_cache.specs.declared.working.CallError.{CallError}
use Rattle.mc_cache.specs.Belonging.{ActsOnKey, hash_in}
use Rattle.mc_cache.specs.Deleting.{DeletesOnce, DeletesVersionThere, KeepsOtherVersion, LacksVersion}
use Rattle.mc_cache.specs.Shards.{GetsAtMost, IsKey, LooksInVain, TouchesNothing}
use Rattle.mc_large.specs.Dropping.{HasVersions}
use Rattle.mc_large.specs.Keys.{IsLargeKey}
use Rattle.mc_large.specs.Parts.{DropsPart}
use Rattle.mc_large.specs.Reading.{HasContent}
use Rattle.mc_large.specs.Roots.{most_large_value}
use Rattle.mc_large.specs.declared.roots.Content.{Content}
use Rattle.mc_large.specs.declared.roots.Content.TheVariants.{Small, Large, Nothing}

-- a delete of a version, by what it returned
pub dropped_this : (cache : Cache) (part : List ℕ) (version : ℕ) (before now : Worker) (r : Result Deletion CallError) → IsKey part
    → (r ≡ Ok Deleted → ActsOnKey cache part (DeletesVersionThere (hash_in cache part) part version) before now)
    → (r ≡ Ok Exists → ActsOnKey cache part (KeepsOtherVersion (hash_in cache part) part version) before now)
    → (r ≡ Ok Missing → ActsOnKey cache part (LacksVersion (hash_in cache part) part version) before now)
    → OnErr r (IsKey part → ActsOnKey cache part (LooksInVain (hash_in cache part)) before now)
    → (r ≡ Ok Deleted → ActsOnKey cache part (DeletesOnce (hash_in cache part)) before now)
    → ((r ≡ Ok Deleted → ⊥) → IsKey part → ActsOnKey cache part (GetsAtMost (hash_in cache part)) before now)
    → ActsOnKey cache part TouchesNothing before now → DropsPart cache part version before now
dropped_this cache part version before now (Ok Deleted) is deletes exists missing refused calls looks untouched = record { drops = inl (deletes refl, calls refl); untouched = untouched }
dropped_this cache part version before now (Ok Exists) is deletes exists missing refused calls looks untouched = record { drops = inr (inl (exists refl), looks (λ e. absurd (cc)) is); untouched = untouched }
dropped_this cache part version before now (Ok Missing) is deletes exists missing refused calls looks untouched = record { drops = inr (inr (inl (missing refl)), looks (λ e. absurd (cc)) is); untouched = untouched }
dropped_this cache part version before now (Err error) is deletes exists missing refused calls looks untouched = record { drops = inr (inr (inr (refused is)), looks (λ e. absurd (cc)) is); untouched = untouched }

-- the versions that were read of a root
pub has_versions : (root versions : List ℕ) (content : Content) → HasContent root versions content → HasVersions root versions
has_versions root versions (Small value) has = inr (inl (value.now, has.0, has.1))
has_versions root versions (Large len) has = inl (len, has)
has_versions root versions Nothing has = inr (inr has)

-- there are few
pub few_versions : (root versions : List ℕ) → HasVersions root versions → length versions ≤ most_large_value
few_versions root versions (inl (len, is)) = omega (arith, is.few, is.within_limit)
few_versions root versions (inr (inl (value, is, none))) = omega (arith, ap length none)
few_versions root versions (inr (inr (is, none))) = omega (arith, ap length none)

-- what isn't known to be no key is one
pub is_large : (key : List ℕ) → (¬ IsLargeKey key → ⊥) → IsLargeKey key
is_large key so = test (nat_le 1 (length key)) (nat_le (length key) 245) refl refl
  where
    test : (some few : Bool) → nat_le 1 (length key) ≡ some → nat_le (length key) 245 ≡ few → IsLargeKey key
    test true true some few = (leb-true 1 (length key) some, leb-true (length key) 245 few)
    test false few none is = absurd (so (λ key_is. omega (arith, key_is.0, leb-false 1 (length key) none)))
    test true false some many = absurd (so (λ key_is. omega (arith, key_is.1, leb-false (length key) 245 many)))
