-- Which values have room, by the most bytes that a value may have.
use Rattle.std.proofs.Common.{◌≡◌, ◌∙◌, ◌⊎◌, ◌≤◌, ◌<◌, ◌+◌, ℕ, true, false, true≢false, Option, None, Some, arith, inl, inr, subst, sym}
use Rattle.std.proofs.lemmas.Bool.{cases_Bool, cases_lt}
use Rattle.std.specs.Prelude.{IsSomeAnd}
use Rattle.mc_classes.specs.Classes.{Classes}
use Rattle.mc_cache.specs.declared.cache.Cache.{Cache}
use Rattle.mc_cache.specs.Observers.{classes_of}
use Rattle.mc_cache.specs.Sizes.{IsMostBesideIn, LacksClassBesideIn, LacksClassIn}
use Rattle.mc_shard.specs.Sizes.{IsMostBeside, has_class_for}
use Rattle.mc_large.specs.Pieces.{part_count}
use Rattle.mc_large.specs.Rooms.{HasClassIn, IsStorageOf, LacksRoomIn, large_root_len}
use Rattle.mc_large.specs.declared.storage.Storage.{Storage}
use Rattle.mc_large.specs.declared.storage.Storage.TheVariants.{InRoot, InParts}

-- what follows from what holds of the classes
some_so : {X : Type 0} (o : Option X) (P Q : X → Type 0) → ((x : X) → P x → Q x) → IsSomeAnd o P → IsSomeAnd o Q
some_so None P Q follows holds = holds
some_so (Some x) P Q follows holds = follows x holds

-- two facts of the classes that exclude each other
not_both : {X : Type 0} (o : Option X) (P Q : X → Type 0) → ((x : X) → P x → Q x → ⊥) → IsSomeAnd o P → IsSomeAnd o Q → ⊥
not_both None P Q never first second = absurd first
not_both (Some x) P Q never first second = never x first second

module _ (cache : Cache) (key_len : ℕ) where
  -- a value of no more than the most bytes has a class
  pub has_room : (most len : ℕ) → IsMostBesideIn cache key_len most → len ≤ most → HasClassIn cache key_len len
  has_room most len is few = some_so (classes_of cache) (λ (c : Classes). IsMostBeside c key_len most) (λ (c : Classes). has_class_for c key_len len ≡ true) (λ c all. (all len).1 few) is

  -- a longer one has none
  pub lacks_room : (most len : ℕ) → IsMostBesideIn cache key_len most → most < len → LacksClassIn cache key_len len
  lacks_room most len is long =
      some_so (classes_of cache) (λ (c : Classes). IsMostBeside c key_len most) (λ (c : Classes). has_class_for c key_len len ≡ false)
      (λ c all. elim (cases_Bool (has_class_for c key_len len)) [ inl has ↦ absurd (let few = (all len).0 has in omega (arith, few, long)) | inr lacks ↦ lacks ]) is

  -- where no value has one, this has none
  pub lacks_any : (len : ℕ) → LacksClassBesideIn cache key_len → LacksClassIn cache key_len len
  lacks_any len none = some_so (classes_of cache) (λ (c : Classes). (n : ℕ) → has_class_for c key_len n ≡ false) (λ (c : Classes). has_class_for c key_len len ≡ false) (λ c all. all len) none

  -- a value has a class or it hasn't
  never_both : (len : ℕ) → HasClassIn cache key_len len → LacksClassIn cache key_len len → ⊥
  never_both len has lacks =
      not_both (classes_of cache) (λ (c : Classes). has_class_for c key_len len ≡ true) (λ (c : Classes). has_class_for c key_len len ≡ false) (λ c yes_ no_. true≢false (sym yes_ ∙ no_)) has lacks

  -- there is one most
  one_most : (most other : ℕ) → IsMostBesideIn cache key_len most → IsMostBesideIn cache key_len other → most < other → ⊥
  one_most most other is also less =
      not_both (classes_of cache) (λ (c : Classes). IsMostBeside c key_len most) (λ (c : Classes). IsMostBeside c key_len other)
      (λ c all all_too. let few : other ≤ most = (all other).0 ((all_too other).1 (omega arith)) in omega (arith, few, less)) is also

-- what is stored has room
pub has_storage : (cache : Cache) (key_len value_len : ℕ) (storage : Storage) → IsStorageOf cache key_len value_len (Some storage) → LacksRoomIn cache key_len value_len → ⊥
has_storage cache key_len value_len InRoot (within, fits) (inl large) = omega (arith, within, large)
has_storage cache key_len value_len InRoot (within, fits) (inr lacks) = never_both cache (key_len + 1) (value_len + 1) fits lacks.0
has_storage cache key_len value_len (InParts room) (within, lacks_root, fits) (inl large) = omega (arith, within, large)
has_storage cache key_len value_len (InParts room) (within, lacks_root, fits) (inr (lacks, inl none)) =
    never_both cache (key_len + 5) 0 (has_room cache (key_len + 5) room 0 fits.most (omega arith)) (lacks_any cache (key_len + 5) 0 none)
has_storage cache key_len value_len (InParts room) (within, lacks_root, fits) (inr (lacks, inr (other, most, why))) =
    let least : room ≤ other = elim (cases_lt other room) [ inl less ↦ absurd (one_most cache (key_len + 5) other room most fits.most less) | inr few ↦ few ] in
    let greatest : other ≤ room = elim (cases_lt room other) [ inl less ↦ absurd (one_most cache (key_len + 5) room other fits.most most less) | inr few ↦ few ] in
    let same : other ≡ room = omega (arith, least, greatest) in
    not_so same why
  where
    not_so : other ≡ room → (other ≡ 0) ⊎ LacksClassIn cache (key_len + 1) (large_root_len (part_count other value_len)) → ⊥
    not_so same (inl none) = let some : 1 ≤ room = fits.some in omega (arith, same, none, some)
    not_so same (inr lacks_too) =
        never_both cache (key_len + 1) (large_root_len (part_count room value_len)) fits.root (subst (λ (r : ℕ). LacksClassIn cache (key_len + 1) (large_root_len (part_count r value_len))) same lacks_too)
