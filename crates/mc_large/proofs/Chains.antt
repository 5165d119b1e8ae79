-- What a worker does with parts one after another, with one more at the end.
use Rattle.std.proofs.Common.{◌≡◌, ◌+◌, ◌++◌, ◌∷◌, [], ℕ, zero, suc, List, length, ap, arith, refl, subst}
use Rattle.mc_cache.specs.declared.cache.Cache.{Cache}
use Rattle.mc_cache.specs.declared.cache.Worker.{Worker}
use Rattle.mc_update.specs.Updates.{EndsWithoutMemory, GetsVersion}
use Rattle.mc_large.specs.Keys.{part_key}
use Rattle.mc_large.specs.Parts.{DropsPart, DropsParts, GetsParts, OnlyGetsParts, StoresPart, StoresParts}

module _ (cache : Cache) (key : List ℕ) where
  -- as many pieces as versions
  pub stores_alike : (number : ℕ) (pieces : List (List ℕ)) (versions : List ℕ) (before now : Worker) → StoresParts cache key number pieces versions before now → length pieces ≡ length versions
  stores_alike number [] [] before now stores = refl
  stores_alike number [] (version ∷ versions) before now stores = absurd stores
  stores_alike number (piece ∷ pieces) [] before now stores = absurd stores
  stores_alike number (piece ∷ pieces) (version ∷ versions) before now (between, first, rest) = ap suc (stores_alike (suc number) pieces versions between now rest)

  pub stores_more : (number place : ℕ) (pieces : List (List ℕ)) (versions piece : List ℕ) (version : ℕ) (before between now : Worker) → place ≡ number + length pieces → StoresParts cache key number pieces versions before between
      → StoresPart cache key place piece version between now → StoresParts cache key number (pieces ++ piece ∷ []) (versions ++ version ∷ []) before now
  stores_more number place [] [] piece version before between now at stores last =
      let here : place ≡ number = omega (arith, at) in
      (now, subst (λ (n : ℕ). StoresPart cache key n piece version before now) here (subst (λ (w : Worker). StoresPart cache key place piece version w now) stores last), refl)
  stores_more number place [] (other ∷ versions) piece version before between now at stores last = absurd stores
  stores_more number place (other ∷ pieces) [] piece version before between now at stores last = absurd stores
  stores_more number place (other ∷ pieces) (another ∷ versions) piece version before between now at (next, first, rest) last =
      (next, first, stores_more (suc number) place pieces versions piece version next between now (omega (arith, at)) rest last)

  pub gets_alike : (number : ℕ) (versions : List ℕ) (pieces : List (List ℕ)) (before now : Worker) → GetsParts cache key number versions pieces before now → length pieces ≡ length versions
  gets_alike number [] [] before now gets = refl
  gets_alike number [] (piece ∷ pieces) before now gets = absurd gets
  gets_alike number (version ∷ versions) [] before now gets = absurd gets
  gets_alike number (version ∷ versions) (piece ∷ pieces) before now (between, first, rest) = ap suc (gets_alike (suc number) versions pieces between now rest)

  pub gets_more : (number place : ℕ) (versions : List ℕ) (pieces : List (List ℕ)) (version : ℕ) (piece : List ℕ) (before between now : Worker) → place ≡ number + length versions → GetsParts cache key number versions pieces before between
      → GetsVersion cache (part_key key place) piece version between now → GetsParts cache key number (versions ++ version ∷ []) (pieces ++ piece ∷ []) before now
  gets_more number place [] [] version piece before between now at gets last =
      let here : place ≡ number = omega (arith, at) in
      (now, subst (λ (n : ℕ). GetsVersion cache (part_key key n) piece version before now) here (subst (λ (w : Worker). GetsVersion cache (part_key key place) piece version w now) gets last), refl)
  gets_more number place [] (other ∷ pieces) version piece before between now at gets last = absurd gets
  gets_more number place (other ∷ versions) [] version piece before between now at gets last = absurd gets
  gets_more number place (another ∷ versions) (other ∷ pieces) version piece before between now at (next, first, rest) last =
      (next, first, gets_more (suc number) place versions pieces version piece next between now (omega (arith, at)) rest last)

  pub drops_more : (number place : ℕ) (versions : List ℕ) (version : ℕ) (before between now : Worker) → place ≡ number + length versions → DropsParts cache key number versions before between → DropsPart cache (part_key key place) version between now
      → DropsParts cache key number (versions ++ version ∷ []) before now
  drops_more number place [] version before between now at drops last =
      let here : place ≡ number = omega (arith, at) in
      (now, subst (λ (n : ℕ). DropsPart cache (part_key key n) version before now) here (subst (λ (w : Worker). DropsPart cache (part_key key place) version w now) drops last), refl)
  drops_more number place (other ∷ versions) version before between now at (next, first, rest) last = (next, first, drops_more (suc number) place versions version next between now (omega (arith, at)) rest last)

  pub only_more : (count number place : ℕ) (before between now : Worker) → place ≡ number + count → OnlyGetsParts count cache key number before between → EndsWithoutMemory cache (part_key key place) between now
      → OnlyGetsParts (suc count) cache key number before now
  only_more zero number place before between now at gets last =
      let here : place ≡ number = omega (arith, at) in
      (now, subst (λ (n : ℕ). EndsWithoutMemory cache (part_key key n) before now) here (subst (λ (w : Worker). EndsWithoutMemory cache (part_key key place) w now) gets last), refl)
  only_more (suc count) number place before between now at (next, first, rest) last = (next, first, only_more count (suc number) place next between now (omega (arith, at)) rest last)
