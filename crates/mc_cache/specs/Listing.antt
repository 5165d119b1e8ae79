-- The keys of a part of the cache: a part is a stripe of a shard.
use Rattle.std.specs.Prelude.{ℕ, List, slice_get}
use Rattle.std.specs.Option.{option_map_or}
use Rattle.mc_words.specs.declared.arena.Arena.{Arena}
use Rattle.mc_words.specs.declared.hand.Hand.{Hand}
use Rattle.mc_words.specs.hand.Arenas.{setup_of}
use Rattle.mc_cache.specs.declared.cache.Cache.{Cache}
use Rattle.mc_cache.specs.declared.cache.Worker.{Worker}
use Rattle.mc_cache.specs.Observers.{arenas_of}
use Rattle.mc_cache.specs.Resting.{ActsWhenRecalled}
use Rattle.mc_cache.specs.Shards.{ActsOnShard}
use Rattle.mc_shard.specs.Listing.{ListsStripe, MissesListing}

-- how many stripes a shard has
abbrev pub stripes_in : Cache → ℕ → ℕ
stripes_in cache shard = option_map_or (λ arena. (setup_of arena).config.stripes) (slice_get (arenas_of cache) shard) 0

-- the worker did this with its hand of the shard, and its other hands are unchanged
abbrev pub ActsOnPart : Cache → ℕ → (Arena → Hand → Hand → Type 0) → Worker → Worker → Type 0
ActsOnPart cache shard Does before now = ActsOnShard cache.arenas.items shard Does before.hands.items now.hands.items

-- the hand listed the keys of this stripe behind the old ones
abbrev pub ListsOwnStripe : ℕ → List (List ℕ) → List (List ℕ) → Arena → Hand → Hand → Type 0
ListsOwnStripe stripe old new arena hand now = ListsStripe (setup_of arena) stripe old new hand now

-- the worker's hand of the shard listed the keys of this stripe behind the old ones
abbrev pub ListsPart : Cache → ℕ → ℕ → List (List ℕ) → List (List ℕ) → Worker → Worker → Type 0
ListsPart cache shard stripe old new before now = ActsOnPart cache shard (ListsOwnStripe stripe old new) before now

-- the worker's hand of the shard was recalled, and then did this; its other hands are unchanged
abbrev pub ActsOnPartAgain : Cache → ℕ → (Arena → Hand → Hand → Type 0) → Worker → Worker → Type 0
ActsOnPartAgain cache shard Does before now = ActsOnPart cache shard (ActsWhenRecalled Does) before now

-- the worker's hand of the shard was recalled, and listed the keys of this stripe behind the old ones
abbrev pub ListsPartAgain : Cache → ℕ → ℕ → List (List ℕ) → List (List ℕ) → Worker → Worker → Type 0
ListsPartAgain cache shard stripe old new before now = ActsOnPartAgain cache shard (ListsOwnStripe stripe old new) before now

-- the worker's hand of the shard was recalled, and each try for the lock of this stripe missed: as its hashes were to be listed, or at the look of
-- one of them
abbrev pub MissesListingPart : Cache → ℕ → ℕ → ℕ → Worker → Worker → Type 0
MissesListingPart cache tries shard stripe before now = ActsOnPartAgain cache shard (λ arena. MissesListing (setup_of arena) tries stripe) before now
