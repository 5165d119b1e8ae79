-- What a call does that lists the keys of a part of the cache, and what it writes.
use Rattle.std.specs.Prelude.{◌≡◌, ◌<◌, ◌⊎◌, ◌%◌, ℕ, true, List, [], ◌∷◌, ◌++◌, length, Err, Ok, Result}
use Rattle.mc_items.specs.declared.within.error.WithinError.{WithinError}
use Rattle.mc_items.specs.declared.within.error.WithinError.TheVariants.{Held, NoMemory}
use Rattle.mc_cache.specs.declared.cache.Cache.{Cache}
use Rattle.mc_cache.specs.declared.cache.Worker.{Worker}
use Rattle.mc_cache.specs.Listing.{ActsOnPartAgain, ListsPartAgain, MissesListingPart, stripes_in}
use Rattle.mc_cache.specs.Observers.{shard_count}
use Rattle.mc_cache.specs.Shards.{StoresNoMore, TouchesNothing}
use Rattle.mc_c.specs.declared.client.WorkerClient.{WorkerClient}
use Rattle.mc_c.specs.Calls.{WritesValue, cache_of}

-- the cache has a shard and a stripe of these numbers
abbrev pub IsPart : Cache → ℕ → ℕ → Type 0
IsPart cache shard stripe = (shard < shard_count cache) × (stripe < stripes_in cache shard)

-- a key behind a byte with its length, which a key of more than 255 bytes doesn't fit into
abbrev pub entry_of : List ℕ → List ℕ
entry_of key = length key % 256 ∷ key

-- the entries of these keys, one behind another
abbrev pub entries_of : List (List ℕ) → List ℕ
entries_of [] = []
entries_of (key ∷ keys) = entry_of key ++ entries_of keys

-- what the worker did that was to list the keys of the part: by its result these are the keys, or a lock was missed, or memory was refused
abbrev pub ListsKeys : Cache → ℕ → ℕ → ℕ → Result (List (List ℕ)) WithinError → Worker → Worker → Type 0
ListsKeys cache tries shard stripe (Ok keys) before now = ListsPartAgain cache shard stripe [] keys before now
ListsKeys cache tries shard stripe (Err Held) before now = MissesListingPart cache tries shard stripe before now
ListsKeys cache tries shard stripe (Err (NoMemory refused)) before now = ActsOnPartAgain cache shard StoresNoMore before now

-- what is written then, and the code: the entries where there is room, and the number of their bytes wherever the keys were listed
abbrev pub WritesKeys : Result (List (List ℕ)) WithinError → ℕ → List ℕ → ℕ → List ℕ → ℕ → Type 0
WritesKeys (Ok keys) code before len now new_len = WritesValue (Ok true) (entries_of keys) code before len now new_len
WritesKeys (Err Held) code before len now new_len = (code ≡ 2) × (now ≡ before) × (new_len ≡ len)
WritesKeys (Err (NoMemory refused)) code before len now new_len = (code ≡ 6) × (now ≡ before) × (new_len ≡ len)

-- a list of the keys of a part of the client's cache
pub record ListsPartAs (code tries shard stripe : ℕ) (before : List ℕ) (len : ℕ) (now : List ℕ) (new_len : ℕ) (client after : WorkerClient) : Type 0 where
  pub is_part : IsPart (cache_of client) shard stripe
  pub done : Result (List (List ℕ)) WithinError
  pub lists : ListsKeys (cache_of client) tries shard stripe done client.worker after.worker
  pub stores_nothing : ActsOnPartAgain (cache_of client) shard StoresNoMore client.worker after.worker
  pub untouched : ActsOnPartAgain (cache_of client) shard TouchesNothing client.worker after.worker
  pub writes : WritesKeys done code before len now new_len
  pub cache : cache_of after ≡ cache_of client
  pub spare : after.spare.items ≡ client.spare.items

-- there is no such part, and nothing was done
pub record RefusesPart (code shard stripe : ℕ) (before : List ℕ) (len : ℕ) (now : List ℕ) (new_len : ℕ) (client after : WorkerClient) : Type 0 where
  pub isnt_part : ¬ IsPart (cache_of client) shard stripe
  pub coded : code ≡ 15
  pub out : now ≡ before
  pub len_is : new_len ≡ len
  pub same : after ≡ client

-- the keys of the part were to be listed, or there is no such part
abbrev pub ListsAs : ℕ → ℕ → ℕ → ℕ → List ℕ → ℕ → List ℕ → ℕ → WorkerClient → WorkerClient → Type 0
ListsAs code tries shard stripe before len now new_len client after =
    ListsPartAs code tries shard stripe before len now new_len client after ⊎ RefusesPart code shard stripe before len now new_len client after
