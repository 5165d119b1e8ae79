-- Walks over all shards of a cache: what a worker's hand did on each, and what was counted there.
use Rattle.std.specs.Prelude.{◌≡◌, ◌<◌, ◌+◌, ◌-◌, ◌^◌, ◌++◌, ◌∷◌, [], ℕ, List, length, min, slice_index_or}
use Rattle.mc_words.specs.declared.arena.Arena.{Arena}
use Rattle.mc_words.specs.declared.hand.Hand.{Hand}
use Rattle.mc_words.specs.hand.Arenas.{setup_of, view}
use Rattle.mc_items.specs.Calls.{RecordsNoCall}
use Rattle.mc_cache.specs.declared.cache.Cache.{Cache}
use Rattle.mc_cache.specs.declared.cache.Worker.{Worker}
use Rattle.mc_cache.specs.Observers.{shard_count}
use Rattle.mc_cache.specs.Resting.{ActsWhenRecalled}
use Rattle.mc_shard.specs.declared.clearing.ClearWithinError.{ClearWithinError}
use Rattle.mc_shard.specs.declared.clearing.ClearWithinError.TheVariants.{Held, NoMemory}
use Rattle.mc_shard.specs.Reading.{LeavesSlabs}
use Rattle.mc_shard.specs.Walking.{ClearsShard, CountsKeys, GivesAllBackEmpty, LosesAll, LosesHash, MissesClearingShard, MissesCounting, StopsClearingShard, saturated_sum}

-- what a hand does on its shard, of which it counts something
abbrev pub ShardCall : Type 1
ShardCall = ℕ → Arena → Hand → Hand → Type 0

-- each of the first n shards' hands did this on its shard, and counted this
pub record DoesOnFirst (Does : ShardCall) (shards : ℕ) (arenas : List Arena) (hands hands_now : List Hand) (counts : List ℕ) : Type 0 where
  pub counted : length counts ≡ shards
  pub each : (shard count : ℕ) (arena : Arena) (hand now : Hand) → shard < shards
      → Does (slice_index_or counts shard count) (slice_index_or arenas shard arena) (slice_index_or hands shard hand) (slice_index_or hands_now shard now)

-- each hand did this on its shard, once, and this is the sum of what was counted
pub record WalksShards (Does : ShardCall) (arenas : List Arena) (total : ℕ) (hands hands_now : List Hand) : Type 0 where
  -- what was counted of each shard, that of shard 0 first
  pub counts : List ℕ
  pub each : DoesOnFirst Does (length arenas) arenas hands hands_now counts
  pub summed : total ≡ saturated_sum counts

-- the hands of the shards before one did this, that shard's hand was stopped, and the hands behind it are as they were
pub record WalksUpToShard (Does : ShardCall) (Stops : Arena → Hand → Hand → Type 0) (arenas : List Arena) (hands hands_now : List Hand) : Type 0 where
  pub shard : ℕ
  pub in_range : shard < length arenas
  pub counts : List ℕ
  pub each : DoesOnFirst Does shard arenas hands hands_now counts
  pub stops : (arena : Arena) (hand after : Hand) → Stops (slice_index_or arenas shard arena) (slice_index_or hands shard hand) (slice_index_or hands_now shard after)
  pub left : (behind : ℕ) (hand : Hand) → shard < behind → slice_index_or hands_now behind hand ≡ slice_index_or hands behind hand

-- the worker did this on each shard of the cache, and this is the sum of what it counted
abbrev pub WalksCache : ShardCall → Cache → ℕ → Worker → Worker → Type 0
WalksCache Does cache total before now = WalksShards Does cache.arenas.items total before.hands.items now.hands.items

-- the worker did this on some shards of the cache, was stopped on the next one, and has the hands that it had of those behind it
abbrev pub StopsAtShard : ShardCall → (Arena → Hand → Hand → Type 0) → Cache → Worker → Worker → Type 0
StopsAtShard Does Stops cache before now = WalksUpToShard Does Stops cache.arenas.items before.hands.items now.hands.items

-- the hand deleted every key of its shard, and none of the shard's stripes had a key as the hand last gave it back
pub record ClearsOwnShard (count : ℕ) (arena : Arena) (hand now : Hand) : Type 0 where
  pub clears : ClearsShard (setup_of arena) count hand now
  pub empty : GivesAllBackEmpty (setup_of arena) now
  -- for each hash there is a moment in the call in which it led nowhere
  pub gone : LosesAll (setup_of arena) hand now
  -- the hand didn't take the lock of the slabs
  pub slabs : LeavesSlabs (view hand) (view now)

-- the worker deleted every key of each shard, n in all
abbrev pub ClearsCache : Cache → ℕ → Worker → Worker → Type 0
ClearsCache cache count before now = WalksCache ClearsOwnShard cache count before now

-- on each shard there is for each hash a moment in the call in which the hash led nowhere: behind all that the worker's hand of the shard had done
-- before the call, and before the hand's last event in it. So what was stored under the hash before the call began is gone
abbrev pub LosesEachHash : Cache → Worker → Worker → Type 0
LosesEachHash cache before now =
    (shard hash : ℕ) (arena : Arena) (hand after : Hand) → shard < shard_count cache
    → LosesHash (setup_of (slice_index_or cache.arenas.items shard arena)) hash (slice_index_or before.hands.items shard hand) (slice_index_or now.hands.items shard after)

-- the worker cleared some shards, and then a stripe of one had no room for the call of a delete
abbrev pub StopsClearingCache : Cache → Worker → Worker → Type 0
StopsClearingCache cache before now = StopsAtShard ClearsOwnShard (λ arena hand after. StopsClearingShard (setup_of arena) hand after) cache before now

-- the hand looked how many keys its shard has, and did nothing else
pub record CountsOwnShard (count : ℕ) (arena : Arena) (hand now : Hand) : Type 0 where
  pub counts : CountsKeys (setup_of arena) count hand now
  pub calls : RecordsNoCall (view hand) (view now)
  pub slabs : LeavesSlabs (view hand) (view now)

-- the worker counted the items of each shard, n in all
abbrev pub CountsItems : Cache → ℕ → Worker → Worker → Type 0
CountsItems cache count before now = WalksCache CountsOwnShard cache count before now

-- the worker's hands were recalled, one by one, and deleted every key of each shard, n in all
abbrev pub ClearsCacheAgain : Cache → ℕ → Worker → Worker → Type 0
ClearsCacheAgain cache count before now = WalksCache (λ count. ActsWhenRecalled (ClearsOwnShard count)) cache count before now

-- recalled hands cleared some shards, and then each try for the lock of a stripe of one missed, and they deleted n keys in all
pub record MissesClearingCache (cache : Cache) (tries count : ℕ) (before now : Worker) : Type 0 where
  -- how many keys were deleted on the last of these shards
  pub here : ℕ
  pub walk : StopsAtShard (λ count. ActsWhenRecalled (ClearsOwnShard count)) (ActsWhenRecalled (λ arena. MissesClearingShard (setup_of arena) tries here)) cache before now
  pub summed : count ≡ saturated_sum (walk.counts ++ here ∷ [])

-- recalled hands cleared some shards, and then a stripe of one had no room for the call of a delete
abbrev pub StopsClearingAgain : Cache → Worker → Worker → Type 0
StopsClearingAgain cache before now =
    StopsAtShard (λ count. ActsWhenRecalled (ClearsOwnShard count)) (ActsWhenRecalled (λ arena. StopsClearingShard (setup_of arena))) cache before now

-- why a clear of the cache within this many tries stopped: a stripe had no room for the call of a delete; or each try for the lock of one missed,
-- and n keys were deleted before
abbrev pub StopsClearingWithin : Cache → ℕ → ClearWithinError → Worker → Worker → Type 0
StopsClearingWithin cache tries (NoMemory refused) before now = StopsClearingAgain cache before now
StopsClearingWithin cache tries (Held count) before now = MissesClearingCache cache tries count before now

-- the error of a clear that stopped so at a shard, behind shards where n keys were deleted; the sum stays at 2^64 - 1 once there
abbrev pub stopped_behind : ℕ → ClearWithinError → ClearWithinError
stopped_behind count (NoMemory refused) = NoMemory refused
stopped_behind count (Held here) = Held (min (count + here) (2 ^ 64 - 1))

-- recalled hands counted the items of each shard, n in all
abbrev pub CountsItemsAgain : Cache → ℕ → Worker → Worker → Type 0
CountsItemsAgain cache count before now = WalksCache (λ count. ActsWhenRecalled (CountsOwnShard count)) cache count before now

-- recalled hands counted the items of some shards, and then each try for the lock of a stripe of one missed
abbrev pub MissesCountingItems : Cache → ℕ → Worker → Worker → Type 0
MissesCountingItems cache tries before now =
    StopsAtShard (λ count. ActsWhenRecalled (CountsOwnShard count)) (ActsWhenRecalled (λ arena. MissesCounting (setup_of arena) tries)) cache before now
