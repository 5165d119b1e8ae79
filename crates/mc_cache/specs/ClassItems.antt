-- The items of a cache, counted by class: what a worker's hands found in each shard, and the rows to which it was added.
use Rattle.std.specs.Prelude.{◌≡◌, ◌<◌, ◌-◌, ℕ, zero, suc, List, [], ◌++◌, Some, IsSomeAnd, length, replicate, slice_index_or}
use Rattle.mc_classes.specs.Classes.{Classes, IsClass}
use Rattle.mc_words.specs.declared.arena.Arena.{Arena}
use Rattle.mc_words.specs.declared.hand.Hand.{Hand}
use Rattle.mc_words.specs.hand.Arenas.{setup_of, view}
use Rattle.mc_shard.specs.declared.class_items.ClassItems.{ClassItems}
use Rattle.mc_shard.specs.declared.class_items.ItemSize.{ItemSize}
use Rattle.mc_shard.specs.ClassItems.{AddsFound, FindsSizesInAll, no_items, row_of_class}
use Rattle.mc_shard.specs.Reading.{LeavesSlabs}
use Rattle.mc_cache.specs.declared.cache.Cache.{Cache}
use Rattle.mc_cache.specs.declared.cache.Worker.{Worker}
use Rattle.mc_cache.specs.Observers.{classes_of, shard_count}
use Rattle.mc_cache.specs.Shards.{ActsOnShard}

-- the hand went over all stripes of its shard, and found items of these sizes
abbrev pub FindsSizesInShard : List ItemSize → Arena → Hand → Hand → Type 0
FindsSizesInShard sizes arena hand now = FindsSizesInAll (setup_of arena) sizes hand now

-- the hand of each of the first n shards did this, from shard 0 on, one after another, and found items of these sizes in all
abbrev pub FindsSizesInFirst : List Arena → ℕ → List ItemSize → List Hand → List Hand → Type 0
FindsSizesInFirst arenas zero sizes before now = (sizes ≡ []) × (now ≡ before)
FindsSizesInFirst arenas (suc shard) sizes before now =
    (others : List ItemSize) × (next : List Hand) × (here : List ItemSize)
    × FindsSizesInFirst arenas shard others before next
    × ActsOnShard arenas shard (FindsSizesInShard here) next now
    × (sizes ≡ others ++ here)

-- the worker's hands went over all shards, and found items of these sizes
abbrev pub FindsSizesInCache : Cache → List ItemSize → Worker → Worker → Type 0
FindsSizesInCache cache sizes before now = FindsSizesInFirst cache.arenas.items (shard_count cache) sizes before.hands.items now.hands.items

-- there is a row for each class of the cache
abbrev pub HasRowOfEach : Cache → List ClassItems → Type 0
HasRowOfEach cache rows = IsSomeAnd (classes_of cache) (λ classes. length rows ≡ length classes.sizes)

-- the row of each class, that of class 1 first, is the sum of the items of the class
abbrev pub AreSumsOf : List ItemSize → List ClassItems → Classes → Type 0
AreSumsOf sizes rows classes = (class : ℕ) → IsClass classes class → slice_index_or rows (class - 1) no_items ≡ row_of_class classes class sizes

-- the worker found items in the cache, and the rows are their sums by class
pub record CountsCacheByClass (cache : Cache) (rows : List ClassItems) (before now : Worker) : Type 0 where
  pub sizes : List ItemSize
  pub finds : FindsSizesInCache cache sizes before now
  pub sums : IsSomeAnd (classes_of cache) (AreSumsOf sizes rows)

-- rows of n classes, none of which has any item
abbrev pub empty_rows : ℕ → List ClassItems
empty_rows count = replicate count no_items

-- the hands of the first n shards found items, and by the cache's classes each was added to the row of its class
abbrev pub AddsItemsInFirst : Cache → ℕ → List ClassItems → List ClassItems → List Hand → List Hand → Type 0
AddsItemsInFirst cache shards old new hands hands_now =
    (classes : Classes) → classes_of cache ≡ Some classes → AddsFound (λ sizes. FindsSizesInFirst cache.arenas.items shards sizes hands hands_now) classes old new

-- none of the hands took the lock of the slabs, so none made an item newer or older in its class
abbrev pub TouchNothing : List Hand → List Hand → Type 0
TouchNothing before now = (shard : ℕ) (hand after : Hand) → shard < length before → LeavesSlabs (view (slice_index_or before shard hand)) (view (slice_index_or now shard after))

-- the items of two shards are those of shard 0, and then those of shard 1
pub record FindsInTwoShards (arenas : List Arena) (sizes : List ItemSize) (before now : List Hand) : Type 0 where
  pub first : List ItemSize
  pub second : List ItemSize
  pub between : List Hand
  pub finds_first : ActsOnShard arenas 0 (FindsSizesInShard first) before between
  pub finds_second : ActsOnShard arenas 1 (FindsSizesInShard second) between now
  pub all : sizes ≡ first ++ second

-- a worked case: no shard is left out of two
abbrev pub EachShardCounts : Type 0
EachShardCounts = (arenas : List Arena) (sizes : List ItemSize) (before now : List Hand) → FindsSizesInFirst arenas 2 sizes before now → FindsInTwoShards arenas sizes before now
