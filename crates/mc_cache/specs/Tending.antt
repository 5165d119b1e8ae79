-- A tender and its cache, and what it does on all shards.
use Rattle.std.specs.Prelude.{◌≡◌, ◌<◌, ℕ, List, fold, length, slice_index_or}
use Rattle.mc_watch.specs.Decider.{DeciderState, fresh_decider}
use Rattle.mc_words.specs.declared.arena.Arena.{Arena}
use Rattle.mc_words.specs.declared.hand.Hand.{Hand}
use Rattle.mc_words.specs.hand.Arenas.{setup_of, view}
use Rattle.mc_items.specs.Keeping.{StoresNothing}
use Rattle.mc_cache.specs.declared.cache.Cache.{Cache}
use Rattle.mc_cache.specs.declared.tended.Tended.{Tended}
use Rattle.mc_cache.specs.declared.tending.Tender.{Tender}
use Rattle.mc_cache.specs.Belonging.{BelongsTo}
use Rattle.mc_cache.specs.Observers.{shard_count}
use Rattle.mc_cache.specs.Windows.{TendsShard, count_with, nothing_tended}

-- the tender's hands, shard by shard
abbrev pub tender_hands : Tender → List Hand
tender_hands tender = tender.worker.hands.items

-- the tender's deciders, shard by shard
abbrev pub deciders_of : Tender → List DeciderState
deciders_of tender = tender.deciders.items

-- the tender has an idle hand and a decider for each shard of the cache
pub record IsTenderOf (cache : Cache) (tender : Tender) : Type 0 where
  pub hands : BelongsTo cache tender.worker
  pub deciders : length (deciders_of tender) ≡ shard_count cache

-- the decider is for the classes of the arena, and was fed no window yet
abbrev pub IsFreshDecider : Arena → DeciderState → Type 0
IsFreshDecider arena decider = decider ≡ fresh_decider (setup_of arena).table

-- what was done, with what was done on one more shard added
abbrev pub tended_with : Tended → Tended → Tended
tended_with done more = record {
  found = count_with more.found done.found;
  began = count_with more.began done.began;
  ended = count_with more.ended done.ended;
  rescued = count_with more.rescued done.rescued;
  evicted = count_with more.evicted done.evicted;
}

-- what was done on all these shards together
abbrev pub tended_in_all : List Tended → Tended
tended_in_all shares = fold tended_with nothing_tended shares

-- each of the first n shards did a window, by its own hand and its own decider, and its share is what it did
pub record TendsFirst {Share : Type 0} (Tends : Share → DeciderState → Hand → DeciderState → Hand → Type 0) (count : ℕ) (hands : List Hand) (deciders : List DeciderState) (hands_now : List Hand) (deciders_now : List DeciderState) (shares : List Share) : Type 0 where
  pub shared : length shares ≡ count
  pub each : (shard : ℕ) (share : Share) (hand now : Hand) (decider left : DeciderState) → shard < count
      → Tends (slice_index_or shares shard share) (slice_index_or deciders shard decider) (slice_index_or hands shard hand) (slice_index_or deciders_now shard left) (slice_index_or hands_now shard now)

-- on each shard of the cache a window was done, and this is what was done in all
pub record TendsCache (cache : Cache) (done : Tended) (before now : Tender) : Type 0 where
  pub shares : List Tended
  pub tends : TendsFirst TendsShard (shard_count cache) (tender_hands before) (deciders_of before) (tender_hands now) (deciders_of now) shares
  pub counted : done ≡ tended_in_all shares

-- memory was refused on some shard: each shard before it did a window, and the hands and deciders of those behind it are as they were
pub record TendsUpToRefusal (cache : Cache) (before now : Tender) : Type 0 where
  pub count : ℕ
  pub in_range : count < shard_count cache
  pub shares : List Tended
  pub tends : TendsFirst TendsShard count (tender_hands before) (deciders_of before) (tender_hands now) (deciders_of now) shares
  pub hands_left : (shard : ℕ) (hand : Hand) → count < shard → slice_index_or (tender_hands now) shard hand ≡ slice_index_or (tender_hands before) shard hand
  pub deciders_left : (shard : ℕ) (decider : DeciderState) → count < shard → slice_index_or (deciders_of now) shard decider ≡ slice_index_or (deciders_of before) shard decider

-- none of the hands stored anything
abbrev pub SayNothing : List Hand → List Hand → Type 0
SayNothing before now = (shard : ℕ) (hand after : Hand) → shard < length before → StoresNothing (view (slice_index_or before shard hand)) (view (slice_index_or now shard after))
