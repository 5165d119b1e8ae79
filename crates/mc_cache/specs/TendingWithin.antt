-- What a tender does on all shards where it tries for each lock.
use Rattle.std.specs.Prelude.{◌≡◌, ◌<◌, ℕ, List, Option, Result, fold, if◌then◌else◌, slice_index_or}
use Rattle.mc_pages.specs.declared.moves.Reassign.{Reassign}
use Rattle.mc_watch.specs.Decider.{DeciderState}
use Rattle.mc_words.specs.declared.hand.Hand.{Hand}
use Rattle.mc_words.specs.page.Moves.{Reassigns}
use Rattle.mc_mover.specs.declared.numbers.Survey.{Survey}
use Rattle.mc_mover.specs.Acting.{ActsOnceByNumber}
use Rattle.mc_cache.specs.declared.cache.Cache.{Cache}
use Rattle.mc_cache.specs.declared.tending.Tender.{Tender}
use Rattle.mc_cache.specs.declared.tending_within.TendedWithin.{TendedWithin}
use Rattle.mc_cache.specs.declared.window_within.Window.{Window}
use Rattle.mc_cache.specs.Observers.{shard_count}
use Rattle.mc_cache.specs.Shards.{ActsOnShard}
use Rattle.mc_cache.specs.Stats.{SetsShardsMode, SurveysFirst}
use Rattle.mc_cache.specs.Tending.{TendsFirst, deciders_of, tended_with, tender_hands}
use Rattle.mc_cache.specs.Windows.{count_with, nothing_tended}
use Rattle.mc_cache.specs.WindowsWithin.{MissesEachTime, TendsShardWithin}

-- nothing was done
abbrev pub nothing_within : TendedWithin
nothing_within = record { tended = nothing_tended; held = 0 }

-- what was done, with a window of one more shard added
abbrev pub with_shard_window : TendedWithin → Window → TendedWithin
with_shard_window done window = record {
  tended = tended_with done.tended window.done;
  held = count_with (if window.stopped then 1 else 0) done.held;
}

-- on each shard of the cache a window was done, whole or up to a lock, and this is what was done in all
pub record TendsCacheWithin (tries : ℕ) (cache : Cache) (done : TendedWithin) (before now : Tender) : Type 0 where
  pub windows : List Window
  pub tends : TendsFirst (TendsShardWithin tries) (shard_count cache) (tender_hands before) (deciders_of before) (tender_hands now) (deciders_of now) windows
  pub counted : done ≡ fold with_shard_window nothing_within windows

-- memory was refused on some shard: each shard before it did a window, and the hands and deciders of those behind it are as they were
pub record TendsUpToRefusalWithin (tries : ℕ) (cache : Cache) (before now : Tender) : Type 0 where
  pub count : ℕ
  pub in_range : count < shard_count cache
  pub windows : List Window
  pub tends : TendsFirst (TendsShardWithin tries) count (tender_hands before) (deciders_of before) (tender_hands now) (deciders_of now) windows
  pub hands_left : (shard : ℕ) (hand : Hand) → count < shard → slice_index_or (tender_hands now) shard hand ≡ slice_index_or (tender_hands before) shard hand
  pub deciders_left : (shard : ℕ) (decider : DeciderState) → count < shard → slice_index_or (deciders_of now) shard decider ≡ slice_index_or (deciders_of before) shard decider

-- the tender's hand of this shard tried for the slabs lock in vain
abbrev pub MissesOnShard : ℕ → ℕ → Tender → Tender → Type 0
MissesOnShard tries shard before now = (hand after : Hand) → MissesEachTime tries (slice_index_or (tender_hands before) shard hand) (slice_index_or (tender_hands now) shard after)

-- each try missed on some shard: each shard before it was surveyed once, and the hands of those behind it are as they were
pub record CountsUpToMiss (tries : ℕ) (cache : Cache) (before now : Tender) : Type 0 where
  pub count : ℕ
  pub in_range : count < shard_count cache
  pub surveys : List Survey
  pub surveyed : SurveysFirst count (tender_hands before) (tender_hands now) surveys
  pub misses : MissesOnShard tries count before now
  pub left : (shard : ℕ) (hand : Hand) → count < shard → slice_index_or (tender_hands now) shard hand ≡ slice_index_or (tender_hands before) shard hand

-- each try missed on some shard: each shard before it has the mode, and the hands of those behind it are as they were
pub record SetsModesUpToMiss (tries mode : ℕ) (cache : Cache) (before now : Tender) : Type 0 where
  pub count : ℕ
  pub in_range : count < shard_count cache
  pub sets : (shard : ℕ) (hand after : Hand) → shard < count → SetsShardsMode mode (slice_index_or (tender_hands before) shard hand) (slice_index_or (tender_hands now) shard after)
  pub misses : MissesOnShard tries count before now
  pub left : (shard : ℕ) (hand : Hand) → count < shard → slice_index_or (tender_hands now) shard hand ≡ slice_index_or (tender_hands before) shard hand

-- the tender asked for a move on this shard, by its hand there, and got this answer; its other hands are unchanged
abbrev pub ReassignsOn : Cache → ℕ → Option ℕ → ℕ → Result (Unit {0}) Reassign → Tender → Tender → Type 0
ReassignsOn cache shard src dst answer before now =
    ActsOnShard cache.arenas.items shard (λ arena hand after. ActsOnceByNumber (λ number. Reassigns number src dst answer) hand after) (tender_hands before) (tender_hands now)

-- the tender's hand of this shard tried for the slabs lock in vain; its other hands are unchanged
abbrev pub MissesOnlyOn : ℕ → Cache → ℕ → Tender → Tender → Type 0
MissesOnlyOn tries cache shard before now = ActsOnShard cache.arenas.items shard (λ arena hand after. MissesEachTime tries hand after) (tender_hands before) (tender_hands now)
