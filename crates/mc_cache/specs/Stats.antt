-- What the classes of all shards have together, as a survey of each shard shows it.
use Rattle.std.specs.Prelude.{◌≡◌, ◌<◌, ◌≤◌, ℕ, ◌-◌, ◌^◌, ◌++◌, ◌∷◌, [], false, if◌then◌else◌, fold, length, List, map, max, min, slice_index_or, sum_by}
use Rattle.mc_pages.specs.declared.numbers.Numbers.{Numbers}
use Rattle.mc_words.specs.declared.hand.Hand.{Hand}
use Rattle.mc_mover.specs.declared.numbers.Survey.{Survey}
use Rattle.mc_mover.specs.Acting.{ActsOnceByNumber}
use Rattle.mc_mover.specs.Reassigning.{SetsMode}
use Rattle.mc_mover.specs.Surveying.{Surveys}
use Rattle.mc_cache.specs.declared.cache.Cache.{Cache}
use Rattle.mc_cache.specs.declared.stats.CacheStats.{CacheStats}
use Rattle.mc_cache.specs.declared.stats.ClassStats.{ClassStats}
use Rattle.mc_cache.specs.declared.tending.Tender.{Tender}
use Rattle.mc_cache.specs.Observers.{shard_count}
use Rattle.mc_cache.specs.Tending.{tender_hands}
use Rattle.mc_cache.specs.Windows.{count_with}

-- the sum of this number over the list; it stays at 2^64 - 1 once there
abbrev pub sum_in_all : {A : Type 0} → (A → ℕ) → List A → ℕ
sum_in_all number list = min (sum_by number list) (2 ^ 64 - 1)

-- the numbers of class `place + 1` among a shard's classes; 0 for a class that the shard lacks
abbrev pub numbers_at : ℕ → List Numbers → Numbers
numbers_at place classes = slice_index_or classes place (record { pages = 0; free = 0; evictions = 0 })

-- what class `place + 1` has on all shards together; each list has the numbers of one shard's classes
abbrev pub class_in_all : ℕ → List (List Numbers) → ClassStats
class_in_all place shards = record {
  pages = sum_in_all (λ classes. (numbers_at place classes).pages) shards;
  free = sum_in_all (λ classes. (numbers_at place classes).free) shards;
  evictions = sum_in_all (λ classes. (numbers_at place classes).evictions) shards;
}

-- how many classes the shard with the most has
abbrev pub most_classes_of_shards : List (List Numbers) → ℕ
most_classes_of_shards shards = fold (λ most classes. max most (length classes)) 0 shards

-- the numbers of each shard's classes, as its survey shows them
abbrev pub classes_in : List Survey → List (List Numbers)
classes_in surveys = map (λ survey. survey.classes.items) surveys

-- a class of which nothing was counted
abbrev pub no_statistics : ClassStats
no_statistics = record { pages = 0; free = 0; evictions = 0 }

-- the stats are the sums of what these surveys show: class by class, and of the whole
pub record SumsSurveys (surveys : List Survey) (stats : CacheStats) : Type 0 where
  pub count : length stats.classes.items ≡ most_classes_of_shards (classes_in surveys)
  pub classes : (place : ℕ) → slice_index_or stats.classes.items place no_statistics ≡ class_in_all place (classes_in surveys)
  pub granted : stats.granted ≡ sum_in_all (λ survey. survey.totals.granted) surveys
  pub pool : stats.pool ≡ sum_in_all (λ survey. survey.totals.pool) surveys
  pub moving : stats.moving ≡ sum_in_all (λ survey. if survey.running then 1 else 0) surveys
  pub ended : stats.ended ≡ sum_in_all (λ survey. survey.totals.moved) surveys
  pub rescued : stats.rescued ≡ sum_in_all (λ survey. survey.totals.rescues) surveys
  pub evicted : stats.evicted ≡ sum_in_all (λ survey. survey.totals.evictions_nomem) surveys
  pub busy : stats.busy ≡ sum_in_all (λ survey. survey.totals.busy) surveys

-- the hand surveyed its shard, and put nothing back
abbrev pub SurveysShard : Survey → Hand → Hand → Type 0
SurveysShard survey before now = ActsOnceByNumber (λ number. Surveys false survey) before now

-- each of the first shards was surveyed, by its own hand
pub record SurveysFirst (count : ℕ) (hands hands_now : List Hand) (surveys : List Survey) : Type 0 where
  pub surveyed : length surveys ≡ count
  pub each : (shard : ℕ) (survey : Survey) (hand now : Hand) → shard < count → SurveysShard (slice_index_or surveys shard survey) (slice_index_or hands shard hand) (slice_index_or hands_now shard now)

-- each shard of the cache was surveyed once, and the stats are the sums of what was seen
pub record CountsCache (cache : Cache) (stats : CacheStats) (before now : Tender) : Type 0 where
  pub surveys : List Survey
  pub surveyed : SurveysFirst (shard_count cache) (tender_hands before) (tender_hands now) surveys
  pub sums : SumsSurveys surveys stats

-- memory was refused on some shard: each shard before it was surveyed once, and the hands of those behind it are as they were
pub record CountsUpToRefusal (cache : Cache) (before now : Tender) : Type 0 where
  pub count : ℕ
  pub in_range : count < shard_count cache
  pub surveys : List Survey
  pub surveyed : SurveysFirst count (tender_hands before) (tender_hands now) surveys
  pub left : (shard : ℕ) (hand : Hand) → count < shard → slice_index_or (tender_hands now) shard hand ≡ slice_index_or (tender_hands before) shard hand

-- the hand set the mode of its shard's automover, and nothing else
abbrev pub SetsShardsMode : ℕ → Hand → Hand → Type 0
SetsShardsMode mode before now = ActsOnceByNumber (λ number. SetsMode number mode) before now

-- each of the tender's hands set the mode of its shard
abbrev pub SetsModes : ℕ → Tender → Tender → Type 0
SetsModes mode before now = (shard : ℕ) (hand after : Hand) → shard < length (tender_hands before) → SetsShardsMode mode (slice_index_or (tender_hands before) shard hand) (slice_index_or (tender_hands now) shard after)

-- the numbers of one class with those of a shard added
abbrev pub class_with : ClassStats → Numbers → ClassStats
class_with row numbers = record {
  pages = count_with numbers.pages row.pages;
  free = count_with numbers.free row.free;
  evictions = count_with numbers.evictions row.evictions;
}

-- the rows have one for each of these classes, with the class's numbers added; the other rows are as they were
pub record AddsNumbers (classes : List Numbers) (before now : List ClassStats) : Type 0 where
  pub count : length now ≡ max (length before) (length classes)
  pub added : (place : ℕ) → place < length classes → slice_index_or now place no_statistics ≡ class_with (slice_index_or before place no_statistics) (numbers_at place classes)
  pub others : (place : ℕ) → length classes ≤ place → slice_index_or now place no_statistics ≡ slice_index_or before place no_statistics

-- the sums over some surveys became those with this survey added
abbrev pub AddsSurvey : Survey → CacheStats → CacheStats → Type 0
AddsSurvey survey before now = (surveys : List Survey) → SumsSurveys surveys before → SumsSurveys (surveys ++ survey ∷ []) now

-- the hand surveyed its shard, and the survey was added to the stats
pub record CountsShard (before : CacheStats) (hand : Hand) (now : CacheStats) (after : Hand) : Type 0 where
  pub survey : Survey
  pub surveys : SurveysShard survey hand after
  pub adds : AddsSurvey survey before now
