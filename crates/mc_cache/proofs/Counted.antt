-- Rows to which one shard's numbers come, class by class.
use Rattle.std.proofs.Common.{◌≡◌, ◌<◌, ◌≤◌, ℕ, List, get_or, length}
use Rattle.mc_pages.specs.declared.numbers.Numbers.{Numbers}
use Rattle.mc_cache.specs.declared.stats.ClassStats.{ClassStats}
use Rattle.mc_cache.specs.Stats.{class_with, no_statistics, numbers_at}

-- up to a place the rows have the numbers of their classes, too, and from there on they are as they were
pub record AreAdded (count : ℕ) (classes : List Numbers) (before now : List ClassStats) : Type 0 where
  pub long : length now ≡ length before
  pub added : (place : ℕ) → place < count → get_or now place no_statistics ≡ class_with (get_or before place no_statistics) (numbers_at place classes)
  pub left : (place : ℕ) → count ≤ place → get_or now place no_statistics ≡ get_or before place no_statistics
