-- What a caller found of one class.
use Rattle.std.specs.Prelude.{◌≡◌, ◌-◌, ℕ, List, IsSomeAnd, slice_index_or}
use Rattle.mc_classes.specs.Classes.{IsClass}
use Rattle.mc_shard.specs.declared.class_items.ClassItems.{ClassItems}
use Rattle.mc_cache.specs.declared.cache.Cache.{Cache}
use Rattle.mc_cache.specs.declared.cache.Worker.{Worker}
use Rattle.mc_cache.specs.ClassItems.{CountsCacheByClass}
use Rattle.mc_cache.specs.Observers.{classes_of}

-- the cache has a class of this number, and the row is that of it among the rows that the worker counted
pub record IsRowOfClass (cache : Cache) (class : ℕ) (row : ClassItems) (before now : Worker) : Type 0 where
  pub rows : List ClassItems
  pub counts : CountsCacheByClass cache rows before now
  pub class_is : IsSomeAnd (classes_of cache) (λ classes. IsClass classes class)
  pub row_is : row ≡ slice_index_or rows (class - 1) row

-- the cache has no class of this number
abbrev pub LacksClassNumber : Cache → ℕ → Type 0
LacksClassNumber cache class = IsSomeAnd (classes_of cache) (λ classes. ¬ IsClass classes class)
