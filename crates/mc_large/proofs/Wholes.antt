-- What a worker did that stored a value in parts, or was refused its root.
use Rattle.std.proofs.Common.{◌≡◌, ℕ, List, length, inl, inr, subst, IfErr, OnOk, Result, Ok, Err}
use Rattle.mc_items.specs.declared.setting.SetError.{SetError}
use Rattle.mc_cache.specs.declared.cache.Cache.{Cache}
use Rattle.mc_cache.specs.declared.cache.Worker.{Worker}
use Rattle.mc_cache.specs.Belonging.{RefusesAndDeletes}
use Rattle.mc_large.specs.Parts.{StoresPieces}
use Rattle.mc_large.specs.Roots.{IsLargeRoot, large_root}
use Rattle.mc_large.specs.Setting.{RefusesWhole, StoresRoot, StoresWhole}

module _ (cache : Cache) (key place : List ℕ) (room : ℕ) (value versions root : List ℕ) (before between now : Worker) (parts : StoresPieces cache key room value versions before between) where
  -- the root behind the parts was stored
  pub whole_stored : (r : Result (Unit {0}) SetError) → IsLargeRoot root (length value) versions → OnOk r (StoresRoot cache place root between now) → OnOk r (StoresWhole cache key place room value before now)
  whole_stored (Ok done) is stores = record { versions = versions; between = between; parts = parts; root = root; is_root = is; stores = stores }
  whole_stored (Err error) is stores = tt

  -- or it was refused
  pub whole_refused : (r : Result (Unit {0}) SetError) → root ≡ large_root (length value) versions → IfErr r (λ error. RefusesAndDeletes cache place root error between now) → IfErr r (λ error. RefusesWhole cache key place room value error before now)
  whole_refused (Ok done) is refuses = tt
  whole_refused (Err error) is refuses =
      inr (record { versions = versions; between = between; parts = parts; root = inl (subst (λ (bytes : List ℕ). RefusesAndDeletes cache place bytes error between now) is refuses) })
