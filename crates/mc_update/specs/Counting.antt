-- What a worker does that counts.
use Rattle.std.specs.Prelude.{◌≡◌, ℕ, List, Option, None, Some, Result, Ok, Err, decimal}
use Rattle.mc_cache.specs.declared.cache.Cache.{Cache}
use Rattle.mc_cache.specs.declared.cache.Worker.{Worker}
use Rattle.mc_update.specs.Updates.{ChangesValue}
use Rattle.mc_update.specs.declared.change.Change.{Change}
use Rattle.mc_update.specs.declared.updater.ChangeError.{ChangeError}

-- a count returns the number whose digits a change stored, or else what the change returned
abbrev pub ReturnsNumber : Result (Option ℕ) ChangeError → List ℕ → Result (Option ℕ) ChangeError → Type 0
ReturnsNumber (Ok (Some stamp)) value result = (n : ℕ) × (value ≡ decimal n) × (result ≡ Ok (Some n))
ReturnsNumber (Ok None) value result = result ≡ Ok None
ReturnsNumber (Err error) value result = result ≡ Err error

-- a change of a counter, with the number that it returns
pub record CountsValue (cache : Cache) (key : List ℕ) (change : Change) (value : List ℕ) (result : Result (Option ℕ) ChangeError) (before now : Worker) : Type 0 where
  pub changed : Result (Option ℕ) ChangeError
  pub changes : ChangesValue cache key change value changed before now
  pub returns : ReturnsNumber changed value result
