-- One that was taken from a stock.
use Rattle.std.specs.Prelude.{◌≡◌, ◌-◌, ℕ, List, Some, decimal}
use Rattle.mc_script.specs.Words.{parsed_number}
use Rattle.mc_cache.specs.declared.cache.Cache.{Cache}
use Rattle.mc_cache.specs.declared.cache.Worker.{Worker}
use Rattle.mc_cache.specs.Belonging.{ActsOnKey, hash_in}
use Rattle.mc_cache.specs.Versions.{ReadsVersion}
use Rattle.example_calls.specs.Cached.{StoresOverVersion}

-- the worker stored the digits of n, which is one less than what the value wrote in whose place they were stored, or 0 where that was 0
pub record TakesOne (cache : Cache) (key : List ℕ) (n : ℕ) (now : Worker) : Type 0 where
  pub old : List ℕ
  pub count : ℕ
  pub writes : parsed_number old ≡ Some count
  pub one_less : decimal n ≡ decimal (count - 1)
  pub version : ℕ
  pub before : Worker
  pub between : Worker
  pub finds : ActsOnKey cache key (ReadsVersion (hash_in cache key) key old version) before between
  pub stamp : ℕ
  pub stores : ActsOnKey cache key (StoresOverVersion (hash_in cache key) key (decimal n) version stamp) between now
