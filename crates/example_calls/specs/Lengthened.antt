-- A value that got bytes at its ends.
use Rattle.std.specs.Prelude.{◌++◌, ℕ, List}
use Rattle.mc_cache.specs.declared.cache.Cache.{Cache}
use Rattle.mc_cache.specs.declared.cache.Worker.{Worker}
use Rattle.mc_cache.specs.Belonging.{ActsOnKey, hash_in}
use Rattle.mc_cache.specs.Versions.{ReadsVersion}
use Rattle.example_calls.specs.Cached.{StoresOverVersion}

-- the worker found a value of the key, and stored what becomes of that value in its very place
pub record StoresChanged (cache : Cache) (key : List ℕ) (becomes : List ℕ → List ℕ) (now : Worker) : Type 0 where
  pub old : List ℕ
  pub version : ℕ
  pub before : Worker
  pub between : Worker
  pub finds : ActsOnKey cache key (ReadsVersion (hash_in cache key) key old version) before between
  pub stamp : ℕ
  pub stores : ActsOnKey cache key (StoresOverVersion (hash_in cache key) key (becomes old) version stamp) between now

-- a value of the key got the first bytes before it, and a value of the key got the last ones behind it
abbrev pub AddsAtBothEnds : Cache → List ℕ → List ℕ → List ℕ → Worker → Type 0
AddsAtBothEnds cache key first last now =
    ((between : Worker) × StoresChanged cache key (λ old. first ++ old) between) × StoresChanged cache key (λ old. old ++ last) now
