-- What a caller found that counted its gets.
use Rattle.std.specs.Prelude.{ℕ, List}
use Rattle.mc_cache.specs.declared.cache.Cache.{Cache}
use Rattle.mc_cache.specs.declared.cache.Worker.{Worker}
use Rattle.mc_cache.specs.Belonging.{GivesValueOf}

-- the worker got the values of two keys, and each was added behind the bytes that were there
pub record GetsBothValues (cache : Cache) (first second old new : List ℕ) (before now : Worker) : Type 0 where
  pub middle : List ℕ
  pub between : Worker
  pub gives_first : GivesValueOf cache first old middle before between
  pub gives_second : GivesValueOf cache second middle new between now
