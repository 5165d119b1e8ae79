-- What a look at a key finds of its value's deadline.
use Rattle.std.specs.Prelude.{ℕ, List, Option, None, Some}
use Rattle.mc_shard.specs.declared.conditions.When.{When}
use Rattle.mc_shard.specs.declared.conditions.When.TheVariants.{Absent, Version}
use Rattle.mc_cache.specs.declared.cache.Cache.{Cache}
use Rattle.mc_cache.specs.declared.cache.Worker.{Worker}
use Rattle.mc_update.specs.Updates.{FindsNoValue, GetsVersion}
use Rattle.mc_expiry.specs.Deadlines.{HasUnexpired, LacksUnexpired}

-- the condition that is met as long as the key has what a look found: a value of this version, or none
abbrev pub condition_of : Option ℕ → When
condition_of (Some version) = Version version
condition_of None = Absent

-- the bytes that a look found, if it found a version, have this unexpired value, or none
abbrev pub FoundUnexpired : ℕ → Option ℕ → List ℕ → Option (List ℕ) → Type 0
FoundUnexpired time (Some version) stored (Some value) = HasUnexpired time stored value
FoundUnexpired time (Some version) stored None = LacksUnexpired time stored
FoundUnexpired time None stored (Some value) = ⊥
FoundUnexpired time None stored None = Unit {0}

-- the worker found that the key has this unexpired value, by stored bytes of this version
pub record FindsUnexpired (cache : Cache) (key : List ℕ) (time : ℕ) (value : List ℕ) (version : ℕ) (before now : Worker) : Type 0 where
  pub stored : List ℕ
  pub gets : GetsVersion cache key stored version before now
  pub has : HasUnexpired time stored value

-- the worker found that the key has stored bytes of this version without an unexpired value
pub record FindsLapsed (cache : Cache) (key : List ℕ) (time version : ℕ) (before now : Worker) : Type 0 where
  pub stored : List ℕ
  pub gets : GetsVersion cache key stored version before now
  pub lacks : LacksUnexpired time stored

-- the worker looked at the key, and found this unexpired value or none, by stored bytes of this version or by no value at all
abbrev pub LooksAtKey : Cache → List ℕ → ℕ → Option (List ℕ) → Option ℕ → Worker → Worker → Type 0
LooksAtKey cache key time (Some value) (Some version) before now = FindsUnexpired cache key time value version before now
LooksAtKey cache key time (Some value) None before now = ⊥
LooksAtKey cache key time None (Some version) before now = FindsLapsed cache key time version before now
LooksAtKey cache key time None None before now = FindsNoValue cache key before now
