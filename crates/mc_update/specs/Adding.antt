-- What a worker does that gets a value, or else adds one that was made for it.
use Rattle.std.specs.Prelude.{◌≡◌, ◌⊎◌, ℕ, zero, suc, List, [], None, Result, Ok, Err}
use Rattle.std.specs.Global.{Vec}
use Rattle.mc_shard.specs.declared.conditions.Outcome.{Outcome}
use Rattle.mc_shard.specs.declared.conditions.Outcome.TheVariants.{Stored}
use Rattle.mc_shard.specs.declared.conditions.When.TheVariants.{Absent}
use Rattle.mc_cache.specs.declared.cache.Cache.{Cache}
use Rattle.mc_cache.specs.declared.cache.Worker.{Worker}
use Rattle.mc_cache.specs.declared.working.SetError.{SetError}
use Rattle.mc_cache.specs.declared.working.SetError.TheVariants as set_error
use Rattle.mc_cache.specs.Belonging.{ActsOnKey, GivesValueOf, hash_in}
use Rattle.mc_cache.specs.Conditional.{SetsValueIf}
use Rattle.mc_update.specs.Updates.{FindsNoValue, EndsWithoutMemory, OnlyGets, stored_version}
use Rattle.mc_update.specs.declared.adding.AddError.{AddError}
use Rattle.mc_update.specs.declared.adding.AddError.TheVariants as add_error
use Rattle.mc_update.specs.declared.adding.Source.{Source}
use Rattle.mc_update.specs.declared.adding.Source.TheVariants.{Found, Added, Unstored}

-- the worker got this value of the key, and did nothing else
pub record FindsThisValue (cache : Cache) (key value : List ℕ) (before now : Worker) : Type 0 where
  pub gives : GivesValueOf cache key [] value before now
  pub only : OnlyGets cache key before now

-- the worker set the value where the key has none, with this result
abbrev pub AddsValue : Cache → List ℕ → List ℕ → Result Outcome SetError → Worker → Worker → Type 0
AddsValue cache key value result before now = ActsOnKey cache key (SetsValueIf (hash_in cache key) key value Absent result) before now

-- the worker stored nothing, since an item was under the key's hash by then, and then did this
pub record MissesAdd (cache : Cache) (key made : List ℕ) (Then : Worker → Worker → Type 0) (before now : Worker) : Type 0 where
  pub outcome : Outcome
  pub vain : stored_version outcome ≡ None
  pub between : Worker
  pub adds : AddsValue cache key made (Ok outcome) before between
  pub does : Then between now

-- so many times the worker stored nothing, and then found no value of the key: it was gone again
abbrev pub MissesAddTimes : ℕ → Cache → List ℕ → List ℕ → Worker → Worker → Type 0
MissesAddTimes zero cache key made before now = now ≡ before
MissesAddTimes (suc times) cache key made before now =
    (between : Worker) × MissesAddTimes times cache key made before between × MissesAdd cache key made (FindsNoValue cache key) between now

-- how the adding of a value that was made ends: it was stored; or another one came first, and is returned; or why it wasn't stored
abbrev pub EndsAdding : {E : Type 0} → Cache → List ℕ → List ℕ → List ℕ → Result Source (AddError E) → Worker → Worker → Type 0
EndsAdding cache key made value (Ok (Added stamp)) before now = (value ≡ made) × AddsValue cache key made (Ok (Stored stamp)) before now
EndsAdding cache key made value (Ok Found) before now = MissesAdd cache key made (FindsThisValue cache key value) before now
EndsAdding cache key made value (Ok (Unstored error)) before now = (value ≡ made) × AddsValue cache key made (Err (set_error.Item error)) before now
EndsAdding cache key made value (Err add_error.KeyLength) before now = ⊥
EndsAdding cache key made value (Err (add_error.NoMemory _)) before now = MissesAdd cache key made (EndsWithoutMemory cache key) before now
EndsAdding cache key made value (Err (add_error.Make error)) before now = ⊥

-- the adding of a value that was made: some times in vain, and then its end
pub record AddsMade {E : Type 0} (cache : Cache) (key made value : List ℕ) (result : Result Source (AddError E)) (before now : Worker) : Type 0 where
  pub times : ℕ
  pub between : Worker
  pub vain : MissesAddTimes times cache key made before between
  pub ends : EndsAdding cache key made value result between now

-- a get of the key's value, and where it has none, the adding of one that was made
pub record GetsOrAdds {E : Type 0} (cache : Cache) (key : List ℕ) (Makes : List ℕ → Type 0) (value : List ℕ) (result : Result Source (AddError E)) (before now : Worker) : Type 0 where
  pub looked : Worker
  pub none : FindsNoValue cache key before looked
  pub made : List ℕ
  pub makes : Makes made
  pub adds : AddsMade cache key made value result looked now

-- where the room has no byte, it is filled with these
abbrev pub HasMade : (Vec ℕ → Vec ℕ → Type 0) → List ℕ → Type 0
HasMade Fills made = (room : Vec ℕ) × (filled : Vec ℕ) × (room.items ≡ []) × Fills room filled × (filled.items ≡ made)

-- a get of the key's value, or the adding of one that was made: what was found at the get, or why it was refused, or what came behind it
abbrev pub GetsOrAddsValue : {E : Type 0} → Cache → List ℕ → (List ℕ → Type 0) → List ℕ → Result Source (AddError E) → Worker → Worker → Type 0
GetsOrAddsValue {E} cache key Makes value result before now =
    ((result ≡ Ok Found) × FindsThisValue cache key value before now)
    ⊎ ((result ≡ Err (add_error.NoMemory tt)) × EndsWithoutMemory cache key before now)
    ⊎ ((error : E) × (result ≡ Err (add_error.Make error)) × FindsNoValue cache key before now)
    ⊎ GetsOrAdds cache key Makes value result before now
