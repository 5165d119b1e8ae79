-- What a worker does with the parts of a value: it stores, gets or deletes them one after another.
use Rattle.std.specs.Prelude.{◌≡◌, ◌≢◌, ◌⊎◌, ℕ, zero, suc, List, [], ◌∷◌, ◌++◌, All, None, Result, Ok, Err, length, take, ◌≤◌}
use Rattle.std.specs.List.{concat}
use Rattle.mc_items.specs.declared.setting.SetError as items
use Rattle.mc_items.specs.declared.setting.SetError.TheVariants as item_error
use Rattle.mc_shard.specs.declared.conditions.Outcome.{Outcome}
use Rattle.mc_shard.specs.declared.conditions.Outcome.TheVariants.{Stored}
use Rattle.mc_shard.specs.declared.conditions.When.{When}
use Rattle.mc_cache.specs.declared.cache.Cache.{Cache}
use Rattle.mc_cache.specs.declared.cache.Worker.{Worker}
use Rattle.mc_cache.specs.declared.working.SetError.{SetError}
use Rattle.mc_cache.specs.declared.working.SetError.TheVariants as set_error
use Rattle.mc_cache.specs.Belonging.{ActsOnKey, hash_in}
use Rattle.mc_cache.specs.Conditional.{SetsValueIf}
use Rattle.mc_cache.specs.Deleting.{DeletesOnce, DeletesVersionThere, KeepsOtherVersion, LacksVersion}
use Rattle.mc_cache.specs.Shards.{GetsAtMost, LooksInVain, TouchesNothing}
use Rattle.mc_update.specs.Updates.{EndsWithoutMemory, FindsNoValue, GetsVersion, stored_version}
use Rattle.mc_large.specs.Keys.{part_key}
use Rattle.mc_large.specs.Pieces.{FillParts, IsCutInto}

-- a set of the piece stored nothing: another worker stored or deleted under the part's key meanwhile
pub record MissesPiece (cache : Cache) (part piece : List ℕ) (before now : Worker) : Type 0 where
  pub when : When
  pub outcome : Outcome
  pub vain : stored_version outcome ≡ None
  pub sets : ActsOnKey cache part (SetsValueIf (hash_in cache part) part piece when (Ok outcome)) before now

-- that n times
abbrev pub MissesPieceTimes : ℕ → Cache → List ℕ → List ℕ → Worker → Worker → Type 0
MissesPieceTimes zero cache part piece before now = now ≡ before
MissesPieceTimes (suc times) cache part piece before now = (between : Worker) × MissesPieceTimes times cache part piece before between × MissesPiece cache part piece between now

-- the worker set the piece under the part's key, with this result, after some sets in vain
pub record SetsPiece (cache : Cache) (part piece : List ℕ) (result : Result Outcome SetError) (before now : Worker) : Type 0 where
  pub times : ℕ
  pub between : Worker
  pub vain : MissesPieceTimes times cache part piece before between
  pub when : When
  pub sets : ActsOnKey cache part (SetsValueIf (hash_in cache part) part piece when result) between now

-- the worker stored the piece as the part of this number, with this version
abbrev pub StoresPart : Cache → List ℕ → ℕ → List ℕ → ℕ → Worker → Worker → Type 0
StoresPart cache key number piece version before now = SetsPiece cache (part_key key number) piece (Ok (Stored version)) before now

-- the worker stored these pieces with these versions, one after another, as the parts from this number on
abbrev pub StoresParts : Cache → List ℕ → ℕ → List (List ℕ) → List ℕ → Worker → Worker → Type 0
StoresParts cache key number [] [] before now = now ≡ before
StoresParts cache key number [] (version ∷ versions) before now = ⊥
StoresParts cache key number (piece ∷ pieces) [] before now = ⊥
StoresParts cache key number (piece ∷ pieces) (version ∷ versions) before now =
    (between : Worker) × StoresPart cache key number piece version before between × StoresParts cache key (suc number) pieces versions between now

-- the worker stored the pieces of the value as its parts, with these versions
pub record StoresPieces (cache : Cache) (key : List ℕ) (room : ℕ) (value versions : List ℕ) (before now : Worker) : Type 0 where
  pub pieces : List (List ℕ)
  pub cut : IsCutInto room value pieces
  pub stores : StoresParts cache key 0 pieces versions before now

-- the value is cut into these pieces and a rest, before which each piece fills the room of a part
pub record IsCutSoFar (room : ℕ) (value : List ℕ) (pieces : List (List ℕ)) (rest : List ℕ) : Type 0 where
  pub together : concat pieces ++ rest ≡ value
  pub fill : FillParts room pieces
  pub full : 1 ≤ length rest → All (λ piece. length piece ≡ room) pieces

-- the piece behind these was refused; or there was no memory for a version
abbrev pub RefusesNext : Cache → List ℕ → ℕ → ℕ → List ℕ → items.SetError → Worker → Worker → Type 0
RefusesNext cache key number room rest error before now =
    SetsPiece cache (part_key key number) (take room rest) (Err (set_error.Item error)) before now ⊎ ((error ≡ item_error.NoMemory tt) × (now ≡ before))

-- the worker stored the first pieces of the value as parts, and then one was refused, or there was no memory for a version
pub record RefusesPieces (cache : Cache) (key : List ℕ) (room : ℕ) (value : List ℕ) (error : items.SetError) (before now : Worker) : Type 0 where
  pub pieces : List (List ℕ)
  pub rest : List ℕ
  pub cut : IsCutSoFar room value pieces rest
  pub versions : List ℕ
  pub between : Worker
  pub stores : StoresParts cache key 0 pieces versions before between
  pub refuses : RefusesNext cache key (length pieces) room rest error between now

-- the worker got these pieces with these versions, one after another, of the parts from this number on
abbrev pub GetsParts : Cache → List ℕ → ℕ → List ℕ → List (List ℕ) → Worker → Worker → Type 0
GetsParts cache key number [] [] before now = now ≡ before
GetsParts cache key number [] (piece ∷ pieces) before now = ⊥
GetsParts cache key number (version ∷ versions) [] before now = ⊥
GetsParts cache key number (version ∷ versions) (piece ∷ pieces) before now =
    (between : Worker) × GetsVersion cache (part_key key number) piece version before between × GetsParts cache key (suc number) versions pieces between now

-- the worker found a part of another version than this one
pub record FindsOtherPart (cache : Cache) (part : List ℕ) (version : ℕ) (before now : Worker) : Type 0 where
  pub piece : List ℕ
  pub other : ℕ
  pub differs : other ≢ version
  pub gets : GetsVersion cache part piece other before now

-- the worker got the parts of the first versions, and then found the next part missing, or with another version
pub record MissesPart (cache : Cache) (key versions : List ℕ) (before now : Worker) : Type 0 where
  pub found : List ℕ
  pub version : ℕ
  pub others : List ℕ
  pub split : versions ≡ found ++ version ∷ others
  pub pieces : List (List ℕ)
  pub between : Worker
  pub gets : GetsParts cache key 0 found pieces before between
  pub misses : FindsNoValue cache (part_key key (length found)) between now ⊎ FindsOtherPart cache (part_key key (length found)) version between now

-- the worker did nothing but a get of each of n parts, from this number on
abbrev pub OnlyGetsParts : ℕ → Cache → List ℕ → ℕ → Worker → Worker → Type 0
OnlyGetsParts zero cache key number before now = now ≡ before
OnlyGetsParts (suc count) cache key number before now = (between : Worker) × EndsWithoutMemory cache (part_key key number) before between × OnlyGetsParts count cache key (suc number) between now

-- the worker found no more part of this version to delete: the part has another version, or there is none; or its stripe records calls and has no
-- room for one more
abbrev pub FindsPartGone : Cache → List ℕ → ℕ → Worker → Worker → Type 0
FindsPartGone cache part version before now =
    ActsOnKey cache part (KeepsOtherVersion (hash_in cache part) part version) before now ⊎ ActsOnKey cache part (LacksVersion (hash_in cache part) part version) before now
    ⊎ ActsOnKey cache part (LooksInVain (hash_in cache part)) before now

-- the worker deleted the part of this version, if it was still there, and nothing else
pub record DropsPart (cache : Cache) (part : List ℕ) (version : ℕ) (before now : Worker) : Type 0 where
  pub drops : (ActsOnKey cache part (DeletesVersionThere (hash_in cache part) part version) before now × ActsOnKey cache part (DeletesOnce (hash_in cache part)) before now)
      ⊎ (FindsPartGone cache part version before now × ActsOnKey cache part (GetsAtMost (hash_in cache part)) before now)
  pub untouched : ActsOnKey cache part TouchesNothing before now

-- the same for each of these versions, one after another, of the parts from this number on
abbrev pub DropsParts : Cache → List ℕ → ℕ → List ℕ → Worker → Worker → Type 0
DropsParts cache key number [] before now = now ≡ before
DropsParts cache key number (version ∷ versions) before now = (between : Worker) × DropsPart cache (part_key key number) version before between × DropsParts cache key (suc number) versions between now
