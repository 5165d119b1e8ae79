-- The code of each result of a call.
use Rattle.std.specs.Prelude.{ℕ, Bool, true, false, Err, None, Ok, Option, Result, Some}
use Rattle.mc_classes.specs.declared.config.ConfigError.TheVariants as config_error
use Rattle.mc_items.specs.declared.setting.SetError.TheVariants as item_error
use Rattle.mc_pages.specs.declared.moves.Reassign.{Reassign}
use Rattle.mc_pages.specs.declared.moves.Reassign.TheVariants as answer
use Rattle.mc_shard.specs.declared.conditions.Outcome.{Outcome}
use Rattle.mc_shard.specs.declared.conditions.Outcome.TheVariants as outcome
use Rattle.mc_shard.specs.declared.deleting_version.Deletion.{Deletion}
use Rattle.mc_shard.specs.declared.deleting_version.Deletion.TheVariants as deletion
use Rattle.mc_cache.specs.declared.opening.NewError.{NewError}
use Rattle.mc_cache.specs.declared.opening.NewError.TheVariants as new_error
use Rattle.mc_cache.specs.declared.sizing.SizingError.{SizingError}
use Rattle.mc_cache.specs.declared.sizing.SizingError.TheVariants as sizing_error
use Rattle.mc_cache.specs.declared.working.TryGetError.{TryGetError}
use Rattle.mc_cache.specs.declared.working.TryGetError.TheVariants as get_error
use Rattle.mc_cache.specs.declared.working_within.SetWithinError.{SetWithinError}
use Rattle.mc_cache.specs.declared.working_within.SetWithinError.TheVariants as set_error
use Rattle.mc_cache.specs.declared.working_within.WithinError.{WithinError}
use Rattle.mc_cache.specs.declared.working_within.WithinError.TheVariants as within_error

-- the code of a get's result
abbrev pub get_code : Result Bool TryGetError → ℕ
get_code (Ok true) = 0
get_code (Ok false) = 1
get_code (Err get_error.KeyLength) = 10
get_code (Err (get_error.NoMemory refused)) = 6
get_code (Err get_error.Held) = 2

-- the code of a set's result
abbrev pub set_code : Result (Unit {0}) SetWithinError → ℕ
set_code (Ok done) = 0
set_code (Err set_error.KeyLength) = 10
set_code (Err (set_error.Item item_error.TooLarge)) = 3
set_code (Err (set_error.Item item_error.NoRoom)) = 4
set_code (Err (set_error.Item item_error.WornOut)) = 5
set_code (Err (set_error.Item (item_error.NoMemory refused))) = 6
set_code (Err set_error.Held) = 2

-- the code of the result of a set on a condition
abbrev pub outcome_code : Result Outcome SetWithinError → ℕ
outcome_code (Ok (outcome.Stored version)) = 0
outcome_code (Ok outcome.Exists) = 27
outcome_code (Ok outcome.Missing) = 1
outcome_code (Err error) = set_code (Err error)

-- the code of a delete's or a touch's result
abbrev pub within_code : Result Bool WithinError → ℕ
within_code (Ok true) = 0
within_code (Ok false) = 1
within_code (Err within_error.KeyLength) = 10
within_code (Err (within_error.NoMemory refused)) = 6
within_code (Err within_error.Held) = 2

-- the code of the result of a delete of a version
abbrev pub deletion_code : Result Deletion WithinError → ℕ
deletion_code (Ok deletion.Deleted) = 0
deletion_code (Ok deletion.Exists) = 27
deletion_code (Ok deletion.Missing) = 1
deletion_code (Err error) = within_code (Err error)

-- the code of an answer to a request for a move
abbrev pub reassign_code : Result (Unit {0}) Reassign → ℕ
reassign_code (Ok done) = 0
reassign_code (Err answer.Busy) = 11
reassign_code (Err answer.Same) = 14
reassign_code (Err answer.BadClass) = 12
reassign_code (Err answer.NoSpare) = 13
reassign_code (Err (answer.NoMemory refused)) = 6

-- the code of a refused configuration, or of want of memory
abbrev pub new_code : NewError → ℕ
new_code new_error.Shards = 16
new_code new_error.Workers = 17
new_code (new_error.Config config_error.PageSize) = 18
new_code (new_error.Config config_error.FirstSize) = 19
new_code (new_error.Config config_error.Factor) = 20
new_code (new_error.Config config_error.ChunkMax) = 21
new_code (new_error.Config config_error.Limit) = 22
new_code (new_error.Config config_error.Stripes) = 23
new_code (new_error.Config config_error.TooManyChunks) = 24
new_code (new_error.Config config_error.Bulk) = 25
new_code (new_error.Config (config_error.NoMemory refused)) = 6
new_code (new_error.NoMemory refused) = 6

-- the code of a test of a configuration
abbrev pub refusal_code : Option NewError → ℕ
refusal_code None = 0
refusal_code (Some error) = new_code error

-- the code of a sizing
abbrev pub sizing_code : Option SizingError → ℕ
sizing_code None = 0
sizing_code (Some sizing_error.Workers) = 17
sizing_code (Some sizing_error.TooFewBytes) = 26
