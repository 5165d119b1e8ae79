-- Which caches are refused, and what the arenas of a new one are.
use Rattle.std.specs.Prelude.{◌≡◌, ◌+◌, not, if◌then◌else◌, List, All, Option, None, Some}
use Rattle.mc_classes.specs.Limits.{most_workers}
use Rattle.std.specs.List.{range_with_len}
use Rattle.std.specs.Option.{option_map}
use Rattle.mc_classes.specs.Refusals.{is_between, config_refusal}
use Rattle.mc_core.specs.declared.event.StripeChange.TheVariants.{Forget}
use Rattle.mc_words.specs.declared.arena.Arena.{Arena}
use Rattle.mc_words.specs.declared.hand.Hand.{Hand}
use Rattle.mc_words.specs.hand.Arenas.{setup_of, view}
use Rattle.mc_words.specs.hand.Hands.{IsMadeWith, IsNewHand}
use Rattle.mc_words.specs.hand.Observers.{hand_number}
use Rattle.mc_mover.specs.Recording.{ChangesEach}
use Rattle.mc_cache.specs.declared.opening.CacheConfig.{CacheConfig}
use Rattle.mc_cache.specs.declared.opening.NewError.{NewError}
use Rattle.mc_cache.specs.declared.opening.NewError.TheVariants.{Shards, Workers, Config}

-- the first test that the configuration fails: of the shards, of the workers, and then those of an arena
abbrev pub cache_refusal : CacheConfig → Option NewError
cache_refusal config =
    if not (is_between 1 4096 config.shards) then Some Shards
    else if not (is_between 1 most_workers config.workers) then Some Workers
    else option_map (λ error. Config error) (config_refusal config.arena)

-- the first thing that the arena's first hand did was to forget the history of each stripe
pub record KeepsNoHistory (arena : Arena) : Type 0 where
  pub hand : Hand
  pub new : IsNewHand arena 0 hand
  pub after : Hand
  pub forgets : ChangesEach Forget (hand_number hand) (range_with_len 0 (setup_of arena).config.stripes) (view hand) (view after)

-- the arena is made with the cache's configuration, with a hand for each worker and one for the tender, and keeps no history
pub record IsNewShard (config : CacheConfig) (arena : Arena) : Type 0 where
  pub made : IsMadeWith config.arena (config.workers + 1) 0 (setup_of arena)
  pub history : KeepsNoHistory arena

-- the configuration is accepted, and each of the arenas is a new shard by it
abbrev pub AreNewShards : CacheConfig → List Arena → Type 0
AreNewShards config arenas = (cache_refusal config ≡ None) × All (IsNewShard config) arenas
