-- What the tests of a cache's configuration leave.
use Rattle.std.proofs.Common.{Bool, Option, Some, None, cond, not, leb, ◌≡◌, ◌+◌, ◌*◌, ◌/◌, ◌^◌, ◌<◌, ◌≤◌, true, false, arith, refl, sym}
use Rattle.std.proofs.Math.Nat.{lt-div-mul-add}
use Rattle.std.proofs.lemmas.Bool.{and_parts, leb-true}
use Rattle.std.proofs.lemmas.Nat.{mul-le}
use Rattle.std.proofs.lemmas.Option.{none-some}
use Rattle.mc_classes.specs.Refusals.{is_between}
use Rattle.mc_classes.proofs.Accepted.{accepted}
use Rattle.mc_cache.specs.declared.opening.CacheConfig.{CacheConfig}
use Rattle.mc_cache.specs.declared.opening.NewError.{NewError}
use Rattle.mc_cache.specs.Opening.{cache_refusal}
use Rattle.mc_cache.proofs.TableWords.{arena_accepted}

first_passed : (test : Bool) (error : NewError) (rest : Option NewError) → cond (not test) (Some error) rest ≡ None → test ≡ true
first_passed true error rest h = refl
first_passed false error rest h = absurd (none-some error (sym h))

-- there are no more than 4,096 shards
pub few_shards : (config : CacheConfig) → cache_refusal config ≡ None → config.shards ≤ 4096
few_shards config none =
    let parts = and_parts (leb 1 config.shards) (leb config.shards 4096) (first_passed (is_between 1 4096 config.shards) _ _ none) in
    leb-true config.shards 4096 parts.1

-- the limits have few places for hints
pub few_places : (config : CacheConfig) → cache_refusal config ≡ None → config.shards * (config.arena.limit / 128) ≤ 2 ^ 26
few_places config none =
    let a = accepted config.arena (arena_accepted config none) in
    let page = config.arena.page in
    let pages = config.arena.limit / page in
    let whole : config.arena.limit < pages * page + page = lt-div-mul-add (omega (arith, a.page.0)) in
    let most : pages * page ≤ 64 * 16384 = mul-le pages page 64 16384 a.pages.1 a.page.1 in
    let places : config.arena.limit / 128 ≤ 8320 = omega (arith, whole, most, a.page.1) in
    omega (arith, mul-le config.shards (config.arena.limit / 128) 4096 8320 (few_shards config none) places)
