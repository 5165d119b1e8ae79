use Rattle.std.proofs.Common.{◌≡◌, ◌<◌, ◌⊎◌, ◌∙◌, ℕ, Err, Global, List, Ok, Vec, ap, arith, inl, refl, subst, true}
use Rattle.mc_items.specs.declared.within.error.WithinError.TheVariants as within_error
use Rattle.mc_shard.specs.Listing.{bytes_of_keys}
use Rattle.mc_cache.specs.declared.cache.Cache.{Cache}
use Rattle.mc_cache.specs.Listing.{ActsOnPartAgain, ListsPartAgain, MissesListingPart, stripes_in}
use Rattle.mc_cache.specs.Observers.{shard_count}
use Rattle.mc_cache.specs.Shards.{StoresNoMore, TouchesNothing}
use Rattle.mc_c.specs.Calls.{WritesValue, cache_of}
use Rattle.mc_c.specs.Listing.{entries_of}
use Rattle.mc_c.proofs.Listed.{lists_written}
use Rattle.mc_c.proofs.listing.keys.Goals as goal

pub returns-in-Ok : goal.returns-in-Ok
returns-in-Ok c =
    let client = c.args.client.now in
    let shard_in : c.args.shard < shard_count (cache_of client) = omega (arith, c.if-shard-shards.false, c.shards.ensures.shards ∙ ap shard_count c.deref.ensures) in
    let stripe_in : c.args.stripe < stripes_in (cache_of client) c.args.shard = omega (arith, c.if-stripe-stripes.false, c.stripes.ensures ∙ ap (λ (cache : Cache). stripes_in cache c.args.shard) c.deref-2.ensures) in
    let stores = subst (λ (cache : Cache). ActsOnPartAgain cache c.args.shard StoresNoMore client.worker c.keys_within.new.self) c.deref-3.ensures c.keys_within.ensures.stores_nothing in
    let untouched = subst (λ (cache : Cache). ActsOnPartAgain cache c.args.shard TouchesNothing client.worker c.keys_within.new.self) c.deref-3.ensures c.keys_within.ensures.untouched in
    let keys = bytes_of_keys c.keys_within.new.into.items in
    let lists = subst (λ (old : List (Vec ℕ Global)). ListsPartAgain (cache_of client) c.args.shard c.args.stripe (bytes_of_keys old) keys client.worker c.keys_within.new.self) c.new-keys.ensures.items
    (subst (λ (cache : Cache). ListsPartAgain cache c.args.shard c.args.stripe (bytes_of_keys c.new-keys.result.items) keys client.worker c.keys_within.new.self) c.deref-3.ensures c.in-Ok.ensures.lists) in
    inl (lists_written c.write.result c.args.tries c.args.shard c.args.stripe c.args.out.now c.args.len.now c.write.new.out c.write.new.len client _ keys (shard_in, stripe_in) lists stores untouched refl refl
    (subst (λ (all : List (Vec ℕ Global)). WritesValue (Ok true) (entries_of (bytes_of_keys all)) c.write.result c.args.out.now c.args.len.now c.write.new.out c.write.new.len ⊎ ((c.write.result ≡ 6) × (c.write.new.out ≡ c.args.out.now) × (c.write.new.len ≡ c.args.len.now))) c.deref-in-Ok.ensures.value c.write.ensures))

pub returns-in-Err-NoMemory : goal.returns-in-Err-NoMemory
returns-in-Err-NoMemory c =
    let client = c.args.client.now in
    let shard_in : c.args.shard < shard_count (cache_of client) = omega (arith, c.if-shard-shards.false, c.shards.ensures.shards ∙ ap shard_count c.deref.ensures) in
    let stripe_in : c.args.stripe < stripes_in (cache_of client) c.args.shard = omega (arith, c.if-stripe-stripes.false, c.stripes.ensures ∙ ap (λ (cache : Cache). stripes_in cache c.args.shard) c.deref-2.ensures) in
    let stores = subst (λ (cache : Cache). ActsOnPartAgain cache c.args.shard StoresNoMore client.worker c.keys_within.new.self) c.deref-3.ensures c.keys_within.ensures.stores_nothing in
    let untouched = subst (λ (cache : Cache). ActsOnPartAgain cache c.args.shard TouchesNothing client.worker c.keys_within.new.self) c.deref-3.ensures c.keys_within.ensures.untouched in
    inl (record { is_part = (shard_in, stripe_in); done = Err (within_error.NoMemory tt); lists = stores; stores_nothing = stores; untouched = untouched; writes = (refl, refl, refl); cache = refl; spare = refl })

pub returns : goal.returns
returns c =
    let client = c.args.client.now in
    let shard_in : c.args.shard < shard_count (cache_of client) = omega (arith, c.if-shard-shards.false, c.shards.ensures.shards ∙ ap shard_count c.deref.ensures) in
    let stripe_in : c.args.stripe < stripes_in (cache_of client) c.args.shard = omega (arith, c.if-stripe-stripes.false, c.stripes.ensures ∙ ap (λ (cache : Cache). stripes_in cache c.args.shard) c.deref-2.ensures) in
    let stores = subst (λ (cache : Cache). ActsOnPartAgain cache c.args.shard StoresNoMore client.worker c.keys_within.new.self) c.deref-3.ensures c.keys_within.ensures.stores_nothing in
    let untouched = subst (λ (cache : Cache). ActsOnPartAgain cache c.args.shard TouchesNothing client.worker c.keys_within.new.self) c.deref-3.ensures c.keys_within.ensures.untouched in
    let missed = subst (λ (cache : Cache). MissesListingPart cache c.args.tries c.args.shard c.args.stripe client.worker c.keys_within.new.self) c.deref-3.ensures (c.in-Err-Held.ensures.held (ap Err c.in-Err-Held.field-0-is)) in
    inl (record { is_part = (shard_in, stripe_in); done = Err within_error.Held; lists = missed; stores_nothing = stores; untouched = untouched; writes = (refl, refl, refl); cache = refl; spare = refl })
