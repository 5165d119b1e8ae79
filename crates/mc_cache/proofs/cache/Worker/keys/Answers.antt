use Rattle.mc_items.proofs.Listings.{on_ok_map}
use Rattle.mc_words.specs.hand.Arenas.{setup_of}
use Rattle.mc_shard.specs.Listing.{ListsStripe, bytes_of_keys}
use Rattle.mc_cache.specs.Listing.{ListsOwnStripe}
use Rattle.mc_cache.specs.Shards.{ActsOnShard, StoresNoMore, TouchesNothing}
use Rattle.std.proofs.Common.{set}
use Rattle.mc_cache.proofs.Acts.{acts, idle_after}
use Rattle.mc_cache.proofs.cache.Worker.keys.Goals as goal

pub returns-clause-belongs : goal.returns-clause-belongs
returns-clause-belongs g c =
    idle_after c.args.cache.now.arenas.items c.args.self.now.hands.items c.args.shard c.index-arena.result.now c.keys.new.hand c.requires.shard c.index-arena.ensures c.keys.ensures.idle c.requires.belongs

pub returns-clause-lists : goal.returns-clause-lists
returns-clause-lists g c =
    on_ok_map (ListsStripe (setup_of c.index-arena.result.now) c.args.stripe (bytes_of_keys c.args.into.now.items) (bytes_of_keys c.keys.new.into.items) c.index_mut-hand.result.now c.keys.new.hand)
    (ActsOnShard c.args.cache.now.arenas.items c.args.shard (ListsOwnStripe c.args.stripe (bytes_of_keys c.args.into.now.items) (bytes_of_keys c.keys.new.into.items)) c.args.self.now.hands.items (set c.args.self.now.hands.items c.args.shard c.keys.new.hand)) c.keys.result
    (λ lists. acts c.args.cache.now.arenas.items c.args.self.now.hands.items c.args.shard c.index-arena.result.now c.index_mut-hand.result.now c.keys.new.hand (ListsOwnStripe c.args.stripe (bytes_of_keys c.args.into.now.items) (bytes_of_keys c.keys.new.into.items)) c.requires.shard c.requires.belongs.count c.index-arena.ensures c.index_mut-hand.ensures.value lists) c.keys.ensures.lists

pub returns-clause-stores_nothing : goal.returns-clause-stores_nothing
returns-clause-stores_nothing g c = acts c.args.cache.now.arenas.items c.args.self.now.hands.items c.args.shard c.index-arena.result.now c.index_mut-hand.result.now c.keys.new.hand StoresNoMore c.requires.shard c.requires.belongs.count c.index-arena.ensures c.index_mut-hand.ensures.value c.keys.ensures.stores_nothing

pub returns-clause-untouched : goal.returns-clause-untouched
returns-clause-untouched g c = acts c.args.cache.now.arenas.items c.args.self.now.hands.items c.args.shard c.index-arena.result.now c.index_mut-hand.result.now c.keys.new.hand TouchesNothing c.requires.shard c.requires.belongs.count c.index-arena.ensures c.index_mut-hand.ensures.value c.keys.ensures.slabs
