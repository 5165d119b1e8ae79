use Rattle.std.proofs.Common.{set}
use Rattle.mc_items.proofs.Listings.{on_ok_map}
use Rattle.mc_words.specs.hand.Arenas.{setup_of}
use Rattle.mc_shard.specs.Listing.{ListsStripe, MissesListing, bytes_of_keys}
use Rattle.mc_cache.specs.Listing.{ListsOwnStripe}
use Rattle.mc_cache.specs.Resting.{ActsWhenRecalled}
use Rattle.mc_cache.specs.Shards.{ActsOnShard, StoresNoMore, TouchesNothing}
use Rattle.mc_cache.proofs.Rests.{acts_again, rests_after}
use Rattle.mc_cache.proofs.Walked.{resting_there}
use Rattle.mc_cache.proofs.cache.Worker.keys_within.Goals as goal

pub recall-requires : goal.recall-requires
recall-requires c = resting_there c.args.cache.now.arenas.items c.args.self.now.hands.items c.args.shard c.index-arena.result.now c.index_mut-hand.result.now c.requires.rests c.requires.shard c.index-arena.ensures c.index_mut-hand.ensures.value

pub returns-clause-rests : goal.returns-clause-rests
returns-clause-rests c = rests_after c.args.cache.now.arenas.items c.args.self.now.hands.items c.args.shard c.index-arena.result.now c.keys_within.new.hand c.requires.shard c.index-arena.ensures c.keys_within.ensures.idle c.requires.rests

pub returns-clause-lists : goal.returns-clause-lists
returns-clause-lists c =
    let Lists = ListsOwnStripe c.args.stripe (bytes_of_keys c.args.into.now.items) (bytes_of_keys c.keys_within.new.into.items) in
    on_ok_map (ListsStripe (setup_of c.index-arena.result.now) c.args.stripe (bytes_of_keys c.args.into.now.items) (bytes_of_keys c.keys_within.new.into.items) c.recall.new.hand c.keys_within.new.hand)
    (ActsOnShard c.args.cache.now.arenas.items c.args.shard (ActsWhenRecalled Lists) c.args.self.now.hands.items (set c.args.self.now.hands.items c.args.shard c.keys_within.new.hand)) c.keys_within.result
    (λ lists. acts_again c.args.cache.now.arenas.items c.args.self.now.hands.items c.args.shard c.index-arena.result.now c.index_mut-hand.result.now c.recall.new.hand c.keys_within.new.hand Lists c.requires.shard c.requires.rests.count c.index-arena.ensures c.index_mut-hand.ensures.value c.recall.ensures.same c.recall.ensures.number lists) c.keys_within.ensures.lists

pub returns-clause-held : goal.returns-clause-held
returns-clause-held c is =
    acts_again c.args.cache.now.arenas.items c.args.self.now.hands.items c.args.shard c.index-arena.result.now c.index_mut-hand.result.now c.recall.new.hand c.keys_within.new.hand (λ arena. MissesListing (setup_of arena) c.args.tries c.args.stripe) c.requires.shard c.requires.rests.count c.index-arena.ensures c.index_mut-hand.ensures.value c.recall.ensures.same c.recall.ensures.number (c.keys_within.ensures.held is)

pub returns-clause-stores_nothing : goal.returns-clause-stores_nothing
returns-clause-stores_nothing c = acts_again c.args.cache.now.arenas.items c.args.self.now.hands.items c.args.shard c.index-arena.result.now c.index_mut-hand.result.now c.recall.new.hand c.keys_within.new.hand StoresNoMore c.requires.shard c.requires.rests.count c.index-arena.ensures c.index_mut-hand.ensures.value c.recall.ensures.same c.recall.ensures.number c.keys_within.ensures.stores_nothing

pub returns-clause-untouched : goal.returns-clause-untouched
returns-clause-untouched c = acts_again c.args.cache.now.arenas.items c.args.self.now.hands.items c.args.shard c.index-arena.result.now c.index_mut-hand.result.now c.recall.new.hand c.keys_within.new.hand TouchesNothing c.requires.shard c.requires.rests.count c.index-arena.ensures c.index_mut-hand.ensures.value c.recall.ensures.same c.recall.ensures.number c.keys_within.ensures.slabs
