use Rattle.std.proofs.Common.{false, true, ℕ}
use Rattle.mc_cache.specs.Shards.{GetsAtMost, LooksInVain, ReadsOther, TouchesNothing, TouchesOnce, TouchesThere}
use Rattle.mc_cache.proofs.Acts.{acted, answer_stays, idle_after, refused_so, same_answer}
use Rattle.mc_cache.proofs.cache.Worker.touch.Goals as goal

pub returns-clause-belongs : goal.returns-clause-belongs
returns-clause-belongs g c = idle_after c.args.cache.now.arenas.items c.args.self.now.hands.items c.in-Some.at.shard c.index-arena.result.now c.touch.new.hand c.in-Some.ensures.in_range c.index-arena.ensures c.touch.ensures.idle c.requires

pub returns-clause-touches : goal.returns-clause-touches
returns-clause-touches g c = λ is. acted c.args.cache.now c.args.key.now c.args.self.now.hands.items c.in-Some.at c.index-arena.result.now c.index_mut-hand.result.now c.touch.new.hand (λ (hash : ℕ). TouchesThere hash c.args.key.now) c.requires c.in-Some.ensures.hash c.in-Some.ensures.shard c.in-Some.ensures.in_range c.index-arena.ensures c.index_mut-hand.ensures.value (c.touch.ensures.touches (same_answer _ c.touch.result c.map_err.result true c.map_err.ensures.cases c.map_err.ensures.variant is), c.touch.ensures.stores_nothing)

pub returns-clause-none : goal.returns-clause-none
returns-clause-none g c = λ is. acted c.args.cache.now c.args.key.now c.args.self.now.hands.items c.in-Some.at c.index-arena.result.now c.index_mut-hand.result.now c.touch.new.hand (λ (hash : ℕ). ReadsOther hash c.args.key.now) c.requires c.in-Some.ensures.hash c.in-Some.ensures.shard c.in-Some.ensures.in_range c.index-arena.ensures c.index_mut-hand.ensures.value (c.touch.ensures.none (same_answer _ c.touch.result c.map_err.result false c.map_err.ensures.cases c.map_err.ensures.variant is), c.touch.ensures.stores_nothing)

pub returns-clause-refused : goal.returns-clause-refused
returns-clause-refused g c = refused_so _ _ c.touch.result c.map_err.result c.map_err.ensures.variant c.touch.ensures.full (λ full is_key. acted c.args.cache.now c.args.key.now c.args.self.now.hands.items c.in-Some.at c.index-arena.result.now c.index_mut-hand.result.now c.touch.new.hand (λ (hash : ℕ). LooksInVain hash) c.requires c.in-Some.ensures.hash c.in-Some.ensures.shard c.in-Some.ensures.in_range c.index-arena.ensures c.index_mut-hand.ensures.value (c.touch.ensures.stores_nothing, (c.index_mut-hand.result.now, full)))

pub returns-clause-calls : goal.returns-clause-calls
returns-clause-calls g c = λ is_key. acted c.args.cache.now c.args.key.now c.args.self.now.hands.items c.in-Some.at c.index-arena.result.now c.index_mut-hand.result.now c.touch.new.hand (λ (hash : ℕ). GetsAtMost hash) c.requires c.in-Some.ensures.hash c.in-Some.ensures.shard c.in-Some.ensures.in_range c.index-arena.ensures c.index_mut-hand.ensures.value (c.touch.ensures.number, c.touch.ensures.calls)

pub returns-clause-once : goal.returns-clause-once
returns-clause-once g c = λ is. acted c.args.cache.now c.args.key.now c.args.self.now.hands.items c.in-Some.at c.index-arena.result.now c.index_mut-hand.result.now c.touch.new.hand (λ (hash : ℕ). TouchesOnce) c.requires c.in-Some.ensures.hash c.in-Some.ensures.shard c.in-Some.ensures.in_range c.index-arena.ensures c.index_mut-hand.ensures.value (c.touch.ensures.once (same_answer _ c.touch.result c.map_err.result true c.map_err.ensures.cases c.map_err.ensures.variant is))

pub returns-clause-untouched : goal.returns-clause-untouched
returns-clause-untouched g c = λ isnt is_key. acted c.args.cache.now c.args.key.now c.args.self.now.hands.items c.in-Some.at c.index-arena.result.now c.index_mut-hand.result.now c.touch.new.hand (λ (hash : ℕ). TouchesNothing) c.requires c.in-Some.ensures.hash c.in-Some.ensures.shard c.in-Some.ensures.in_range c.index-arena.ensures c.index_mut-hand.ensures.value (c.touch.ensures.slabs (λ is. isnt (answer_stays _ c.touch.result c.map_err.result true c.map_err.ensures.cases is)))
