use Rattle.std.proofs.Common.{false, inl, inr, true, ℕ, ⊎_elim}
use Rattle.mc_cache.specs.Shards.{DeletesAtMost, DeletesThere, LooksInVain, ReadsOther, TouchesNothing}
use Rattle.mc_cache.proofs.Acts.{acted, idle_after, refused_so, same_answer}
use Rattle.mc_cache.proofs.cache.Worker.delete.Goals as goal

pub returns-clause-belongs : goal.returns-clause-belongs
returns-clause-belongs g c = idle_after c.args.cache.now.arenas.items c.args.self.now.hands.items c.in-Some.at.shard c.index-arena.result.now c.delete.new.hand c.in-Some.ensures.in_range c.index-arena.ensures c.delete.ensures.idle c.requires

pub returns-clause-deletes : goal.returns-clause-deletes
returns-clause-deletes g c = λ is. acted c.args.cache.now c.args.key.now c.args.self.now.hands.items c.in-Some.at c.index-arena.result.now c.index_mut-hand.result.now c.delete.new.hand (λ (hash : ℕ). DeletesThere hash c.args.key.now true) c.requires c.in-Some.ensures.hash c.in-Some.ensures.shard c.in-Some.ensures.in_range c.index-arena.ensures c.index_mut-hand.ensures.value (c.delete.ensures.deletes (same_answer _ c.delete.result c.map_err.result true c.map_err.ensures.cases c.map_err.ensures.variant is), c.delete.ensures.stores_nothing)

pub returns-clause-none : goal.returns-clause-none
returns-clause-none g c = λ is. ⊎_elim (λ other. inl (acted c.args.cache.now c.args.key.now c.args.self.now.hands.items c.in-Some.at c.index-arena.result.now c.index_mut-hand.result.now c.delete.new.hand (λ (hash : ℕ). ReadsOther hash c.args.key.now) c.requires c.in-Some.ensures.hash c.in-Some.ensures.shard c.in-Some.ensures.in_range c.index-arena.ensures c.index_mut-hand.ensures.value (other, c.delete.ensures.stores_nothing))) (λ gone. inr (acted c.args.cache.now c.args.key.now c.args.self.now.hands.items c.in-Some.at c.index-arena.result.now c.index_mut-hand.result.now c.delete.new.hand (λ (hash : ℕ). DeletesThere hash c.args.key.now false) c.requires c.in-Some.ensures.hash c.in-Some.ensures.shard c.in-Some.ensures.in_range c.index-arena.ensures c.index_mut-hand.ensures.value (gone, c.delete.ensures.stores_nothing))) (c.delete.ensures.none (same_answer _ c.delete.result c.map_err.result false c.map_err.ensures.cases c.map_err.ensures.variant is))

pub returns-clause-refused : goal.returns-clause-refused
returns-clause-refused g c = refused_so _ _ c.delete.result c.map_err.result c.map_err.ensures.variant c.delete.ensures.full (λ full is_key. acted c.args.cache.now c.args.key.now c.args.self.now.hands.items c.in-Some.at c.index-arena.result.now c.index_mut-hand.result.now c.delete.new.hand (λ (hash : ℕ). LooksInVain hash) c.requires c.in-Some.ensures.hash c.in-Some.ensures.shard c.in-Some.ensures.in_range c.index-arena.ensures c.index_mut-hand.ensures.value (c.delete.ensures.stores_nothing, full))

pub returns-clause-calls : goal.returns-clause-calls
returns-clause-calls g c = λ is_key. acted c.args.cache.now c.args.key.now c.args.self.now.hands.items c.in-Some.at c.index-arena.result.now c.index_mut-hand.result.now c.delete.new.hand (λ (hash : ℕ). DeletesAtMost hash) c.requires c.in-Some.ensures.hash c.in-Some.ensures.shard c.in-Some.ensures.in_range c.index-arena.ensures c.index_mut-hand.ensures.value (c.delete.ensures.number, c.delete.ensures.calls)

pub returns-clause-untouched : goal.returns-clause-untouched
returns-clause-untouched g c = λ is_key. acted c.args.cache.now c.args.key.now c.args.self.now.hands.items c.in-Some.at c.index-arena.result.now c.index_mut-hand.result.now c.delete.new.hand (λ (hash : ℕ). TouchesNothing) c.requires c.in-Some.ensures.hash c.in-Some.ensures.shard c.in-Some.ensures.in_range c.index-arena.ensures c.index_mut-hand.ensures.value c.delete.ensures.slabs
