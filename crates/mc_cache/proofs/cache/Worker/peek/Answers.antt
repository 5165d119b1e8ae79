use Rattle.std.proofs.Common.{false, true, ℕ}
use Rattle.mc_cache.specs.Shards.{GetsAtMost, ReadsOther, ReadsValue, StoresNoMore, TouchesNothing}
use Rattle.mc_cache.proofs.Acts.{acted, answer_stays, idle_after, on_refusal, same_answer}
use Rattle.mc_cache.proofs.cache.Worker.peek.Goals as goal

pub returns-clause-belongs : goal.returns-clause-belongs
returns-clause-belongs g c = idle_after c.args.cache.now.arenas.items c.args.self.now.hands.items c.in-Some.at.shard c.index-arena.result.now c.peek.new.hand c.in-Some.ensures.in_range c.index-arena.ensures c.peek.ensures.idle c.requires

pub returns-clause-value : goal.returns-clause-value
returns-clause-value g c = λ is. let found = c.peek.ensures.value (same_answer _ c.peek.result c.map_err.result true c.map_err.ensures.cases c.map_err.ensures.variant is) in (found.0, acted c.args.cache.now c.args.key.now c.args.self.now.hands.items c.in-Some.at c.index-arena.result.now c.index_mut-hand.result.now c.peek.new.hand (λ (hash : ℕ). ReadsValue hash c.args.key.now found.0) c.requires c.in-Some.ensures.hash c.in-Some.ensures.shard c.in-Some.ensures.in_range c.index-arena.ensures c.index_mut-hand.ensures.value (found.1, c.peek.ensures.stores_nothing), found.2)

pub returns-clause-none : goal.returns-clause-none
returns-clause-none g c = λ is. acted c.args.cache.now c.args.key.now c.args.self.now.hands.items c.in-Some.at c.index-arena.result.now c.index_mut-hand.result.now c.peek.new.hand (λ (hash : ℕ). ReadsOther hash c.args.key.now) c.requires c.in-Some.ensures.hash c.in-Some.ensures.shard c.in-Some.ensures.in_range c.index-arena.ensures c.index_mut-hand.ensures.value (c.peek.ensures.other (same_answer _ c.peek.result c.map_err.result false c.map_err.ensures.cases c.map_err.ensures.variant is), c.peek.ensures.stores_nothing)

pub returns-clause-refused : goal.returns-clause-refused
returns-clause-refused g c = on_refusal c.map_err.result (λ is_key. acted c.args.cache.now c.args.key.now c.args.self.now.hands.items c.in-Some.at c.index-arena.result.now c.index_mut-hand.result.now c.peek.new.hand (λ (hash : ℕ). StoresNoMore) c.requires c.in-Some.ensures.hash c.in-Some.ensures.shard c.in-Some.ensures.in_range c.index-arena.ensures c.index_mut-hand.ensures.value c.peek.ensures.stores_nothing)

pub returns-clause-kept : goal.returns-clause-kept
returns-clause-kept g c = λ isnt. c.peek.ensures.kept (λ is. isnt (answer_stays _ c.peek.result c.map_err.result true c.map_err.ensures.cases is))

pub returns-clause-untouched : goal.returns-clause-untouched
returns-clause-untouched g c = λ is_key. acted c.args.cache.now c.args.key.now c.args.self.now.hands.items c.in-Some.at c.index-arena.result.now c.index_mut-hand.result.now c.peek.new.hand (λ (hash : ℕ). TouchesNothing) c.requires c.in-Some.ensures.hash c.in-Some.ensures.shard c.in-Some.ensures.in_range c.index-arena.ensures c.index_mut-hand.ensures.value (c.peek.ensures.slabs)

pub returns-clause-calls : goal.returns-clause-calls
returns-clause-calls g c = λ is_key. acted c.args.cache.now c.args.key.now c.args.self.now.hands.items c.in-Some.at c.index-arena.result.now c.index_mut-hand.result.now c.peek.new.hand (λ (hash : ℕ). GetsAtMost hash) c.requires c.in-Some.ensures.hash c.in-Some.ensures.shard c.in-Some.ensures.in_range c.index-arena.ensures c.index_mut-hand.ensures.value (c.peek.ensures.number, c.peek.ensures.calls)
