use Rattle.std.proofs.Common.{ℕ, Err, Ok, ap, false, true}
use Rattle.mc_cache.specs.Shards.{FindsStripeLocked, GetsAtMost, ReadsOther, ReadsValue, StoresNoMore, TouchesNothing}
use Rattle.mc_cache.proofs.Acts.{acted, idle_after, same_ok}
use Rattle.mc_cache.proofs.cache.Worker.try_get.Goals as goal

pub returns-in-Ok-clause-belongs : goal.returns-in-Ok-clause-belongs
returns-in-Ok-clause-belongs c = idle_after c.args.cache.now.arenas.items c.args.self.now.hands.items c.in-Some.at.shard c.index-arena.result.now c.try_get.new.hand c.in-Some.ensures.in_range c.index-arena.ensures c.try_get.ensures.idle c.requires

pub returns-in-Err-NoMemory-clause-belongs : goal.returns-in-Err-NoMemory-clause-belongs
returns-in-Err-NoMemory-clause-belongs c = idle_after c.args.cache.now.arenas.items c.args.self.now.hands.items c.in-Some.at.shard c.index-arena.result.now c.try_get.new.hand c.in-Some.ensures.in_range c.index-arena.ensures c.try_get.ensures.idle c.requires

pub returns-in-Err-Held-clause-belongs : goal.returns-in-Err-Held-clause-belongs
returns-in-Err-Held-clause-belongs c = idle_after c.args.cache.now.arenas.items c.args.self.now.hands.items c.in-Some.at.shard c.index-arena.result.now c.try_get.new.hand c.in-Some.ensures.in_range c.index-arena.ensures c.try_get.ensures.idle c.requires

pub returns-in-Ok-clause-value : goal.returns-in-Ok-clause-value
returns-in-Ok-clause-value c = λ is. let found = c.in-Ok.ensures.value (ap Ok (same_ok c.in-Ok.found true is)) in (found.0, acted c.args.cache.now c.args.key.now c.args.self.now.hands.items c.in-Some.at c.index-arena.result.now c.index_mut-hand.result.now c.try_get.new.hand (λ (hash : ℕ). ReadsValue hash c.args.key.now found.0) c.requires c.in-Some.ensures.hash c.in-Some.ensures.shard c.in-Some.ensures.in_range c.index-arena.ensures c.index_mut-hand.ensures.value (found.1, c.try_get.ensures.stores_nothing), found.2)

pub returns-in-Ok-clause-none : goal.returns-in-Ok-clause-none
returns-in-Ok-clause-none c = λ is. acted c.args.cache.now c.args.key.now c.args.self.now.hands.items c.in-Some.at c.index-arena.result.now c.index_mut-hand.result.now c.try_get.new.hand (λ (hash : ℕ). ReadsOther hash c.args.key.now) c.requires c.in-Some.ensures.hash c.in-Some.ensures.shard c.in-Some.ensures.in_range c.index-arena.ensures c.index_mut-hand.ensures.value (c.in-Ok.ensures.other (ap Ok (same_ok c.in-Ok.found false is)), c.try_get.ensures.stores_nothing)

pub returns-in-Err-NoMemory-clause-refused : goal.returns-in-Err-NoMemory-clause-refused
returns-in-Err-NoMemory-clause-refused c = λ is_key. acted c.args.cache.now c.args.key.now c.args.self.now.hands.items c.in-Some.at c.index-arena.result.now c.index_mut-hand.result.now c.try_get.new.hand (λ (hash : ℕ). StoresNoMore) c.requires c.in-Some.ensures.hash c.in-Some.ensures.shard c.in-Some.ensures.in_range c.index-arena.ensures c.index_mut-hand.ensures.value c.try_get.ensures.stores_nothing

pub returns-in-Err-Held-clause-refused : goal.returns-in-Err-Held-clause-refused
returns-in-Err-Held-clause-refused c = λ is_key. acted c.args.cache.now c.args.key.now c.args.self.now.hands.items c.in-Some.at c.index-arena.result.now c.index_mut-hand.result.now c.try_get.new.hand (λ (hash : ℕ). StoresNoMore) c.requires c.in-Some.ensures.hash c.in-Some.ensures.shard c.in-Some.ensures.in_range c.index-arena.ensures c.index_mut-hand.ensures.value c.try_get.ensures.stores_nothing

pub returns-in-Err-Held-clause-held : goal.returns-in-Err-Held-clause-held
returns-in-Err-Held-clause-held c = λ is. acted c.args.cache.now c.args.key.now c.args.self.now.hands.items c.in-Some.at c.index-arena.result.now c.index_mut-hand.result.now c.try_get.new.hand (λ (hash : ℕ). FindsStripeLocked hash) c.requires c.in-Some.ensures.hash c.in-Some.ensures.shard c.in-Some.ensures.in_range c.index-arena.ensures c.index_mut-hand.ensures.value (c.in-Err-Held.ensures.held (ap Err c.in-Err-Held.field-0-is))

pub returns-in-Ok-clause-kept : goal.returns-in-Ok-clause-kept
returns-in-Ok-clause-kept c = λ isnt. c.in-Ok.ensures.kept (λ is. isnt (ap Ok (same_ok c.in-Ok.found true is)))

pub returns-in-Ok-clause-untouched : goal.returns-in-Ok-clause-untouched
returns-in-Ok-clause-untouched c = λ is_key. acted c.args.cache.now c.args.key.now c.args.self.now.hands.items c.in-Some.at c.index-arena.result.now c.index_mut-hand.result.now c.try_get.new.hand (λ (hash : ℕ). TouchesNothing) c.requires c.in-Some.ensures.hash c.in-Some.ensures.shard c.in-Some.ensures.in_range c.index-arena.ensures c.index_mut-hand.ensures.value c.try_get.ensures.slabs

pub returns-in-Err-NoMemory-clause-untouched : goal.returns-in-Err-NoMemory-clause-untouched
returns-in-Err-NoMemory-clause-untouched c = λ is_key. acted c.args.cache.now c.args.key.now c.args.self.now.hands.items c.in-Some.at c.index-arena.result.now c.index_mut-hand.result.now c.try_get.new.hand (λ (hash : ℕ). TouchesNothing) c.requires c.in-Some.ensures.hash c.in-Some.ensures.shard c.in-Some.ensures.in_range c.index-arena.ensures c.index_mut-hand.ensures.value c.try_get.ensures.slabs

pub returns-in-Err-Held-clause-untouched : goal.returns-in-Err-Held-clause-untouched
returns-in-Err-Held-clause-untouched c = λ is_key. acted c.args.cache.now c.args.key.now c.args.self.now.hands.items c.in-Some.at c.index-arena.result.now c.index_mut-hand.result.now c.try_get.new.hand (λ (hash : ℕ). TouchesNothing) c.requires c.in-Some.ensures.hash c.in-Some.ensures.shard c.in-Some.ensures.in_range c.index-arena.ensures c.index_mut-hand.ensures.value c.try_get.ensures.slabs

pub returns-in-Ok-clause-calls : goal.returns-in-Ok-clause-calls
returns-in-Ok-clause-calls c = λ is_key. acted c.args.cache.now c.args.key.now c.args.self.now.hands.items c.in-Some.at c.index-arena.result.now c.index_mut-hand.result.now c.try_get.new.hand (λ (hash : ℕ). GetsAtMost hash) c.requires c.in-Some.ensures.hash c.in-Some.ensures.shard c.in-Some.ensures.in_range c.index-arena.ensures c.index_mut-hand.ensures.value (c.try_get.ensures.number, c.try_get.ensures.calls)

pub returns-in-Err-NoMemory-clause-calls : goal.returns-in-Err-NoMemory-clause-calls
returns-in-Err-NoMemory-clause-calls c = λ is_key. acted c.args.cache.now c.args.key.now c.args.self.now.hands.items c.in-Some.at c.index-arena.result.now c.index_mut-hand.result.now c.try_get.new.hand (λ (hash : ℕ). GetsAtMost hash) c.requires c.in-Some.ensures.hash c.in-Some.ensures.shard c.in-Some.ensures.in_range c.index-arena.ensures c.index_mut-hand.ensures.value (c.try_get.ensures.number, c.try_get.ensures.calls)

pub returns-in-Err-Held-clause-calls : goal.returns-in-Err-Held-clause-calls
returns-in-Err-Held-clause-calls c = λ is_key. acted c.args.cache.now c.args.key.now c.args.self.now.hands.items c.in-Some.at c.index-arena.result.now c.index_mut-hand.result.now c.try_get.new.hand (λ (hash : ℕ). GetsAtMost hash) c.requires c.in-Some.ensures.hash c.in-Some.ensures.shard c.in-Some.ensures.in_range c.index-arena.ensures c.index_mut-hand.ensures.value (c.try_get.ensures.number, c.try_get.ensures.calls)
