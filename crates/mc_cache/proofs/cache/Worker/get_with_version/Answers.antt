use Rattle.std.proofs.Common.{ℕ, None, Ok, ap}
use Rattle.mc_words.specs.hand.Arenas.{setup_of}
use Rattle.mc_cache.specs.Shards.{GetsAtMost, ReadsOther, StoresNoMore, TouchesNothing}
use Rattle.mc_cache.specs.Versions.{ReadsVersion}
use Rattle.mc_shard.specs.Conditions.{ReturnsVersion}
use Rattle.mc_cache.proofs.Acts.{acted, idle_after, same_ok, some_map}
use Rattle.mc_cache.proofs.cache.Worker.get_with_version.Goals as goal

pub returns-in-Ok-clause-belongs : goal.returns-in-Ok-clause-belongs
returns-in-Ok-clause-belongs g c = idle_after c.args.cache.now.arenas.items c.args.self.now.hands.items c.in-Some.at.shard c.index-arena.result.now c.get_with_version.new.hand c.in-Some.ensures.in_range c.index-arena.ensures c.get_with_version.ensures.idle c.requires

pub returns-in-Err-clause-belongs : goal.returns-in-Err-clause-belongs
returns-in-Err-clause-belongs g c = idle_after c.args.cache.now.arenas.items c.args.self.now.hands.items c.in-Some.at.shard c.index-arena.result.now c.get_with_version.new.hand c.in-Some.ensures.in_range c.index-arena.ensures c.get_with_version.ensures.idle c.requires

pub returns-in-Ok-clause-value : goal.returns-in-Ok-clause-value
returns-in-Ok-clause-value g c =
    some_map (λ (version : ℕ). ReturnsVersion (setup_of c.index-arena.result.now) c.in-Some.at.hash c.args.key.now version c.index_mut-hand.result.now c.args.into.now.items c.get_with_version.new.into.items) _ c.in-Ok.found
    (λ version found. (found.0, acted c.args.cache.now c.args.key.now c.args.self.now.hands.items c.in-Some.at c.index-arena.result.now c.index_mut-hand.result.now c.get_with_version.new.hand (λ (hash : ℕ). ReadsVersion hash c.args.key.now found.0 version) c.requires c.in-Some.ensures.hash c.in-Some.ensures.shard c.in-Some.ensures.in_range c.index-arena.ensures c.index_mut-hand.ensures.value (found.1, c.get_with_version.ensures.stores_nothing), found.2)) c.in-Ok.ensures.value

pub returns-in-Ok-clause-none : goal.returns-in-Ok-clause-none
returns-in-Ok-clause-none g c = λ is. acted c.args.cache.now c.args.key.now c.args.self.now.hands.items c.in-Some.at c.index-arena.result.now c.index_mut-hand.result.now c.get_with_version.new.hand (λ (hash : ℕ). ReadsOther hash c.args.key.now) c.requires c.in-Some.ensures.hash c.in-Some.ensures.shard c.in-Some.ensures.in_range c.index-arena.ensures c.index_mut-hand.ensures.value (c.in-Ok.ensures.other (ap Ok (same_ok c.in-Ok.found None is)), c.get_with_version.ensures.stores_nothing)

pub returns-in-Ok-clause-kept : goal.returns-in-Ok-clause-kept
returns-in-Ok-clause-kept g c = λ is. c.in-Ok.ensures.kept (ap Ok (same_ok c.in-Ok.found None is))

pub returns-in-Ok-clause-untouched : goal.returns-in-Ok-clause-untouched
returns-in-Ok-clause-untouched g c = λ is_key. acted c.args.cache.now c.args.key.now c.args.self.now.hands.items c.in-Some.at c.index-arena.result.now c.index_mut-hand.result.now c.get_with_version.new.hand (λ (hash : ℕ). TouchesNothing) c.requires c.in-Some.ensures.hash c.in-Some.ensures.shard c.in-Some.ensures.in_range c.index-arena.ensures c.index_mut-hand.ensures.value c.get_with_version.ensures.slabs

pub returns-in-Ok-clause-calls : goal.returns-in-Ok-clause-calls
returns-in-Ok-clause-calls g c = λ is_key. acted c.args.cache.now c.args.key.now c.args.self.now.hands.items c.in-Some.at c.index-arena.result.now c.index_mut-hand.result.now c.get_with_version.new.hand (λ (hash : ℕ). GetsAtMost hash) c.requires c.in-Some.ensures.hash c.in-Some.ensures.shard c.in-Some.ensures.in_range c.index-arena.ensures c.index_mut-hand.ensures.value (c.get_with_version.ensures.number, c.get_with_version.ensures.calls)

pub returns-in-Err-clause-refused : goal.returns-in-Err-clause-refused
returns-in-Err-clause-refused g c = λ is_key. acted c.args.cache.now c.args.key.now c.args.self.now.hands.items c.in-Some.at c.index-arena.result.now c.index_mut-hand.result.now c.get_with_version.new.hand (λ (hash : ℕ). StoresNoMore) c.requires c.in-Some.ensures.hash c.in-Some.ensures.shard c.in-Some.ensures.in_range c.index-arena.ensures c.index_mut-hand.ensures.value c.get_with_version.ensures.stores_nothing

pub returns-in-Err-clause-untouched : goal.returns-in-Err-clause-untouched
returns-in-Err-clause-untouched g c = λ is_key. acted c.args.cache.now c.args.key.now c.args.self.now.hands.items c.in-Some.at c.index-arena.result.now c.index_mut-hand.result.now c.get_with_version.new.hand (λ (hash : ℕ). TouchesNothing) c.requires c.in-Some.ensures.hash c.in-Some.ensures.shard c.in-Some.ensures.in_range c.index-arena.ensures c.index_mut-hand.ensures.value c.get_with_version.ensures.slabs

pub returns-in-Err-clause-calls : goal.returns-in-Err-clause-calls
returns-in-Err-clause-calls g c = λ is_key. acted c.args.cache.now c.args.key.now c.args.self.now.hands.items c.in-Some.at c.index-arena.result.now c.index_mut-hand.result.now c.get_with_version.new.hand (λ (hash : ℕ). GetsAtMost hash) c.requires c.in-Some.ensures.hash c.in-Some.ensures.shard c.in-Some.ensures.in_range c.index-arena.ensures c.index_mut-hand.ensures.value (c.get_with_version.ensures.number, c.get_with_version.ensures.calls)
