use Rattle.std.proofs.Common.{ℕ, Ok, ap}
use Rattle.mc_shard.specs.declared.deleting_version.Deletion.TheVariants.{Deleted, Exists, Missing}
use Rattle.mc_cache.specs.Deleting.{DeletesOnce, DeletesVersionThere, KeepsOtherVersion, LacksVersion}
use Rattle.mc_cache.specs.Shards.{GetsAtMost, LooksInVain, TouchesNothing}
use Rattle.mc_cache.proofs.Acts.{acted, idle_after, same_ok}
use Rattle.mc_cache.proofs.cache.Worker.delete_version.Goals as goal

pub returns-in-Ok-clause-belongs : goal.returns-in-Ok-clause-belongs
returns-in-Ok-clause-belongs g c = idle_after c.args.cache.now.arenas.items c.args.self.now.hands.items c.in-Some.at.shard c.index-arena.result.now c.delete_version.new.hand c.in-Some.ensures.in_range c.index-arena.ensures c.delete_version.ensures.idle c.requires

pub returns-in-Err-clause-belongs : goal.returns-in-Err-clause-belongs
returns-in-Err-clause-belongs g c = idle_after c.args.cache.now.arenas.items c.args.self.now.hands.items c.in-Some.at.shard c.index-arena.result.now c.delete_version.new.hand c.in-Some.ensures.in_range c.index-arena.ensures c.delete_version.ensures.idle c.requires

pub returns-in-Ok-clause-deletes : goal.returns-in-Ok-clause-deletes
returns-in-Ok-clause-deletes g c = λ is. acted c.args.cache.now c.args.key.now c.args.self.now.hands.items c.in-Some.at c.index-arena.result.now c.index_mut-hand.result.now c.delete_version.new.hand (λ (hash : ℕ). DeletesVersionThere hash c.args.key.now c.args.version) c.requires
    c.in-Some.ensures.hash c.in-Some.ensures.shard c.in-Some.ensures.in_range c.index-arena.ensures c.index_mut-hand.ensures.value (c.in-Ok.ensures.deletes (ap Ok (same_ok c.in-Ok.deletion Deleted is)), c.delete_version.ensures.stores_nothing)

pub returns-in-Ok-clause-exists : goal.returns-in-Ok-clause-exists
returns-in-Ok-clause-exists g c = λ is. acted c.args.cache.now c.args.key.now c.args.self.now.hands.items c.in-Some.at c.index-arena.result.now c.index_mut-hand.result.now c.delete_version.new.hand (λ (hash : ℕ). KeepsOtherVersion hash c.args.key.now c.args.version) c.requires
    c.in-Some.ensures.hash c.in-Some.ensures.shard c.in-Some.ensures.in_range c.index-arena.ensures c.index_mut-hand.ensures.value (c.in-Ok.ensures.exists (ap Ok (same_ok c.in-Ok.deletion Exists is)), c.delete_version.ensures.stores_nothing)

pub returns-in-Ok-clause-missing : goal.returns-in-Ok-clause-missing
returns-in-Ok-clause-missing g c = λ is. acted c.args.cache.now c.args.key.now c.args.self.now.hands.items c.in-Some.at c.index-arena.result.now c.index_mut-hand.result.now c.delete_version.new.hand (λ (hash : ℕ). LacksVersion hash c.args.key.now c.args.version) c.requires
    c.in-Some.ensures.hash c.in-Some.ensures.shard c.in-Some.ensures.in_range c.index-arena.ensures c.index_mut-hand.ensures.value (c.in-Ok.ensures.missing (ap Ok (same_ok c.in-Ok.deletion Missing is)), c.delete_version.ensures.stores_nothing)

pub returns-in-Ok-clause-calls : goal.returns-in-Ok-clause-calls
returns-in-Ok-clause-calls g c = λ is. acted c.args.cache.now c.args.key.now c.args.self.now.hands.items c.in-Some.at c.index-arena.result.now c.index_mut-hand.result.now c.delete_version.new.hand (λ (hash : ℕ). DeletesOnce hash) c.requires
    c.in-Some.ensures.hash c.in-Some.ensures.shard c.in-Some.ensures.in_range c.index-arena.ensures c.index_mut-hand.ensures.value (c.delete_version.ensures.number, c.in-Ok.ensures.calls (ap Ok (same_ok c.in-Ok.deletion Deleted is)))

pub returns-in-Ok-clause-looks : goal.returns-in-Ok-clause-looks
returns-in-Ok-clause-looks g c = λ not is_key. acted c.args.cache.now c.args.key.now c.args.self.now.hands.items c.in-Some.at c.index-arena.result.now c.index_mut-hand.result.now c.delete_version.new.hand (λ (hash : ℕ). GetsAtMost hash) c.requires
    c.in-Some.ensures.hash c.in-Some.ensures.shard c.in-Some.ensures.in_range c.index-arena.ensures c.index_mut-hand.ensures.value (c.delete_version.ensures.number, c.in-Ok.ensures.looks (λ is. not (ap Ok (same_ok c.in-Ok.deletion Deleted is))))

pub returns-in-Err-clause-looks : goal.returns-in-Err-clause-looks
returns-in-Err-clause-looks g c = λ not is_key. acted c.args.cache.now c.args.key.now c.args.self.now.hands.items c.in-Some.at c.index-arena.result.now c.index_mut-hand.result.now c.delete_version.new.hand (λ (hash : ℕ). GetsAtMost hash) c.requires
    c.in-Some.ensures.hash c.in-Some.ensures.shard c.in-Some.ensures.in_range c.index-arena.ensures c.index_mut-hand.ensures.value (c.delete_version.ensures.number, c.in-Err.ensures.looks (λ is. cc))

pub returns-in-Err-clause-refused : goal.returns-in-Err-clause-refused
returns-in-Err-clause-refused g c = λ is_key. acted c.args.cache.now c.args.key.now c.args.self.now.hands.items c.in-Some.at c.index-arena.result.now c.index_mut-hand.result.now c.delete_version.new.hand (λ (hash : ℕ). LooksInVain hash) c.requires
    c.in-Some.ensures.hash c.in-Some.ensures.shard c.in-Some.ensures.in_range c.index-arena.ensures c.index_mut-hand.ensures.value (c.delete_version.ensures.stores_nothing, c.in-Err.ensures.full)

pub returns-in-Ok-clause-untouched : goal.returns-in-Ok-clause-untouched
returns-in-Ok-clause-untouched g c = λ is_key. acted c.args.cache.now c.args.key.now c.args.self.now.hands.items c.in-Some.at c.index-arena.result.now c.index_mut-hand.result.now c.delete_version.new.hand (λ (hash : ℕ). TouchesNothing) c.requires
    c.in-Some.ensures.hash c.in-Some.ensures.shard c.in-Some.ensures.in_range c.index-arena.ensures c.index_mut-hand.ensures.value c.delete_version.ensures.slabs

pub returns-in-Err-clause-untouched : goal.returns-in-Err-clause-untouched
returns-in-Err-clause-untouched g c = λ is_key. acted c.args.cache.now c.args.key.now c.args.self.now.hands.items c.in-Some.at c.index-arena.result.now c.index_mut-hand.result.now c.delete_version.new.hand (λ (hash : ℕ). TouchesNothing) c.requires
    c.in-Some.ensures.hash c.in-Some.ensures.shard c.in-Some.ensures.in_range c.index-arena.ensures c.index_mut-hand.ensures.value c.delete_version.ensures.slabs
