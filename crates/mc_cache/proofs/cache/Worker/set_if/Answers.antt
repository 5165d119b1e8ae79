use Rattle.std.proofs.Common.{◌≡◌, ℕ, Err, Ok, ap, length, refl}
use Rattle.mc_items.specs.declared.setting.SetError.TheVariants.{TooLarge}
use Rattle.mc_cache.specs.Conditional.{SetsValueIf}
use Rattle.mc_cache.specs.declared.working.SetError.TheVariants as set_error
use Rattle.mc_cache.proofs.Acts.{acted, idle_after}
use Rattle.mc_cache.proofs.Classes.{lacks_in}
use Rattle.mc_cache.proofs.cache.Worker.set_if.Goals as goal

pub returns-in-Ok-clause-belongs : goal.returns-in-Ok-clause-belongs
returns-in-Ok-clause-belongs g c = idle_after c.args.cache.now.arenas.items c.args.self.now.hands.items c.in-Some.at.shard c.index-arena.result.now c.set_if.new.hand c.in-Some.ensures.in_range c.index-arena.ensures c.set_if.ensures.idle c.requires

pub returns-in-Err-clause-belongs : goal.returns-in-Err-clause-belongs
returns-in-Err-clause-belongs g c = idle_after c.args.cache.now.arenas.items c.args.self.now.hands.items c.in-Some.at.shard c.index-arena.result.now c.set_if.new.hand c.in-Some.ensures.in_range c.index-arena.ensures c.set_if.ensures.idle c.requires

pub returns-in-Ok-clause-acts : goal.returns-in-Ok-clause-acts
returns-in-Ok-clause-acts g c = λ is_key. acted c.args.cache.now c.args.key.now c.args.self.now.hands.items c.in-Some.at c.index-arena.result.now c.index_mut-hand.result.now c.set_if.new.hand (λ (hash : ℕ). SetsValueIf hash c.args.key.now c.args.value.now c.args.when (Ok c.in-Ok.outcome)) c.requires c.in-Some.ensures.hash c.in-Some.ensures.shard c.in-Some.ensures.in_range c.index-arena.ensures c.index_mut-hand.ensures.value
    (record { number = c.set_if.ensures.number; returned = Ok c.in-Ok.outcome; result_is = refl; sets = c.in-Ok.ensures.sets })

pub returns-in-Err-clause-acts : goal.returns-in-Err-clause-acts
returns-in-Err-clause-acts g c = λ is_key. acted c.args.cache.now c.args.key.now c.args.self.now.hands.items c.in-Some.at c.index-arena.result.now c.index_mut-hand.result.now c.set_if.new.hand (λ (hash : ℕ). SetsValueIf hash c.args.key.now c.args.value.now c.args.when (Err (set_error.Item c.in-Err.error))) c.requires c.in-Some.ensures.hash c.in-Some.ensures.shard c.in-Some.ensures.in_range c.index-arena.ensures c.index_mut-hand.ensures.value
    (record { number = c.set_if.ensures.number; returned = Err c.in-Err.error; result_is = refl; sets = c.in-Err.ensures.sets })

pub returns-in-Err-clause-too_large : goal.returns-in-Err-clause-too_large
returns-in-Err-clause-too_large g c = λ is. let same : c.in-Err.error ≡ TooLarge = cc in lacks_in c.args.cache.now c.index-arena.result.now c.in-Some.at.shard c.in-Some.ensures.in_range c.index-arena.ensures (length c.args.key.now) (length c.args.value.now) (c.in-Err.ensures.too_large (ap Err same))
