use Rattle.std.proofs.Common.{◌≡◌, ℕ, Err, ap, length, subst}
use Rattle.mc_items.specs.declared.setting.SetError.{SetError}
use Rattle.mc_items.specs.declared.setting.SetError.TheVariants.{TooLarge}
use Rattle.mc_cache.specs.declared.working.SetError.TheVariants as set_error
use Rattle.mc_cache.specs.Shards.{RefusesValue, StoresValue}
use Rattle.mc_cache.proofs.Acts.{acted, idle_after, is_key, no_none}
use Rattle.mc_cache.proofs.Classes.{lacks_in, lacks_there}
use Rattle.mc_cache.proofs.cache.Worker.set_or_keep.Goals as goal

pub returns-in-Ok-clause-belongs : goal.returns-in-Ok-clause-belongs
returns-in-Ok-clause-belongs g c = idle_after c.args.cache.now.arenas.items c.args.self.now.hands.items c.in-Some.at.shard c.index-arena.result.now c.set.new.hand c.in-Some.ensures.in_range c.index-arena.ensures c.set.ensures.idle c.requires

pub returns-in-Err-clause-belongs : goal.returns-in-Err-clause-belongs
returns-in-Err-clause-belongs g c = idle_after c.args.cache.now.arenas.items c.args.self.now.hands.items c.in-Some.at.shard c.index-arena.result.now c.set.new.hand c.in-Some.ensures.in_range c.index-arena.ensures c.set.ensures.idle c.requires

pub returns-in-Ok-clause-key : goal.returns-in-Ok-clause-key
returns-in-Ok-clause-key g c = (λ is. cc, λ no. absurd (no_none c.in-Some.at (c.in-Some.ensures.key.1 no)))

pub returns-in-Ok-clause-too_large : goal.returns-in-Ok-clause-too_large
returns-in-Ok-clause-too_large g c = (λ is. absurd (cc), λ both. let wrong = c.in-Ok.ensures.too_large.1 (lacks_there c.args.cache.now c.index-arena.result.now c.in-Some.at.shard c.in-Some.ensures.in_range c.index-arena.ensures (length c.args.key.now) (length c.args.value.now) both.1) in absurd (cc))

pub returns-in-Err-clause-too_large : goal.returns-in-Err-clause-too_large
returns-in-Err-clause-too_large g c = (
  λ is.
      let same : c.in-Err.error ≡ TooLarge = cc in
      (is_key c.args.key.now (λ no. no_none c.in-Some.at (c.in-Some.ensures.key.1 no)), lacks_in c.args.cache.now c.index-arena.result.now c.in-Some.at.shard c.in-Some.ensures.in_range c.index-arena.ensures (length c.args.key.now) (length c.args.value.now) (c.in-Err.ensures.too_large.0 (ap Err same))),
  λ both. let so = c.in-Err.ensures.too_large.1 (lacks_there c.args.cache.now c.index-arena.result.now c.in-Some.at.shard c.in-Some.ensures.in_range c.index-arena.ensures (length c.args.key.now) (length c.args.value.now) both.1) in
      let same : c.in-Err.error ≡ TooLarge = cc in ap (λ (e : SetError). Err (set_error.Item e)) same,
)

pub returns-in-Ok-clause-stores : goal.returns-in-Ok-clause-stores
returns-in-Ok-clause-stores g c = acted c.args.cache.now c.args.key.now c.args.self.now.hands.items c.in-Some.at c.index-arena.result.now c.index_mut-hand.result.now c.set.new.hand (λ (hash : ℕ). StoresValue hash c.args.key.now c.args.value.now) c.requires c.in-Some.ensures.hash c.in-Some.ensures.shard c.in-Some.ensures.in_range c.index-arena.ensures c.index_mut-hand.ensures.value (c.set.ensures.number, (c.in-Ok._stamp, c.in-Ok.ensures.stores_words, c.in-Ok.ensures.sets, c.in-Ok.ensures.calls))

pub returns-in-Err-clause-refused : goal.returns-in-Err-clause-refused
returns-in-Err-clause-refused g c = λ error is.
    let same : c.in-Err.error ≡ error = cc in
    acted c.args.cache.now c.args.key.now c.args.self.now.hands.items c.in-Some.at c.index-arena.result.now c.index_mut-hand.result.now c.set.new.hand (λ (hash : ℕ). RefusesValue hash c.args.key.now c.args.value.now error) c.requires c.in-Some.ensures.hash c.in-Some.ensures.shard c.in-Some.ensures.in_range c.index-arena.ensures c.index_mut-hand.ensures.value (subst (λ (e : SetError). RefusesValue c.in-Some.at.hash c.args.key.now c.args.value.now e c.index-arena.result.now c.index_mut-hand.result.now c.set.new.hand) same (c.set.ensures.number, c.in-Err.ensures.refused, c.in-Err.ensures.evicts))
