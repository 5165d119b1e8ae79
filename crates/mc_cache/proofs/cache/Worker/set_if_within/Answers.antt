use Rattle.std.proofs.Common.{◌≡◌, ◌∙◌, ℕ, Err, Ok, ap, length, refl, subst}
use Rattle.mc_items.specs.declared.setting.SetError.TheVariants.{TooLarge}
use Rattle.mc_words.specs.hand.Arenas.{setup_of}
use Rattle.mc_items.specs.declared.within.SetWithinError.{SetWithinError}
use Rattle.mc_cache.specs.Conditional.{SetsValueIfWithin}
use Rattle.mc_cache.specs.declared.working_within.SetWithinError.TheVariants as set_error
use Rattle.mc_shard.specs.Conditions.{SetsIfWithin}
use Rattle.mc_items.specs.declared.within.SetWithinError.TheVariants as items
use Rattle.mc_cache.proofs.Classes.{lacks_in}
use Rattle.mc_cache.proofs.Rests.{acted_again, rests_after}
use Rattle.mc_cache.proofs.cache.Worker.set_if_within.Goals as goal

pub returns-in-Ok-clause-rests : goal.returns-in-Ok-clause-rests
returns-in-Ok-clause-rests c = rests_after c.args.cache.now.arenas.items c.args.self.now.hands.items c.in-Some.at.shard c.index-arena.result.now c.set_if_within.new.hand c.in-Some.ensures.in_range c.index-arena.ensures c.set_if_within.ensures.idle c.requires

pub returns-in-Err-Refused-clause-rests : goal.returns-in-Err-Refused-clause-rests
returns-in-Err-Refused-clause-rests c = rests_after c.args.cache.now.arenas.items c.args.self.now.hands.items c.in-Some.at.shard c.index-arena.result.now c.set_if_within.new.hand c.in-Some.ensures.in_range c.index-arena.ensures c.set_if_within.ensures.idle c.requires

pub returns-in-Err-Held-clause-rests : goal.returns-in-Err-Held-clause-rests
returns-in-Err-Held-clause-rests c = rests_after c.args.cache.now.arenas.items c.args.self.now.hands.items c.in-Some.at.shard c.index-arena.result.now c.set_if_within.new.hand c.in-Some.ensures.in_range c.index-arena.ensures c.set_if_within.ensures.idle c.requires

pub returns-in-Ok-clause-acts : goal.returns-in-Ok-clause-acts
returns-in-Ok-clause-acts c = λ is_key. acted_again c.args.cache.now c.args.key.now c.args.self.now.hands.items c.in-Some.at c.index-arena.result.now c.index_mut-hand.result.now c.recall.new.hand c.set_if_within.new.hand (λ (hash : ℕ). SetsValueIfWithin c.args.tries hash c.args.key.now c.args.value.now c.args.when (Ok c.in-Ok.outcome)) c.requires c.in-Some.ensures.hash c.in-Some.ensures.shard c.in-Some.ensures.in_range c.index-arena.ensures c.index_mut-hand.ensures.value c.recall.ensures.same c.recall.ensures.number
    (record { number = c.set_if_within.ensures.number; returned = Ok c.in-Ok.outcome; result_is = refl; sets = c.in-Ok.ensures.sets })

pub returns-in-Err-Refused-clause-acts : goal.returns-in-Err-Refused-clause-acts
returns-in-Err-Refused-clause-acts c = λ is_key. acted_again c.args.cache.now c.args.key.now c.args.self.now.hands.items c.in-Some.at c.index-arena.result.now c.index_mut-hand.result.now c.recall.new.hand c.set_if_within.new.hand (λ (hash : ℕ). SetsValueIfWithin c.args.tries hash c.args.key.now c.args.value.now c.args.when (Err (set_error.Item c.in-Err-Refused.error))) c.requires c.in-Some.ensures.hash c.in-Some.ensures.shard c.in-Some.ensures.in_range c.index-arena.ensures c.index_mut-hand.ensures.value c.recall.ensures.same c.recall.ensures.number
    (record {
      number = c.set_if_within.ensures.number;
      returned = Err (items.Refused c.in-Err-Refused.error);
      result_is = refl;
      sets = subst (λ (e : SetWithinError). SetsIfWithin (setup_of c.index-arena.result.now) c.args.tries c.in-Some.at.hash c.args.key.now c.args.value.now c.args.when (Err e) c.recall.new.hand c.set_if_within.new.hand) c.in-Err-Refused.field-0-is c.in-Err-Refused.ensures.sets;
    })

pub returns-in-Err-Held-clause-acts : goal.returns-in-Err-Held-clause-acts
returns-in-Err-Held-clause-acts c = λ is_key. acted_again c.args.cache.now c.args.key.now c.args.self.now.hands.items c.in-Some.at c.index-arena.result.now c.index_mut-hand.result.now c.recall.new.hand c.set_if_within.new.hand (λ (hash : ℕ). SetsValueIfWithin c.args.tries hash c.args.key.now c.args.value.now c.args.when (Err set_error.Held)) c.requires c.in-Some.ensures.hash c.in-Some.ensures.shard c.in-Some.ensures.in_range c.index-arena.ensures c.index_mut-hand.ensures.value c.recall.ensures.same c.recall.ensures.number
    (record {
      number = c.set_if_within.ensures.number;
      returned = Err items.Held;
      result_is = refl;
      sets = subst (λ (e : SetWithinError). SetsIfWithin (setup_of c.index-arena.result.now) c.args.tries c.in-Some.at.hash c.args.key.now c.args.value.now c.args.when (Err e) c.recall.new.hand c.set_if_within.new.hand) c.in-Err-Held.field-0-is c.in-Err-Held.ensures.sets;
    })

pub returns-in-Err-Refused-clause-too_large : goal.returns-in-Err-Refused-clause-too_large
returns-in-Err-Refused-clause-too_large c = λ is. let same : c.in-Err-Refused.error ≡ TooLarge = cc in lacks_in c.args.cache.now c.index-arena.result.now c.in-Some.at.shard c.in-Some.ensures.in_range c.index-arena.ensures (length c.args.key.now) (length c.args.value.now) (c.in-Err-Refused.ensures.too_large (ap Err (c.in-Err-Refused.field-0-is ∙ ap items.Refused same)))
