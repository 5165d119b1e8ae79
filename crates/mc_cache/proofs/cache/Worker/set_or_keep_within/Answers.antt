use Rattle.std.proofs.Common.{◌≡◌, ◌∙◌, ℕ, Err, Ok, ap, length, refl, subst, sym}
use Rattle.mc_items.specs.declared.setting.SetError.{SetError}
use Rattle.mc_items.specs.declared.setting.SetError.TheVariants.{TooLarge}
use Rattle.mc_packing.specs.Packing.{packed_item}
use Rattle.mc_words.specs.hand.Observers.{hand_number}
use Rattle.mc_items.specs.declared.within.SetWithinError.TheVariants as items
use Rattle.mc_cache.specs.WorkingWithin.{SetsWithin}
use Rattle.mc_cache.specs.declared.working_within.SetWithinError.TheVariants as set_error
use Rattle.mc_shard.specs.Within.{RefusesBytesWithin}
use Rattle.mc_items.specs.declared.within.SetWithinError.{SetWithinError}
use Rattle.mc_cache.proofs.Acts.{is_key, no_none, same_error}
use Rattle.mc_cache.proofs.Classes.{lacks_in, lacks_there}
use Rattle.mc_cache.proofs.Rests.{acted_again, rests_after}
use Rattle.mc_cache.proofs.cache.Worker.set_or_keep_within.Goals as goal

pub returns-in-Ok-clause-rests : goal.returns-in-Ok-clause-rests
returns-in-Ok-clause-rests c = rests_after c.args.cache.now.arenas.items c.args.self.now.hands.items c.in-Some.at.shard c.index-arena.result.now c.set_within.new.hand c.in-Some.ensures.in_range c.index-arena.ensures c.set_within.ensures.idle c.requires

pub returns-in-Ok-clause-same : goal.returns-in-Ok-clause-same
returns-in-Ok-clause-same c = λ no. absurd (no_none c.in-Some.at (c.in-Some.ensures.key.1 no))

pub returns-in-Ok-clause-key : goal.returns-in-Ok-clause-key
returns-in-Ok-clause-key c = (λ is. absurd (cc), λ no. absurd (no_none c.in-Some.at (c.in-Some.ensures.key.1 no)))

pub returns-in-Ok-clause-acts : goal.returns-in-Ok-clause-acts
returns-in-Ok-clause-acts c = λ is_key. acted_again c.args.cache.now c.args.key.now c.args.self.now.hands.items c.in-Some.at c.index-arena.result.now c.index_mut-hand.result.now c.recall.new.hand c.set_within.new.hand (λ (hash : ℕ). SetsWithin c.args.tries hash c.args.key.now c.args.value.now (Ok tt)) c.requires
    c.in-Some.ensures.hash c.in-Some.ensures.shard c.in-Some.ensures.in_range c.index-arena.ensures c.index_mut-hand.ensures.value c.recall.ensures.same c.recall.ensures.number (record {
      stores = λ is. (c.in-Ok._stamp, c.in-Ok.ensures.stores_words, c.in-Ok.ensures.sets, c.in-Ok.ensures.calls);
      refused = λ error is. absurd (cc);
      held = λ is. absurd (cc);
      evicts = λ isnt. absurd (isnt refl);
      stores_nothing = λ isnt. absurd (isnt refl);
      number = c.set_within.ensures.number;
    })

pub returns-in-Err-Refused-clause-rests : goal.returns-in-Err-Refused-clause-rests
returns-in-Err-Refused-clause-rests c = rests_after c.args.cache.now.arenas.items c.args.self.now.hands.items c.in-Some.at.shard c.index-arena.result.now c.set_within.new.hand c.in-Some.ensures.in_range c.index-arena.ensures c.set_within.ensures.idle c.requires

pub returns-in-Err-Refused-clause-same : goal.returns-in-Err-Refused-clause-same
returns-in-Err-Refused-clause-same c = λ no. absurd (no_none c.in-Some.at (c.in-Some.ensures.key.1 no))

pub returns-in-Err-Refused-clause-key : goal.returns-in-Err-Refused-clause-key
returns-in-Err-Refused-clause-key c = (λ is. absurd (cc), λ no. absurd (no_none c.in-Some.at (c.in-Some.ensures.key.1 no)))

pub returns-in-Err-Refused-clause-acts : goal.returns-in-Err-Refused-clause-acts
returns-in-Err-Refused-clause-acts c = λ is_key. acted_again c.args.cache.now c.args.key.now c.args.self.now.hands.items c.in-Some.at c.index-arena.result.now c.index_mut-hand.result.now c.recall.new.hand c.set_within.new.hand (λ (hash : ℕ). SetsWithin c.args.tries hash c.args.key.now c.args.value.now (Err (set_error.Item c.in-Err-Refused.error))) c.requires
    c.in-Some.ensures.hash c.in-Some.ensures.shard c.in-Some.ensures.in_range c.index-arena.ensures c.index_mut-hand.ensures.value c.recall.ensures.same c.recall.ensures.number (record {
      stores = λ is. absurd (cc);
      refused = λ error is. subst (λ (e : SetWithinError). RefusesBytesWithin (hand_number c.recall.new.hand) c.args.tries c.in-Some.at.hash (packed_item c.args.key.now c.args.value.now) e c.recall.new.hand c.set_within.new.hand) (let same : c.in-Err-Refused.error ≡ error = cc in c.in-Err-Refused.field-0-is ∙ ap items.Refused same) c.in-Err-Refused.ensures.refused;
      held = λ is. absurd (cc);
      evicts = λ isnt. c.in-Err-Refused.ensures.evicts;
      stores_nothing = λ isnt. c.in-Err-Refused.ensures.stores_nothing;
      number = c.set_within.ensures.number;
    })

pub returns-in-Err-Held-clause-rests : goal.returns-in-Err-Held-clause-rests
returns-in-Err-Held-clause-rests c = rests_after c.args.cache.now.arenas.items c.args.self.now.hands.items c.in-Some.at.shard c.index-arena.result.now c.set_within.new.hand c.in-Some.ensures.in_range c.index-arena.ensures c.set_within.ensures.idle c.requires

pub returns-in-Err-Held-clause-same : goal.returns-in-Err-Held-clause-same
returns-in-Err-Held-clause-same c = λ no. absurd (no_none c.in-Some.at (c.in-Some.ensures.key.1 no))

pub returns-in-Err-Held-clause-key : goal.returns-in-Err-Held-clause-key
returns-in-Err-Held-clause-key c = (λ is. absurd (cc), λ no. absurd (no_none c.in-Some.at (c.in-Some.ensures.key.1 no)))

pub returns-in-Err-Held-clause-acts : goal.returns-in-Err-Held-clause-acts
returns-in-Err-Held-clause-acts c = λ is_key. acted_again c.args.cache.now c.args.key.now c.args.self.now.hands.items c.in-Some.at c.index-arena.result.now c.index_mut-hand.result.now c.recall.new.hand c.set_within.new.hand (λ (hash : ℕ). SetsWithin c.args.tries hash c.args.key.now c.args.value.now (Err set_error.Held)) c.requires
    c.in-Some.ensures.hash c.in-Some.ensures.shard c.in-Some.ensures.in_range c.index-arena.ensures c.index_mut-hand.ensures.value c.recall.ensures.same c.recall.ensures.number (record {
      stores = λ is. absurd (cc);
      refused = λ error is. absurd (cc);
      held = λ is. subst (λ (e : SetWithinError). RefusesBytesWithin (hand_number c.recall.new.hand) c.args.tries c.in-Some.at.hash (packed_item c.args.key.now c.args.value.now) e c.recall.new.hand c.set_within.new.hand) c.in-Err-Held.field-0-is c.in-Err-Held.ensures.refused;
      evicts = λ isnt. c.in-Err-Held.ensures.evicts;
      stores_nothing = λ isnt. c.in-Err-Held.ensures.stores_nothing;
      number = c.set_within.ensures.number;
    })

pub returns-in-Ok-clause-too_large : goal.returns-in-Ok-clause-too_large
returns-in-Ok-clause-too_large c = (λ is. absurd (cc), λ both. let wrong = c.in-Ok.ensures.too_large.1 (lacks_there c.args.cache.now c.index-arena.result.now c.in-Some.at.shard c.in-Some.ensures.in_range c.index-arena.ensures (length c.args.key.now) (length c.args.value.now) both.1) in absurd (cc))

pub returns-in-Err-Refused-clause-too_large : goal.returns-in-Err-Refused-clause-too_large
returns-in-Err-Refused-clause-too_large c = (
  λ is.
      let same : c.in-Err-Refused.error ≡ TooLarge = cc in
      (is_key c.args.key.now (λ no. no_none c.in-Some.at (c.in-Some.ensures.key.1 no)), lacks_in c.args.cache.now c.index-arena.result.now c.in-Some.at.shard c.in-Some.ensures.in_range c.index-arena.ensures (length c.args.key.now) (length c.args.value.now) (c.in-Err-Refused.ensures.too_large.0 (ap Err (c.in-Err-Refused.field-0-is ∙ ap items.Refused same)))),
  λ both. let so = sym c.in-Err-Refused.field-0-is ∙ same_error c.in-Err-Refused.field-0 (items.Refused TooLarge) (c.in-Err-Refused.ensures.too_large.1 (lacks_there c.args.cache.now c.index-arena.result.now c.in-Some.at.shard c.in-Some.ensures.in_range c.index-arena.ensures (length c.args.key.now) (length c.args.value.now) both.1)) in
      let same : c.in-Err-Refused.error ≡ TooLarge = cc in ap (λ (e : SetError). Err (set_error.Item e)) same,
)

pub returns-in-Err-Held-clause-too_large : goal.returns-in-Err-Held-clause-too_large
returns-in-Err-Held-clause-too_large c = (
  λ is. absurd (cc),
  λ both. let wrong = sym c.in-Err-Held.field-0-is ∙ same_error c.in-Err-Held.field-0 (items.Refused TooLarge) (c.in-Err-Held.ensures.too_large.1 (lacks_there c.args.cache.now c.index-arena.result.now c.in-Some.at.shard c.in-Some.ensures.in_range c.index-arena.ensures (length c.args.key.now) (length c.args.value.now) both.1)) in absurd (cc),
)
