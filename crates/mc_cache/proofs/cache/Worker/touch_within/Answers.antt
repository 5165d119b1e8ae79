use Rattle.std.proofs.Common.{ℕ, Err, Ok, ap, false, true}
use Rattle.mc_cache.specs.WorkingWithin.{TouchesWithin}
use Rattle.mc_cache.specs.declared.working_within.WithinError.TheVariants as within_error
use Rattle.mc_cache.proofs.Acts.{same_ok}
use Rattle.mc_cache.proofs.Rests.{acted_again, rests_after}
use Rattle.mc_cache.proofs.cache.Worker.touch_within.Goals as goal

pub returns-in-Ok-clause-rests : goal.returns-in-Ok-clause-rests
returns-in-Ok-clause-rests c = rests_after c.args.cache.now.arenas.items c.args.self.now.hands.items c.in-Some.at.shard c.index-arena.result.now c.touch_within.new.hand c.in-Some.ensures.in_range c.index-arena.ensures c.touch_within.ensures.idle c.requires

pub returns-in-Ok-clause-acts : goal.returns-in-Ok-clause-acts
returns-in-Ok-clause-acts c = λ is_key. acted_again c.args.cache.now c.args.key.now c.args.self.now.hands.items c.in-Some.at c.index-arena.result.now c.index_mut-hand.result.now c.recall.new.hand c.touch_within.new.hand (λ (hash : ℕ). TouchesWithin c.args.tries hash c.args.key.now (Ok c.in-Ok.there)) c.requires
    c.in-Some.ensures.hash c.in-Some.ensures.shard c.in-Some.ensures.in_range c.index-arena.ensures c.index_mut-hand.ensures.value c.recall.ensures.same c.recall.ensures.number (record {
      touches = λ is. c.in-Ok.ensures.touches (ap Ok (same_ok c.in-Ok.there true is));
      none = λ is. c.in-Ok.ensures.none (ap Ok (same_ok c.in-Ok.there false is));
      held = λ is. absurd (cc);
      full = λ is. absurd (cc);
      once = λ is. c.in-Ok.ensures.once (ap Ok (same_ok c.in-Ok.there true is));
      slabs = λ isnt. c.in-Ok.ensures.slabs (λ is. isnt (ap Ok (same_ok c.in-Ok.there true is)));
      calls = (c.touch_within.ensures.number, c.touch_within.ensures.calls);
      stores_nothing = c.touch_within.ensures.stores_nothing;
    })

pub returns-in-Err-NoMemory-clause-rests : goal.returns-in-Err-NoMemory-clause-rests
returns-in-Err-NoMemory-clause-rests c = rests_after c.args.cache.now.arenas.items c.args.self.now.hands.items c.in-Some.at.shard c.index-arena.result.now c.touch_within.new.hand c.in-Some.ensures.in_range c.index-arena.ensures c.touch_within.ensures.idle c.requires

pub returns-in-Err-NoMemory-clause-acts : goal.returns-in-Err-NoMemory-clause-acts
returns-in-Err-NoMemory-clause-acts c = λ is_key. acted_again c.args.cache.now c.args.key.now c.args.self.now.hands.items c.in-Some.at c.index-arena.result.now c.index_mut-hand.result.now c.recall.new.hand c.touch_within.new.hand (λ (hash : ℕ). TouchesWithin c.args.tries hash c.args.key.now (Err (within_error.NoMemory c.in-Err-NoMemory.refused))) c.requires
    c.in-Some.ensures.hash c.in-Some.ensures.shard c.in-Some.ensures.in_range c.index-arena.ensures c.index_mut-hand.ensures.value c.recall.ensures.same c.recall.ensures.number (record {
      touches = λ is. absurd (cc);
      none = λ is. absurd (cc);
      held = λ is. absurd (cc);
      full = λ is. c.in-Err-NoMemory.ensures.full (ap Err c.in-Err-NoMemory.field-0-is);
      once = λ is. absurd (cc);
      slabs = λ isnt. c.in-Err-NoMemory.ensures.slabs (λ is. absurd (cc));
      calls = (c.touch_within.ensures.number, c.touch_within.ensures.calls);
      stores_nothing = c.touch_within.ensures.stores_nothing;
    })

pub returns-in-Err-Held-clause-rests : goal.returns-in-Err-Held-clause-rests
returns-in-Err-Held-clause-rests c = rests_after c.args.cache.now.arenas.items c.args.self.now.hands.items c.in-Some.at.shard c.index-arena.result.now c.touch_within.new.hand c.in-Some.ensures.in_range c.index-arena.ensures c.touch_within.ensures.idle c.requires

pub returns-in-Err-Held-clause-acts : goal.returns-in-Err-Held-clause-acts
returns-in-Err-Held-clause-acts c = λ is_key. acted_again c.args.cache.now c.args.key.now c.args.self.now.hands.items c.in-Some.at c.index-arena.result.now c.index_mut-hand.result.now c.recall.new.hand c.touch_within.new.hand (λ (hash : ℕ). TouchesWithin c.args.tries hash c.args.key.now (Err within_error.Held)) c.requires
    c.in-Some.ensures.hash c.in-Some.ensures.shard c.in-Some.ensures.in_range c.index-arena.ensures c.index_mut-hand.ensures.value c.recall.ensures.same c.recall.ensures.number (record {
      touches = λ is. absurd (cc);
      none = λ is. absurd (cc);
      held = λ is. c.in-Err-Held.ensures.held (ap Err c.in-Err-Held.field-0-is);
      full = λ is. absurd (cc);
      once = λ is. absurd (cc);
      slabs = λ isnt. c.in-Err-Held.ensures.slabs (λ is. absurd (cc));
      calls = (c.touch_within.ensures.number, c.touch_within.ensures.calls);
      stores_nothing = c.touch_within.ensures.stores_nothing;
    })
