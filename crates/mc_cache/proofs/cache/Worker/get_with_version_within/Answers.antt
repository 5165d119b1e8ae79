use Rattle.std.proofs.Common.{ℕ, Err, None, Ok, Some, ap}
use Rattle.mc_words.specs.hand.Arenas.{setup_of}
use Rattle.mc_cache.specs.Versions.{GetsVersionWithin}
use Rattle.mc_cache.specs.declared.working.TryGetError.TheVariants as try_error
use Rattle.mc_shard.specs.Conditions.{ReturnsVersion}
use Rattle.mc_cache.proofs.Acts.{same_ok}
use Rattle.mc_cache.proofs.Rests.{acted_again, rests_after, some_of}
use Rattle.mc_cache.proofs.cache.Worker.get_with_version_within.Goals as goal

pub returns-in-Ok-clause-rests : goal.returns-in-Ok-clause-rests
returns-in-Ok-clause-rests c = rests_after c.args.cache.now.arenas.items c.args.self.now.hands.items c.in-Some.at.shard c.index-arena.result.now c.get_with_version_within.new.hand c.in-Some.ensures.in_range c.index-arena.ensures c.get_with_version_within.ensures.idle c.requires

pub returns-in-Ok-clause-acts : goal.returns-in-Ok-clause-acts
returns-in-Ok-clause-acts c = λ is_key. acted_again c.args.cache.now c.args.key.now c.args.self.now.hands.items c.in-Some.at c.index-arena.result.now c.index_mut-hand.result.now c.recall.new.hand c.get_with_version_within.new.hand (λ (hash : ℕ). GetsVersionWithin c.args.tries hash c.args.key.now c.args.into.now.items c.get_with_version_within.new.into.items (Ok c.in-Ok.found)) c.requires c.in-Some.ensures.hash c.in-Some.ensures.shard c.in-Some.ensures.in_range c.index-arena.ensures c.index_mut-hand.ensures.value c.recall.ensures.same c.recall.ensures.number
    (record {
      value = λ version is. some_of (λ (version : ℕ). ReturnsVersion (setup_of c.index-arena.result.now) c.in-Some.at.hash c.args.key.now version c.recall.new.hand c.args.into.now.items c.get_with_version_within.new.into.items) c.in-Ok.found version (same_ok c.in-Ok.found (Some version) is) c.in-Ok.ensures.value;
      none = λ is. c.in-Ok.ensures.other (ap Ok (same_ok c.in-Ok.found None is));
      held = λ is. absurd (cc);
      full = λ is. absurd (cc);
      calls = (c.get_with_version_within.ensures.number, c.get_with_version_within.ensures.calls);
      stores_nothing = c.get_with_version_within.ensures.stores_nothing;
      slabs = c.get_with_version_within.ensures.slabs;
    })

pub returns-in-Err-NoMemory-clause-rests : goal.returns-in-Err-NoMemory-clause-rests
returns-in-Err-NoMemory-clause-rests c = rests_after c.args.cache.now.arenas.items c.args.self.now.hands.items c.in-Some.at.shard c.index-arena.result.now c.get_with_version_within.new.hand c.in-Some.ensures.in_range c.index-arena.ensures c.get_with_version_within.ensures.idle c.requires

pub returns-in-Err-NoMemory-clause-acts : goal.returns-in-Err-NoMemory-clause-acts
returns-in-Err-NoMemory-clause-acts c = λ is_key. acted_again c.args.cache.now c.args.key.now c.args.self.now.hands.items c.in-Some.at c.index-arena.result.now c.index_mut-hand.result.now c.recall.new.hand c.get_with_version_within.new.hand (λ (hash : ℕ). GetsVersionWithin c.args.tries hash c.args.key.now c.args.into.now.items c.get_with_version_within.new.into.items (Err (try_error.NoMemory c.in-Err-NoMemory.refused))) c.requires c.in-Some.ensures.hash c.in-Some.ensures.shard c.in-Some.ensures.in_range c.index-arena.ensures c.index_mut-hand.ensures.value c.recall.ensures.same c.recall.ensures.number
    (record {
      value = λ version is. absurd (cc);
      none = λ is. absurd (cc);
      held = λ is. absurd (cc);
      full = λ is. c.in-Err-NoMemory.ensures.full (ap Err c.in-Err-NoMemory.field-0-is);
      calls = (c.get_with_version_within.ensures.number, c.get_with_version_within.ensures.calls);
      stores_nothing = c.get_with_version_within.ensures.stores_nothing;
      slabs = c.get_with_version_within.ensures.slabs;
    })

pub returns-in-Err-Held-clause-rests : goal.returns-in-Err-Held-clause-rests
returns-in-Err-Held-clause-rests c = rests_after c.args.cache.now.arenas.items c.args.self.now.hands.items c.in-Some.at.shard c.index-arena.result.now c.get_with_version_within.new.hand c.in-Some.ensures.in_range c.index-arena.ensures c.get_with_version_within.ensures.idle c.requires

pub returns-in-Err-Held-clause-acts : goal.returns-in-Err-Held-clause-acts
returns-in-Err-Held-clause-acts c = λ is_key. acted_again c.args.cache.now c.args.key.now c.args.self.now.hands.items c.in-Some.at c.index-arena.result.now c.index_mut-hand.result.now c.recall.new.hand c.get_with_version_within.new.hand (λ (hash : ℕ). GetsVersionWithin c.args.tries hash c.args.key.now c.args.into.now.items c.get_with_version_within.new.into.items (Err try_error.Held)) c.requires c.in-Some.ensures.hash c.in-Some.ensures.shard c.in-Some.ensures.in_range c.index-arena.ensures c.index_mut-hand.ensures.value c.recall.ensures.same c.recall.ensures.number
    (record {
      value = λ version is. absurd (cc);
      none = λ is. absurd (cc);
      held = λ is. c.in-Err-Held.ensures.held (ap Err c.in-Err-Held.field-0-is);
      full = λ is. absurd (cc);
      calls = (c.get_with_version_within.ensures.number, c.get_with_version_within.ensures.calls);
      stores_nothing = c.get_with_version_within.ensures.stores_nothing;
      slabs = c.get_with_version_within.ensures.slabs;
    })

pub returns-in-Ok-clause-kept : goal.returns-in-Ok-clause-kept
returns-in-Ok-clause-kept c = λ is. c.in-Ok.ensures.kept (ap Ok (same_ok c.in-Ok.found None is))
