use Rattle.std.proofs.Common.{ℕ, Err, Ok, ap}
use Rattle.mc_shard.specs.declared.deleting_version.Deletion.TheVariants.{Deleted, Exists, Missing}
use Rattle.mc_cache.specs.Deleting.{DeletesVersionWithin}
use Rattle.mc_cache.specs.declared.working_within.WithinError.TheVariants as within_error
use Rattle.mc_cache.proofs.Acts.{same_ok}
use Rattle.mc_cache.proofs.Rests.{acted_again, rests_after}
use Rattle.mc_cache.proofs.cache.Worker.delete_version_within.Goals as goal

pub returns-in-Ok-clause-rests : goal.returns-in-Ok-clause-rests
returns-in-Ok-clause-rests c = rests_after c.args.cache.now.arenas.items c.args.self.now.hands.items c.in-Some.at.shard c.index-arena.result.now c.delete_version_within.new.hand c.in-Some.ensures.in_range c.index-arena.ensures c.delete_version_within.ensures.idle c.requires

pub returns-in-Ok-clause-acts : goal.returns-in-Ok-clause-acts
returns-in-Ok-clause-acts c = λ is_key. acted_again c.args.cache.now c.args.key.now c.args.self.now.hands.items c.in-Some.at c.index-arena.result.now c.index_mut-hand.result.now c.recall.new.hand c.delete_version_within.new.hand (λ (hash : ℕ). DeletesVersionWithin c.args.tries hash c.args.key.now c.args.version (Ok c.in-Ok.deletion)) c.requires
    c.in-Some.ensures.hash c.in-Some.ensures.shard c.in-Some.ensures.in_range c.index-arena.ensures c.index_mut-hand.ensures.value c.recall.ensures.same c.recall.ensures.number (record {
      deletes = λ is. c.in-Ok.ensures.deletes (ap Ok (same_ok c.in-Ok.deletion Deleted is));
      exists = λ is. c.in-Ok.ensures.exists (ap Ok (same_ok c.in-Ok.deletion Exists is));
      missing = λ is. c.in-Ok.ensures.missing (ap Ok (same_ok c.in-Ok.deletion Missing is));
      held = λ is. absurd (cc);
      full = λ is. absurd (cc);
      calls = λ is. (c.delete_version_within.ensures.number, c.in-Ok.ensures.calls (ap Ok (same_ok c.in-Ok.deletion Deleted is)));
      looks = λ not. (c.delete_version_within.ensures.number, c.in-Ok.ensures.looks (λ is. not (ap Ok (same_ok c.in-Ok.deletion Deleted is))));
      stores_nothing = c.delete_version_within.ensures.stores_nothing;
      slabs = c.delete_version_within.ensures.slabs;
    })

pub returns-in-Err-NoMemory-clause-rests : goal.returns-in-Err-NoMemory-clause-rests
returns-in-Err-NoMemory-clause-rests c = rests_after c.args.cache.now.arenas.items c.args.self.now.hands.items c.in-Some.at.shard c.index-arena.result.now c.delete_version_within.new.hand c.in-Some.ensures.in_range c.index-arena.ensures c.delete_version_within.ensures.idle c.requires

pub returns-in-Err-NoMemory-clause-acts : goal.returns-in-Err-NoMemory-clause-acts
returns-in-Err-NoMemory-clause-acts c = λ is_key. acted_again c.args.cache.now c.args.key.now c.args.self.now.hands.items c.in-Some.at c.index-arena.result.now c.index_mut-hand.result.now c.recall.new.hand c.delete_version_within.new.hand (λ (hash : ℕ). DeletesVersionWithin c.args.tries hash c.args.key.now c.args.version (Err (within_error.NoMemory c.in-Err-NoMemory.refused))) c.requires
    c.in-Some.ensures.hash c.in-Some.ensures.shard c.in-Some.ensures.in_range c.index-arena.ensures c.index_mut-hand.ensures.value c.recall.ensures.same c.recall.ensures.number (record {
      deletes = λ is. absurd (cc);
      exists = λ is. absurd (cc);
      missing = λ is. absurd (cc);
      held = λ is. absurd (cc);
      full = λ is. c.in-Err-NoMemory.ensures.full (ap Err c.in-Err-NoMemory.field-0-is);
      calls = λ is. absurd (cc);
      looks = λ not. (c.delete_version_within.ensures.number, c.in-Err-NoMemory.ensures.looks (λ is. cc));
      stores_nothing = c.delete_version_within.ensures.stores_nothing;
      slabs = c.delete_version_within.ensures.slabs;
    })

pub returns-in-Err-Held-clause-rests : goal.returns-in-Err-Held-clause-rests
returns-in-Err-Held-clause-rests c = rests_after c.args.cache.now.arenas.items c.args.self.now.hands.items c.in-Some.at.shard c.index-arena.result.now c.delete_version_within.new.hand c.in-Some.ensures.in_range c.index-arena.ensures c.delete_version_within.ensures.idle c.requires

pub returns-in-Err-Held-clause-acts : goal.returns-in-Err-Held-clause-acts
returns-in-Err-Held-clause-acts c = λ is_key. acted_again c.args.cache.now c.args.key.now c.args.self.now.hands.items c.in-Some.at c.index-arena.result.now c.index_mut-hand.result.now c.recall.new.hand c.delete_version_within.new.hand (λ (hash : ℕ). DeletesVersionWithin c.args.tries hash c.args.key.now c.args.version (Err within_error.Held)) c.requires
    c.in-Some.ensures.hash c.in-Some.ensures.shard c.in-Some.ensures.in_range c.index-arena.ensures c.index_mut-hand.ensures.value c.recall.ensures.same c.recall.ensures.number (record {
      deletes = λ is. absurd (cc);
      exists = λ is. absurd (cc);
      missing = λ is. absurd (cc);
      held = λ is. c.in-Err-Held.ensures.held (ap Err c.in-Err-Held.field-0-is);
      full = λ is. absurd (cc);
      calls = λ is. absurd (cc);
      looks = λ not. (c.delete_version_within.ensures.number, c.in-Err-Held.ensures.looks (λ is. cc));
      stores_nothing = c.delete_version_within.ensures.stores_nothing;
      slabs = c.delete_version_within.ensures.slabs;
    })
