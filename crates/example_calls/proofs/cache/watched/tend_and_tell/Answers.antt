use Rattle.mc_cache.specs.declared.stats.CacheStats.{CacheStats}
use Rattle.mc_cache.specs.Stats.{CountsCache}
use Rattle.example_calls.specs.Cached.{TendsAndTells}
use Rattle.example_calls.proofs.Outcomes.{if_ok}
use Rattle.example_calls.proofs.cache.watched.tend_and_tell.Goals as goal

pub returns-clause-tells : goal.returns-clause-tells
returns-clause-tells g c =
    if_ok c.stats.result (λ (stats : CacheStats). CountsCache c.args.cache.now stats c.tend.new.self c.stats.new.self) (TendsAndTells c.args.cache.now c.args.tender.now c.stats.new.self)
    (λ stats counts. record {
      set = c.set_automove.new.self;
      modes = c.set_automove.ensures.sets;
      tended = c.tend.new.self;
      done = c.in_ok-_done._done;
      tends = c.in_ok-_done.ensures.tends;
      counts = counts;
    })
    c.stats.ensures.counts
