use Rattle.std.proofs.Common.{◌∙◌, subst, sym}
use Rattle.mc_cache.specs.declared.cache.Worker.{Worker}
use Rattle.mc_cache.specs.Belonging.{GivesValueOf}
use Rattle.mc_stats.specs.Counting.{counts_in_worker, worker_in}
use Rattle.example_calls.proofs.TwoGets.{hits_both, hits_most, two_counted}
use Rattle.example_calls.proofs.cache.counted.get_both.Goals as goal

pub returns-clause-most : goal.returns-clause-most
returns-clause-most g c =
    hits_most c.get-first.result c.get-second.result c.into_parts-worker.result.1
    (two_counted c.get-first.result c.get-second.result (counts_in_worker c.new-counting.result) (counts_in_worker c.get-first.new.self) c.into_parts-worker.result.1 c.new-counting.ensures.none c.get-first.ensures.counts (c.into_parts-worker.ensures.counts ∙ c.get-second.ensures.counts))

pub returns-clause-both : goal.returns-clause-both
returns-clause-both g c = λ two.
    let counted = two_counted c.get-first.result c.get-second.result (counts_in_worker c.new-counting.result) (counts_in_worker c.get-first.new.self) c.into_parts-worker.result.1 c.new-counting.ensures.none c.get-first.ensures.counts (c.into_parts-worker.ensures.counts ∙ c.get-second.ensures.counts) in
    let hit = hits_both c.get-first.result c.get-second.result c.into_parts-worker.result.1 counted two in
    let middle = c.get-first.new.into.items in
    let between = worker_in c.get-first.new.self in
    record {
      middle = middle;
      between = between;
      gives_first = subst (λ (w : Worker). GivesValueOf c.args.cache.now c.args.first.now c.args.into.now.items middle w between) c.new-counting.ensures.worker (c.get-first.ensures.value hit.0);
      gives_second = subst (λ (w : Worker). GivesValueOf c.args.cache.now c.args.second.now middle c.get-second.new.into.items between w) (sym c.into_parts-worker.ensures.worker) (c.get-second.ensures.value hit.1);
    }
