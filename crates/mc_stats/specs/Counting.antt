-- What a worker that counts its calls has.
use Rattle.mc_cache.specs.declared.cache.Worker.{Worker}
use Rattle.mc_stats.specs.declared.counts.Counts.{Counts}
use Rattle.mc_stats.specs.declared.worker.CountingWorker.{CountingWorker}

-- the worker whose calls are counted
abbrev pub worker_in : CountingWorker → Worker
worker_in counting = counting.worker

-- the counts of its calls so far
abbrev pub counts_in_worker : CountingWorker → Counts
counts_in_worker counting = counting.counts
