-- What a counting worker is once its worker was lent.
use Rattle.std.specs.Borrow.{Fml, Lends, MutBor}
use Rattle.mc_cache.specs.declared.cache.Worker.{Worker}
use Rattle.mc_cache.specs.contracts.cache.Worker as worker
use Rattle.mc_stats.specs.declared.worker.CountingWorker.{CountingWorker}
use Rattle.mc_stats.specs.contracts.worker.CountingWorker as counting

-- the counting worker with another worker beside its counts
abbrev pub with_worker : CountingWorker → Worker → CountingWorker
with_worker c w = record c { worker = w }

-- once the worker is given back, the counting worker has it as it is then, and the counts that it had
abbrev pub LendsWorker : MutBor CountingWorker → MutBor Worker → Fml
LendsWorker c w = Lends counting.the_row worker.the_row c w (with_worker c.now)
