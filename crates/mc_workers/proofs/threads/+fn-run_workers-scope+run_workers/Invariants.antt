use Rattle.std.proofs.Common.{vec_len}
use Rattle.mc_workers.proofs.threads.+fn-run_workers-scope+run_workers.Given as goal

abbrev pub decreases-scope : goal.decreases-scope
decreases-scope g l = vec_len l.hands

abbrev pub decreases-run_workers : goal.decreases-run_workers
decreases-run_workers g l = vec_len l.hands
