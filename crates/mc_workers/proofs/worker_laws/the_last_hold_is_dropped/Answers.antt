use Rattle.mc_workers.proofs.LastKept.{last_of_three}
use Rattle.mc_workers.proofs.worker_laws.the_last_hold_is_dropped.Goals as goal

pub returns : goal.returns
returns c = last_of_three
