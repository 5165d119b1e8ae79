use Rattle.std.proofs.Common.{ℕ, List, ◌++◌, codes, ap, append-nil}
use Rattle.mc_serial_spec.specs.Texts.{key_line}
use Rattle.mc_workers.proofs.worker_laws.replies_to_workers_fit.Goals as goal

pub returns-clause-records : goal.returns-clause-records
returns-clause-records c = ap (λ (t : List ℕ). key_line (codes "STORED") 7 ++ t) (append-nil (key_line (codes "NOT_FOUND") 8))
