use Rattle.std.proofs.Common.{◌≡◌, ◌++◌, drop, string_bytes}
use Rattle.mc_picture.specs.Moves.{workers_text}
use Rattle.mc_picture.proofs.hang.write_workers.Given as goal

-- the workers so far, and those that are left
abbrev pub invariant-loop-worker : goal.invariant-loop-worker
invariant-loop-worker l = string_bytes l.text ++ workers_text (drop l.worker-index l.workers) ≡ string_bytes l.initial.text ++ workers_text l.workers
