use Rattle.std.proofs.lemmas.Result.{err_from_is_err_and}
use Rattle.mc_workers.proofs.threads.move_alone.Goals as goal

-- the mover was stopped
pub returns-in_err-move_lines-clause-stopped : goal.returns-in_err-move_lines-clause-stopped
returns-in_err-move_lines-clause-stopped g c =
    let p = err_from_is_err_and c.from_residual.result c.from_residual.ensures.1 in
    λ is. c.in_err-move_lines.ensures.stopped (cc (p.1, p.2, is))
