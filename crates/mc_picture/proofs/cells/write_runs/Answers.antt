use Rattle.std.proofs.Common.{refl}
use Rattle.mc_picture.specs.Cells.{run_text}
use Rattle.mc_picture.proofs.Ranges.{written_next}
use Rattle.mc_picture.proofs.cells.write_runs.Goals as goal

pub loop-place-preserved : goal.loop-place-preserved
loop-place-preserved c =
    written_next (run_text c.args.owners.now c.args.y) c.loop-place.place _ _ _ _ c.loop-place.invariant c.in_ok-write_run.ensures.run refl
