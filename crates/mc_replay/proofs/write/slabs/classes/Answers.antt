use Rattle.std.proofs.Common.{◌+◌, refl}
use Rattle.mc_pages.specs.SlabState.{class_at}
use Rattle.mc_replay.specs.Written.{class_state_line}
use Rattle.mc_replay.proofs.Ranges.{written_next}
use Rattle.mc_replay.proofs.write.slabs.classes.Goals as goal

pub loop-place-preserved : goal.loop-place-preserved
loop-place-preserved c =
    written_next (λ place. class_state_line (place + 1) (class_at c.args.slabs.now.state (place + 1))) c.loop-place.place _ _ _ _ c.loop-place.invariant c.in_ok-class.ensures refl
