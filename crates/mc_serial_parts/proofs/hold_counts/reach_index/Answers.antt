use Rattle.std.proofs.Common.{◌∙◌, ap, List, ℕ, slice_index_or}
use Rattle.mc_serial_parts.proofs.CountPlaces.{push_zero}
use Rattle.mc_serial_parts.proofs.hold_counts.reach_index.Goals as goal

pub loop-counts-preserved : goal.loop-counts-preserved
loop-counts-preserved c = λ at.
    ap (λ (counts : List ℕ). slice_index_or counts at 0) c.in_ok-push.ensures.items ∙ push_zero c.loop-counts.counts.items at ∙ c.loop-counts.invariant at
