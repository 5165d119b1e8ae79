use Rattle.std.proofs.Common.{ap, ◌∙◌}
use Rattle.mc_pages.specs.SlabState.{totals_of}
use Rattle.mc_replay.specs.Written.{moving_text, totals_line}
use Rattle.mc_replay.proofs.Ranges.{ends_with}
use Rattle.mc_replay.proofs.write.slabs.moves.Goals as goal

pub returns : goal.returns
returns c =
    let slabs = c.args.slabs.now.state in
    ends_with _ _ _ _ _ _ _ _ c.in_ok-moving.ensures (ap moving_text c.moving.ensures.moving) c.totals-2.ensures
    (ap (λ t. totals_line t c.automove.result) c.totals.ensures.totals ∙ ap (totals_line (totals_of slabs)) c.automove.ensures.mode)
