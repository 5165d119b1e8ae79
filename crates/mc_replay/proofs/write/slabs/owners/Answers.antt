use Rattle.std.proofs.Common.{ap}
use Rattle.mc_pages.specs.Ledger.{owner_at}
use Rattle.mc_replay.specs.Written.{owner_line}
use Rattle.mc_replay.proofs.Ranges.{written_next}
use Rattle.mc_replay.proofs.write.slabs.owners.Goals as goal

pub loop-page-preserved : goal.loop-page-preserved
loop-page-preserved c =
    written_next (λ page. owner_line page (owner_at c.args.slabs.now.state.owners page)) c.loop-page.page _ _ _ _ c.loop-page.invariant c.in_ok-owner.ensures
    (ap (owner_line c.loop-page.page) c.owner.ensures.owner)
