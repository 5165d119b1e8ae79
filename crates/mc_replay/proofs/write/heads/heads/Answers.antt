use Rattle.std.proofs.Common.{refl}
use Rattle.mc_replay.specs.Written.{page_headers_text}
use Rattle.mc_replay.proofs.Ranges.{written_next}
use Rattle.mc_replay.proofs.write.heads.heads.Goals as goal

pub loop-page-preserved : goal.loop-page-preserved
loop-page-preserved c = written_next (page_headers_text c.args.state.now c.per_page-most.result) c.loop-page.page _ _ _ _ c.loop-page.invariant c.in_ok-page_heads.ensures refl
