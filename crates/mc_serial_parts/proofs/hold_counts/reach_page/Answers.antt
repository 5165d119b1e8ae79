use Rattle.std.proofs.Common.{◌∙◌, ap, List, ℕ, Vec, Global}
use Rattle.mc_serial_parts.specs.CountsByPlace.{count_at, counts_by_page}
use Rattle.mc_serial_parts.proofs.CountPlaces.{page_pushed}
use Rattle.mc_serial_parts.proofs.hold_counts.reach_page.Goals as goal

pub loop-alloc-preserved : goal.loop-alloc-preserved
loop-alloc-preserved c = λ chunk.
    ap (λ (pages : List (Vec ℕ Global)). count_at (counts_by_page pages) chunk) c.in_ok-push.ensures.items
    ∙ page_pushed c.loop-alloc.pages.items c.new.result c.new.ensures.items chunk
    ∙ c.loop-alloc.invariant chunk
