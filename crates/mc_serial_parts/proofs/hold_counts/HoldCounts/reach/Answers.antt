use Rattle.std.proofs.Common.{◌∙◌, ap, List, ℕ}
use Rattle.mc_serial_parts.specs.CountsByPlace.{count_at}
use Rattle.mc_serial_parts.proofs.CountPlaces.{alike_written, reached}
use Rattle.mc_serial_parts.proofs.hold_counts.HoldCounts.reach.Goals as goal

pub returns-in_err-reach_index-clause-same : goal.returns-in_err-reach_index-clause-same
returns-in_err-reach_index-clause-same c = λ chunk.
    alike_written c.reach_page.new.pages.items c.args.chunk.page c.index_mut.result.now c.reach_index.new.counts c.in_ok-reach_page.ensures.there c.index_mut.ensures.value
    c.in_err-reach_index.ensures.same chunk
    ∙ c.in_ok-reach_page.ensures.same chunk
    ∙ ap (λ (rows : List (List ℕ)). count_at rows chunk) c.self.view_is

pub returns-clause-there : goal.returns-clause-there
returns-clause-there c =
    reached c.reach_page.new.pages.items c.args.chunk.page c.index_mut.result.now c.reach_index.new.counts c.in_ok-reach_page.ensures.there c.index_mut.ensures.value
    c.args.chunk.index c.in_ok-reach_index.ensures.there

pub returns-clause-same : goal.returns-clause-same
returns-clause-same c = λ chunk.
    alike_written c.reach_page.new.pages.items c.args.chunk.page c.index_mut.result.now c.reach_index.new.counts c.in_ok-reach_page.ensures.there c.index_mut.ensures.value
    c.in_ok-reach_index.ensures.same chunk
    ∙ c.in_ok-reach_page.ensures.same chunk
    ∙ ap (λ (rows : List (List ℕ)). count_at rows chunk) c.self.view_is
