use Rattle.std.proofs.Common.{◌∙◌}
use Rattle.mc_serial_parts.proofs.ItemPlaces.{place_written, alike_written}
use Rattle.mc_serial_parts.proofs.table.reach.Goals as goal

pub returns-clause-there : goal.returns-clause-there
returns-clause-there c =
    place_written c.reach_page.new.pages.items c.args.chunk.page c.reach_index.new.places c.in_ok-reach_page.ensures.there c.args.chunk.index c.in_ok-reach_index.ensures.there

pub returns-clause-same : goal.returns-clause-same
returns-clause-same c =
    alike_written c.reach_page.new.pages.items c.args.chunk.page c.reach_index.new.places c.in_ok-reach_page.ensures.there
    c.index_mut.result.now c.index_mut.ensures.value c.in_ok-reach_index.ensures.same
    ∙ c.in_ok-reach_page.ensures.same

pub returns-in_err-reach_index-clause-same : goal.returns-in_err-reach_index-clause-same
returns-in_err-reach_index-clause-same c =
    alike_written c.reach_page.new.pages.items c.args.chunk.page c.reach_index.new.places c.in_ok-reach_page.ensures.there
    c.index_mut.result.now c.index_mut.ensures.value c.in_err-reach_index.ensures.same
    ∙ c.in_ok-reach_page.ensures.same
