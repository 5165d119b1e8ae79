use Rattle.std.proofs.Common.{◌∙◌, ap, List, Option, Vec, Global}
use Rattle.mc_serial_spec.specs.Item.{Item}
use Rattle.mc_serial_parts.specs.ItemsByPlace.{items_from, table_places}
use Rattle.mc_serial_parts.proofs.ItemPlaces.{page_pushed}
use Rattle.mc_serial_parts.proofs.table.reach_page.Goals as goal

pub loop-alloc-preserved : goal.loop-alloc-preserved
loop-alloc-preserved c =
    ap (λ (pages : List (Vec (Option Item) Global)). items_from 0 (table_places pages)) c.in_ok-push.ensures.items
    ∙ page_pushed c.loop-alloc.pages.items c.new.result c.new.ensures.items
    ∙ c.loop-alloc.invariant
