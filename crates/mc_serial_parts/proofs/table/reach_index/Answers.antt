use Rattle.std.proofs.Common.{◌++◌, ◌∷◌, [], ◌∙◌, ap, List, Option}
use Rattle.mc_serial_spec.specs.Item.{Item}
use Rattle.mc_serial_parts.specs.ItemsByPlace.{items_in}
use Rattle.mc_serial_parts.proofs.ItemPlaces.{one_place_more}
use Rattle.mc_serial_parts.proofs.table.reach_index.Goals as goal

pub loop-alloc-preserved : goal.loop-alloc-preserved
loop-alloc-preserved c = λ page later.
    ap (λ (places : List (Option Item)). items_in page 0 places later)
    (c.in_ok-push.ensures.items ∙ ap (λ (place : Option Item). c.loop-alloc.places.items ++ place ∷ []) c.empty.ensures.empty)
    ∙ one_place_more c.loop-alloc.places.items page later
    ∙ c.loop-alloc.invariant page later
