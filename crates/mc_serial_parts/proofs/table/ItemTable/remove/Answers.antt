use Rattle.std.proofs.Common.{◌∙◌, ap, refl, None, Option}
use Rattle.std.specs.Option.{option_map}
use Rattle.std.specs.Vec.{with_item}
use Rattle.mc_serial_spec.specs.Item.{Item}
use Rattle.mc_serial_spec.specs.Items.{Items, item_in_chunk, without_item}
use Rattle.mc_serial_parts.specs.ItemsByPlace.{HasPlace, items_from, table_places}
use Rattle.mc_serial_parts.proofs.ItemPlaces.{none_there, none_goes, read_there, go_there}
use Rattle.mc_serial_parts.proofs.table.ItemTable.remove.Goals as goal

pub returns-then-not-has_place-clause-key : goal.returns-then-not-has_place-clause-key
returns-then-not-has_place-clause-key c =
    rw (← c.self.view_is, none_there (table_places c.self.inside.pages.items) c.args.chunk (rw (← c.deref.ensures.value) (c.has_place.ensures.no c.if-not-has_place.true))) refl

pub returns-then-not-has_place-clause-entries : goal.returns-then-not-has_place-clause-entries
returns-then-not-has_place-clause-entries c =
    rw (← c.self.view_is) (none_goes c.args.chunk (items_from 0 (table_places c.self.inside.pages.items))
    (none_there (table_places c.self.inside.pages.items) c.args.chunk (rw (← c.deref.ensures.value) (c.has_place.ensures.no c.if-not-has_place.true))))

pub returns-clause-key : goal.returns-clause-key
returns-clause-key c =
    let there : HasPlace (table_places c.self.inside.pages.items) c.args.chunk = rw (← c.deref.ensures.value) (c.has_place.ensures.yes c.if-not-has_place.false) in
    c.clear.ensures.key
    ∙ ap (λ (found : Option Item). option_map (λ (item : Item). item.key) found)
    (read_there c.self.inside.pages.items c.args.chunk c.index_mut.result.now there c.index_mut.ensures.value c.index_mut-2.result.now c.index_mut-2.ensures.value
    ∙ ap (λ (items : Items). item_in_chunk items c.args.chunk) c.self.view_is)

pub returns-clause-entries : goal.returns-clause-entries
returns-clause-entries c =
    let there : HasPlace (table_places c.self.inside.pages.items) c.args.chunk = rw (← c.deref.ensures.value) (c.has_place.ensures.yes c.if-not-has_place.false) in
    rw c.clear.ensures.cleared (go_there c.self.inside.pages.items c.args.chunk c.index_mut.result.now there c.index_mut.ensures.value (with_item c.index_mut.result.now c.args.chunk.index None) refl)
    ∙ ap (λ (items : Items). without_item items c.args.chunk) c.self.view_is
