use Rattle.std.proofs.Common.{◌≡◌, ◌∙◌, sym, ap, refl, Some, None, Option}
use Rattle.std.specs.Option.{option_map}
use Rattle.std.specs.Vec.{with_item}
use Rattle.mc_serial_spec.specs.Item.{Item}
use Rattle.mc_serial_spec.specs.Items.{Items, item_in_chunk, with_item as with_item_in}
use Rattle.mc_serial_parts.specs.ItemsByPlace.{HasPlace, items_from, table_places}
use Rattle.mc_serial_parts.proofs.ItemPlaces.{come_there, go_there, none_goes, none_there, read_there, still_there}
use Rattle.mc_serial_parts.proofs.table.relocate.Goals as goal

pub returns-then-not-has_place-clause-key : goal.returns-then-not-has_place-clause-key
returns-then-not-has_place-clause-key c =
    rw (none_there (table_places c.args.pages.now.items) c.args.old (rw (← c.deref.ensures.value) (c.has_place.ensures.no c.if-not-has_place.true))) refl

pub returns-then-not-has_place-clause-moved : goal.returns-then-not-has_place-clause-moved
returns-then-not-has_place-clause-moved c =
    rw (none_there (table_places c.args.pages.now.items) c.args.old (rw (← c.deref.ensures.value) (c.has_place.ensures.no c.if-not-has_place.true))) refl

pub returns-in-Some-clause-key : goal.returns-in-Some-clause-key
returns-in-Some-clause-key c =
    let there : HasPlace (table_places c.args.pages.now.items) c.args.old = rw (← c.deref.ensures.value) (c.has_place.ensures.yes c.if-not-has_place.false) in
    let read = read_there c.args.pages.now.items c.args.old c.index_mut.result.now there c.index_mut.ensures.value c.index_mut-2.result.now c.index_mut-2.ensures.value in
    ap Some c.key-key.ensures.key ∙ ap (λ (found : Option Item). option_map (λ (item : Item). item.key) found) (c.in-Some.ensures.item ∙ read)

pub returns-in-Some-clause-moved : goal.returns-in-Some-clause-moved
returns-in-Some-clause-moved c =
    let there : HasPlace (table_places c.args.pages.now.items) c.args.old = rw (← c.deref.ensures.value) (c.has_place.ensures.yes c.if-not-has_place.false) in
    let read = read_there c.args.pages.now.items c.args.old c.index_mut.result.now there c.index_mut.ensures.value c.index_mut-2.result.now c.index_mut-2.ensures.value in
    let found : item_in_chunk (items_from 0 (table_places c.args.pages.now.items)) c.args.old ≡ Some c.in-Some.item = sym read ∙ sym c.in-Some.ensures.item in
    rw (found, c.put.ensures.put, c.take.ensures.taken)
    (come_there _ c.args.new c.index_mut-in-Some.result.now
    (still_there c.args.pages.now.items c.args.old c.index_mut.result.now there c.index_mut.ensures.value (with_item c.index_mut.result.now c.args.old.index None) None refl c.args.new c.requires)
    (rw c.take.ensures.taken at c.index_mut-in-Some.ensures.value) (with_item c.index_mut-in-Some.result.now c.args.new.index (Some c.in-Some.item)) c.in-Some.item refl
    ∙ ap (λ (items : Items). with_item_in items c.args.new c.in-Some.item)
    (go_there c.args.pages.now.items c.args.old c.index_mut.result.now there c.index_mut.ensures.value (with_item c.index_mut.result.now c.args.old.index None) refl))

pub returns-in-None-clause-key : goal.returns-in-None-clause-key
returns-in-None-clause-key c =
    let there : HasPlace (table_places c.args.pages.now.items) c.args.old = rw (← c.deref.ensures.value) (c.has_place.ensures.yes c.if-not-has_place.false) in
    let read = read_there c.args.pages.now.items c.args.old c.index_mut.result.now there c.index_mut.ensures.value c.index_mut-2.result.now c.index_mut-2.ensures.value in
    ap (λ (found : Option Item). option_map (λ (item : Item). item.key) found) (c.in-None.ensures.item ∙ read)

pub returns-in-None-clause-moved : goal.returns-in-None-clause-moved
returns-in-None-clause-moved c =
    let there : HasPlace (table_places c.args.pages.now.items) c.args.old = rw (← c.deref.ensures.value) (c.has_place.ensures.yes c.if-not-has_place.false) in
    let read = read_there c.args.pages.now.items c.args.old c.index_mut.result.now there c.index_mut.ensures.value c.index_mut-2.result.now c.index_mut-2.ensures.value in
    let none : item_in_chunk (items_from 0 (table_places c.args.pages.now.items)) c.args.old ≡ None = sym read ∙ sym c.in-None.ensures.item in
    rw (none, c.take.ensures.taken)
    (go_there c.args.pages.now.items c.args.old c.index_mut.result.now there c.index_mut.ensures.value (with_item c.index_mut.result.now c.args.old.index None) refl
    ∙ sym (none_goes c.args.old (items_from 0 (table_places c.args.pages.now.items)) none))
