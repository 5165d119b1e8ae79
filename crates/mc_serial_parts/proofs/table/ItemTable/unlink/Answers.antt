use Rattle.std.proofs.Common.{sym, refl}
use Rattle.std.specs.Option.{option_map}
use Rattle.std.specs.Vec.{with_item}
use Rattle.mc_serial_spec.specs.Item.{item_after_unlink}
use Rattle.mc_serial_parts.specs.ItemsByPlace.{HasPlace, table_places}
use Rattle.mc_serial_parts.proofs.ItemPlaces.{none_there, read_there, unlinked_there}
use Rattle.mc_serial_parts.proofs.table.ItemTable.unlink.Goals as goal

pub returns-then-not-has_place : goal.returns-then-not-has_place
returns-then-not-has_place c =
    let none = none_there (table_places c.self.inside.pages.items) c.args.chunk (rw (← c.deref.ensures.value) (c.has_place.ensures.no c.if-not-has_place.true)) in
    rw (← c.self.view_is, none) (record { unlinked = refl })

pub returns : goal.returns
returns c =
    let there : HasPlace (table_places c.self.inside.pages.items) c.args.chunk = rw (← c.deref.ensures.value) (c.has_place.ensures.yes c.if-not-has_place.false) in
    let read = read_there c.self.inside.pages.items c.args.chunk c.index_mut.result.now there c.index_mut.ensures.value c.index_mut-2.result.now c.index_mut-2.ensures.value in
    rw (← c.self.view_is, ← read, c.unlink.ensures.unlinked)
    (record {
      unlinked = unlinked_there c.self.inside.pages.items c.args.chunk c.index_mut.result.now there c.index_mut.ensures.value
          (with_item c.index_mut.result.now c.args.chunk.index (option_map item_after_unlink c.index_mut-2.result.now)) c.index_mut-2.result.now (sym read) refl;
    })
