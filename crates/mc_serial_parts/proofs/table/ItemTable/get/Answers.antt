use Rattle.std.proofs.Common.{◌∙◌, sym, ap}
use Rattle.mc_serial_spec.specs.Items.{Items, item_in_chunk}
use Rattle.mc_serial_parts.specs.ItemsByPlace.{HasPlace, table_places}
use Rattle.mc_serial_parts.proofs.ItemPlaces.{none_there, read_there}
use Rattle.mc_serial_parts.proofs.table.ItemTable.get.Goals as goal

pub returns-then-not-has_place : goal.returns-then-not-has_place
returns-then-not-has_place c = record {
  value = rw (← c.self.view_is) (sym (none_there (table_places c.self.inside.pages.items) c.args.chunk
      (rw (← c.deref.ensures.value) (c.has_place.ensures.no c.if-not-has_place.true))));
}

pub returns : goal.returns
returns c =
    let there : HasPlace (table_places c.self.inside.pages.items) c.args.chunk = rw (← c.deref.ensures.value) (c.has_place.ensures.yes c.if-not-has_place.false) in
    record {
      value = c.item.ensures.item
          ∙ read_there c.self.inside.pages.items c.args.chunk c.index.result.now there c.index.ensures c.index-2.result.now c.index-2.ensures
          ∙ ap (λ (items : Items). item_in_chunk items c.args.chunk) c.self.view_is;
    }
