-- The item in a chunk's place, if there is one.
use Rattle.std.specs.Prelude.{if◌then◌else◌, Option, Some, None}
use Rattle.mc_serial_spec.specs.Item.{Item}
use Rattle.mc_serial_parts.specs.declared.place.Place.TheInside.{Inside}

-- the item, where the place is filled
abbrev pub item_in_place : Inside → Option Item
item_in_place place = if place.filled then Some place.item else None
