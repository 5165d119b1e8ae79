use Rattle.std.proofs.Common.{◌≡◌, ◌+◌, ◌-◌, length}
use Rattle.mc_serial_parts.specs.ItemsByPlace.{items_from, table_places}
use Rattle.mc_serial_parts.proofs.table.reach_page.Given as goal

abbrev pub invariant-loop-alloc : goal.invariant-loop-alloc
invariant-loop-alloc l = items_from 0 (table_places l.pages.items) ≡ items_from 0 (table_places l.initial.pages.items)

abbrev pub decreases-loop-alloc : goal.decreases-loop-alloc
decreases-loop-alloc l = l.page + 1 - length l.pages.items
