use Rattle.std.proofs.Common.{◌+◌, ◌-◌, length}
use Rattle.mc_serial_parts.specs.ItemsByPlace.{AreAlike}
use Rattle.mc_serial_parts.proofs.table.reach_index.Given as goal

abbrev pub invariant-loop-alloc : goal.invariant-loop-alloc
invariant-loop-alloc l = AreAlike l.initial.places.items l.places.items

abbrev pub decreases-loop-alloc : goal.decreases-loop-alloc
decreases-loop-alloc l = l.index + 1 - length l.places.items
