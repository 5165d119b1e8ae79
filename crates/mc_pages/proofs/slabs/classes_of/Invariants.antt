use Rattle.std.proofs.Common.{◌≡◌, ◌/◌, map, take}
use Rattle.mc_pages.specs.ClassState.{new_class}
use Rattle.mc_pages.specs.InOrder.{classes_without_room}
use Rattle.mc_pages.proofs.slabs.classes_of.Given as goal

abbrev pub invariant-loop-place : goal.invariant-loop-place
invariant-loop-place l = l.classes.items ≡ classes_without_room (map (λ size. new_class size (l.table.page / size)) (take l.place l.table.sizes))
