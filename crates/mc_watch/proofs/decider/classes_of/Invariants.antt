use Rattle.std.proofs.Common.{◌≡◌, ◌/◌, map, take}
use Rattle.mc_watch.specs.Remembered.{fresh_class}
use Rattle.mc_watch.proofs.decider.classes_of.Given as goal

abbrev pub invariant-loop-place : goal.invariant-loop-place
invariant-loop-place l = l.classes.items ≡ map (λ size. fresh_class (l.table.page / size)) (take l.place l.table.sizes)
