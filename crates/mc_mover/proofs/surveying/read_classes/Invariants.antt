use Rattle.std.proofs.Common.{◌≡◌, ◌≤◌, map, take}
use Rattle.mc_pages.specs.ClassState.{numbers_of}
use Rattle.mc_mover.proofs.surveying.read_classes.Given as goal

-- the classes so far are read, and there is room for all
abbrev pub invariant-loop-place : goal.invariant-loop-place
invariant-loop-place l = (l.count ≤ l.classes.cap) × (l.classes.items ≡ map numbers_of (take l.place l.slabs.state.classes))
