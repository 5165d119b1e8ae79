use Rattle.std.proofs.Common.{◌≡◌, None, take}
use Rattle.std.specs.Prelude.{find}
use Rattle.mc_pages.specs.SlabState.{class_at}
use Rattle.mc_serial_spec.specs.Machine.{has_unheld_linked_item}
use Rattle.mc_keeper.proofs.keeper.Keeper.victim.Given as goal

-- no chunk below is idle
abbrev pub invariant-loop-place : goal.invariant-loop-place
invariant-loop-place l = find (has_unheld_linked_item l.self) (take l.place (class_at l.self.slabs l.class).order) ≡ None
