use Rattle.std.proofs.Common.{◌≡◌, ℕ, ◌≤◌, [], length, take}
use Rattle.std.specs.Prelude.{filter, slice_get}
use Rattle.mc_pages.specs.SlabState.{HasClass, class_at}
use Rattle.mc_serial_spec.specs.Machine.{is_dead_in, machine_after_sweep}
use Rattle.mc_pages.proofs.RestOfList.{rest_from}
use Rattle.mc_keeper.proofs.keeper.Keeper.sweep_order.Given as goal

-- the walk is at some place, no chunk before it is dead, and the rest of the sweep makes what the whole would
abbrev pub invariant-loop-next : goal.invariant-loop-next
invariant-loop-next l = record {
  place : ℕ;
  at : l.next ≡ slice_get (class_at l.self.slabs l.class).order place;
  class : HasClass l.self.slabs l.class;
  within : place ≤ length (class_at l.self.slabs l.class).order;
  none : filter (is_dead_in l.self) (take place (class_at l.self.slabs l.class).order) ≡ [];
  rest : machine_after_sweep l.self l.class ≡ machine_after_sweep l.initial.self l.class;
}

abbrev pub decreases-loop-next : goal.decreases-loop-next
decreases-loop-next l = length (rest_from l.next (class_at l.self.slabs l.class).order)
