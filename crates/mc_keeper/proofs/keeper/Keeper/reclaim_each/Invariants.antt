use Rattle.std.proofs.Common.{◌≡◌, drop}
use Rattle.mc_pages.specs.SlabState.{HasClass}
use Rattle.mc_serial_spec.specs.Machine.{dead_chunks, machine_after_sweep}
use Rattle.mc_keeper.proofs.keeper.Keeper.reclaim_each.Given as goal

-- those from here on are dead still, and the rest of the sweep makes what the whole would
abbrev pub invariant-loop-place : goal.invariant-loop-place
invariant-loop-place l = record {
  class : HasClass l.self.slabs l.class;
  rest : dead_chunks l.self l.class ≡ drop l.place l.chunks;
  same : machine_after_sweep l.self l.class ≡ machine_after_sweep l.initial.self l.class;
}
