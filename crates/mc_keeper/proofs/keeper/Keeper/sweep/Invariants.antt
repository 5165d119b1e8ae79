use Rattle.std.proofs.Common.{◌≡◌}
use Rattle.std.specs.Prelude.{fold}
use Rattle.std.specs.List.{range_with_len}
use Rattle.mc_serial_spec.specs.Machine.{machine_after_sweep}
use Rattle.mc_keeper.proofs.keeper.Keeper.sweep.Given as goal

-- the classes below are swept
abbrev pub invariant-loop-place : goal.invariant-loop-place
invariant-loop-place l = l.self ≡ fold machine_after_sweep l.initial.self (range_with_len 1 l.place)
