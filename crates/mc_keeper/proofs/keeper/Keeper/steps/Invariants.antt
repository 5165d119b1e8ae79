use Rattle.std.proofs.Common.{◌≡◌}
use Rattle.mc_serial_spec.specs.Mover.{MoverCount, with_chunks}
use Rattle.mc_keeper.proofs.keeper.Keeper.steps.Given as goal

-- so many chunks were looked at
abbrev pub invariant-loop : goal.invariant-loop
invariant-loop l =
    let now : MoverCount = record { machine = l.self; counts = l.counts } in
    now ≡ with_chunks l.counter (record { machine = l.initial.self; counts = l.initial.counts })
