use Rattle.std.proofs.Common.{◌≡◌, ◌-◌, ◌*◌, Contains}
use Rattle.mc_serial_spec.specs.Machine.{Machine}
use Rattle.mc_serial_spec.specs.Mover.{AreAtMost, after_turns, turns_from}
use Rattle.mc_keeper.specs.Stages.{stages_from, turns_stages}
use Rattle.mc_keeper.proofs.keeper.Keeper.turns.Given as goal

-- the turns that are left make what all of them would, and come through no stage that isn't one of theirs
abbrev pub invariant-loop : goal.invariant-loop
invariant-loop l = record {
  rest : turns_from (l.fn.count - l.counter) (record { machine = l.self; counts = l.counts; ending = l.ending }) ≡ after_turns l.fn.self l.fn.count;
  most : AreAtMost (256 * l.counter) l.counts;
  stages : (m : Machine) → Contains (stages_from (l.fn.count - l.counter) (record { machine = l.self; counts = l.counts; ending = l.ending })) m → Contains (turns_stages l.fn.self l.fn.count) m;
}
