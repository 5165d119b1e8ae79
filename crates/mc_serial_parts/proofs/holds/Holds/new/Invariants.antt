use Rattle.std.proofs.Common.{◌≡◌, ◌≤◌, [], map, replicate, reverse, length}
use Rattle.std.specs.Prelude.{vec_capacity}
use Rattle.mc_serial_parts.proofs.holds.Holds.new.Given as goal

-- the workers so far hold nothing
abbrev pub invariant-loop : goal.invariant-loop
invariant-loop l = record {
  none : map (λ chunks. reverse chunks.items) l.by_worker.items ≡ replicate l.counter [];
  each : length l.by_worker.items ≡ l.counter;
  room : 64 ≤ vec_capacity l.by_worker;
}
