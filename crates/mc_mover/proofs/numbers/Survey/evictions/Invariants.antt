use Rattle.std.proofs.Common.{◌≡◌, ◌≤◌, ◌++◌, drop, length, map, vec_capacity}
use Rattle.mc_mover.proofs.numbers.Survey.evictions.Given as goal

-- the numbers so far and those that are left, and there is room for all
abbrev pub invariant-loop-numbers : goal.invariant-loop-numbers
invariant-loop-numbers l = record {
  all : l.all.items ++ map (λ numbers. numbers.evictions) (drop l.numbers-index l.self.classes.items) ≡ map (λ numbers. numbers.evictions) l.self.classes.items;
  each : length l.all.items ≡ l.numbers-index;
  room : length l.self.classes.items ≤ vec_capacity l.all;
}
