use Rattle.std.proofs.Common.{◌≡◌, ◌+◌, ℕ, get_or, length}
use Rattle.mc_cache.specs.Stats.{no_statistics}
use Rattle.mc_cache.proofs.stats.lengthen.Given as goal

abbrev pub invariant-loop : goal.invariant-loop
invariant-loop l = record {
  long : length l.rows.items ≡ length l.fn.rows.items + l.counter;
  same : (place : ℕ) → get_or l.rows.items place no_statistics ≡ get_or l.fn.rows.items place no_statistics;
}
