use Rattle.std.proofs.Common.{◌≡◌, [], length}
use Rattle.mc_cache.specs.Belonging.{HaveUnusedHands}
use Rattle.mc_cache.proofs.opening.add_workers.Given as goal

abbrev pub invariant-loop : goal.invariant-loop
invariant-loop l = record { count : length l.workers.items ≡ l.counter; hands : HaveUnusedHands [] l.workers.items }
