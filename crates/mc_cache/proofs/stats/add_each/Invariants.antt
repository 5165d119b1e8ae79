use Rattle.std.proofs.Common.{◌≤◌, length}
use Rattle.mc_cache.proofs.Counted.{AreAdded}
use Rattle.mc_cache.proofs.stats.add_each.Given as goal

abbrev pub invariant-loop-place : goal.invariant-loop-place
invariant-loop-place l = AreAdded l.place l.classes l.fn.rows l.rows × (length l.classes ≤ length l.rows)
