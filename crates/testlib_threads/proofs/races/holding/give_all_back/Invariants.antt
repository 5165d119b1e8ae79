use Rattle.std.proofs.Common.{vec_len}
use Rattle.testlib_threads.specs.Keepers.{IsKeeperOf}
use Rattle.testlib_threads.proofs.races.holding.give_all_back.Given as goal

-- what is still kept
abbrev pub invariant-loop-item : goal.invariant-loop-item
invariant-loop-item l = IsKeeperOf l.arena l.hand l.kept.items

abbrev pub decreases-loop-item : goal.decreases-loop-item
decreases-loop-item l = vec_len l.kept
