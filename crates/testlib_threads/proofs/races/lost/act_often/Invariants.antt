use Rattle.testlib_threads.specs.Keepers.{AreNear, IsKeeperOf}
use Rattle.testlib_threads.proofs.races.lost.act_often.Given as goal

abbrev pub invariant-loop-round : goal.invariant-loop-round
invariant-loop-round g l = IsKeeperOf l.arena l.keeper.hand l.keeper.kept.items × AreNear l.arena l.keeper.hints.items
