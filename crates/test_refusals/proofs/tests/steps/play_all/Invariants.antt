use Rattle.std.proofs.Common.{◌≡◌}
use Rattle.test_refusals.specs.Threes.{AreReadyOf}
use Rattle.test_refusals.proofs.tests.steps.play_all.Given as goal

abbrev pub invariant-loop-place : goal.invariant-loop-place
invariant-loop-place g l = AreReadyOf l.all.arena l.all.hand l.all.reader l.all.looker.hand × (l.all.reader ≡ l.fn.all.reader)
