use Rattle.testlib_hands.specs.Hands.{IsEmptyHandOf}
use Rattle.testlib_threads.proofs.threads.gets.SearcherJob.work.Given as goal

abbrev pub invariant-loop-time : goal.invariant-loop-time
invariant-loop-time g l = IsEmptyHandOf l.arena l.hand
