use Rattle.mc_c.proofs.Written.{AreWritten}
use Rattle.mc_c.proofs.tending.write_classes.Given as goal

abbrev pub invariant-loop-place : goal.invariant-loop-place
invariant-loop-place l = record {
  written : AreWritten l.place l.table l.rows l.fn.into l.into;
}
