use Rattle.std.proofs.Common.{ap, length, arith}
use Rattle.mc_script.proofs.FirstLine.{length-lines}
use Rattle.mc_replay.proofs.run.play_all.Goals as goal

pub overflow_add-number : goal.overflow_add-number
overflow_add-number g c = omega (arith, length-lines c.args.bytes.now, ap length c.in-Some.ensures.steps)
