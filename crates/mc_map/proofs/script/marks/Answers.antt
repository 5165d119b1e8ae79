use Rattle.std.proofs.Common.{ap, length, arith}
use Rattle.mc_script.proofs.FirstLine.{length-lines}
use Rattle.mc_map.proofs.script.marks.Goals as goal

pub overflow_add-number : goal.overflow_add-number
overflow_add-number c = omega (arith, length-lines c.args.bytes.now, ap length c.in-Some.ensures.steps)

pub overflow_add-done : goal.overflow_add-done
overflow_add-done c = omega (arith, length-lines c.args.bytes.now, ap length c.in-Some.ensures.steps, c.loop-line.invariant.fewer, c.loop-line.invariant.numbered, c.commands_on-done.ensures.most)
