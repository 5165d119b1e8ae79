use Rattle.std.proofs.Common.{ap, length, arith}
use Rattle.mc_script.proofs.FirstLine.{length-lines}
use Rattle.mcmap.proofs.check.write_lines.Goals as goal

pub overflow_add-number : goal.overflow_add-number
overflow_add-number c = omega (arith, length-lines c.args.bytes.now, ap length c.in-Some.ensures.steps)

pub overflow_add-wrong : goal.overflow_add-wrong
overflow_add-wrong c = omega (arith, length-lines c.args.bytes.now, ap length c.in-Some.ensures.steps, c.loop-line.invariant.fewer, c.loop-line.invariant.numbered)
