use Rattle.std.proofs.Common.{ap, length, arith, rules}
use Rattle.mc_script.proofs.FirstLine.{length-lines}
use Rattle.mc_script.proofs.Valid.{script_valid}
use Rattle.mc_script.proofs.script.read.Goals as goal

pub overflow_add-number : goal.overflow_add-number
overflow_add-number c = omega (arith, length-lines c.args.bytes.now, ap length c.in-Some.ensures.steps)

pub returns-clause-valid : goal.returns-clause-valid
returns-clause-valid c = script_valid c.args.bytes.now c.loop-line.commands.items (search rules)
