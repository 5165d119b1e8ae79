use Rattle.std.proofs.Common.{arith}
use Rattle.mc_waste.proofs.Worst.{none, worst}
use Rattle.mc_waste.proofs.waste.worst_waste.Goals as goal

pub returns-then-least-size-clause-worst : goal.returns-then-least-size-clause-worst
returns-then-least-size-clause-worst c =
    rw (c.size-size.ensures.size, c.least_item-least.ensures) (worst c.args.table.now c.args.class c.size-size.ensures.sound c.requires (omega arith))

pub returns-else-least-size-clause-none : goal.returns-else-least-size-clause-none
returns-else-least-size-clause-none c = none c.args.table.now c.args.class c.size-size.ensures.sound c.requires (omega arith)
