use Rattle.std.proofs.Common.{ap, length, arith}
use Rattle.mc_workers.proofs.script.open_arena.Goals as goal

pub returns-clause-opened : goal.returns-clause-opened
returns-clause-opened g c =
    let made = c.in-Ok.ensures.setup in
    let all = ap length c.in-Some.ensures.all in
    record {
      made = made;
      first = c.in-Some.mover;
      new = c.in-Some.ensures.first;
      sets = c.set_mode.ensures.sets;
      others = c.in-Some.ensures.others;
      count = omega (arith, all, c.in-Ok.ensures.hands.0, made.hands_are);
    }
