use Rattle.mc_classes.proofs.Accepted.{accepted}
use Rattle.mc_classes.proofs.Sizes.{sound}
use Rattle.mc_classes.proofs.table.ClassTable.build.Goals as goal

pub invariant_of-result : goal.invariant_of-result
invariant_of-result c =
    let comes = c.in_ok-sizes.ensures in
    sound c.args.config.now comes.0 c.in_ok-sizes.sizes.items (accepted c.args.config.now c.in_ok-test.ensures.accepted) comes.1

pub returns-clause-sound : goal.returns-clause-sound
returns-clause-sound c =
    let comes = c.in_ok-sizes.ensures in
    sound c.args.config.now comes.0 c.in_ok-sizes.sizes.items (accepted c.args.config.now c.in_ok-test.ensures.accepted) comes.1
