use Rattle.std.proofs.Common.{arith}
use Rattle.mc_serial_spec.proofs.KeptMoverClear.{class_of_item, cleared_after, dead_here, handed_item, kept_cleared}
use Rattle.std.proofs.lemmas.List.{length-set}
use Rattle.mc_keeper.proofs.Counted.{counted_reclaimed, dead_unheld, some_dead}
use Rattle.mc_keeper.proofs.Watched.{watched-clear}
use Rattle.mc_keeper.proofs.Indexed.{indexed_dead}
use Rattle.mc_keeper.proofs.keeper.Keeper.clear.Goals as goal

pub clear-requires-clause-listed : goal.clear-requires-clause-listed
clear-requires-clause-listed c =
    let found = dead_here _ _ c.args.chunk c.self.view_is c.requires.dead in
    omega (arith, handed_item _ _ _ c.args.chunk found.0 c.self.invariant.kept found.1)

pub class_of-class-requires : goal.class_of-class-requires
class_of-class-requires c =
    let found = dead_here _ _ c.args.chunk c.self.view_is c.requires.dead in
    class_of_item _ _ _ c.args.chunk found.0 c.self.invariant.kept found.1

pub decrement-requires-clause-first : goal.decrement-requires-clause-first
decrement-requires-clause-first c =
    let found = dead_here _ _ c.args.chunk c.self.view_is c.requires.dead in
    rw c.class_of-class.ensures.class (class_of_item _ _ _ c.args.chunk found.0 c.self.invariant.kept found.1).0

pub decrement-requires-clause-last : goal.decrement-requires-clause-last
decrement-requires-clause-last c =
    let found = dead_here _ _ c.args.chunk c.self.view_is c.requires.dead in
    rw (c.class_of-class.ensures.class, c.self.invariant.counted.of_each) (class_of_item _ _ _ c.args.chunk found.0 c.self.invariant.kept found.1).1

pub decrement-requires-clause-some : goal.decrement-requires-clause-some
decrement-requires-clause-some c =
    let found = dead_here _ _ c.args.chunk c.self.view_is c.requires.dead in
    let class = class_of_item _ _ _ c.args.chunk found.0 c.self.invariant.kept found.1 in
    rw c.class_of-class.ensures.class (some_dead _ _ _ _ _ c.args.chunk found.0 c.self.invariant.counted found.1 found.2
    (dead_unheld _ _ c.args.chunk c.self.view_is c.requires.dead) class.0 class.1)

pub omit-requires : goal.omit-requires
omit-requires c =
    let found = dead_here _ _ c.args.chunk c.self.view_is c.requires.dead in
    rw c.class_of-class.ensures.class (class_of_item _ _ _ c.args.chunk found.0 c.self.invariant.kept found.1).0

pub invariant_of-self : goal.invariant_of-self
invariant_of-self c =
    let found = dead_here _ _ c.args.chunk c.self.view_is c.requires.dead in
    let class = class_of_item _ _ _ c.args.chunk found.0 c.self.invariant.kept found.1 in
    let unheld = dead_unheld _ _ c.args.chunk c.self.view_is c.requires.dead in
    record {
      kept = rw (c.clear.ensures.cleared, c.remove.ensures.entries) (kept_cleared _ _ _ c.args.chunk found.0 c.self.invariant.kept found.1
          (rw c.clear.ensures.cleared at c.clear.ensures.accounted));
      indexed = rw c.remove.ensures.entries (indexed_dead _ _ c.args.chunk found.0 c.self.invariant.indexed found.1 found.2);
      watched = rw c.clear.ensures.cleared (watched-clear c.self.inside.slabs.state _ c.self.invariant.watched c.args.chunk);
      counted = rw (c.clear.ensures.cleared, c.remove.ensures.entries, c.decrement.ensures.decremented, c.class_of-class.ensures.class)
          (counted_reclaimed _ _ _ _ _ _ c.args.chunk found.0 c.self.invariant.counted (length-set c.self.inside.slabs.state.classes _ _) found.1 found.2 unheld class.0 class.1);
      bulk = c.self.invariant.bulk;
    }

pub returns-clause-clears : goal.returns-clause-clears
returns-clause-clears c =
    let found = dead_here _ _ c.args.chunk c.self.view_is c.requires.dead in
    let handed = handed_item _ _ _ c.args.chunk found.0 c.self.invariant.kept found.1 in
    rw (← c.self.view_is, c.clear.ensures.cleared)
    (cleared_after c.self.inside.slabs.state c.args.chunk c.self.invariant.kept.accounted (rw c.clear.ensures.cleared at c.clear.ensures.accounted) (omega (arith, handed)))
