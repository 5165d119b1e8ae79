use Rattle.std.proofs.Common.{◌≡◌, ◌≤◌, true, subst, sym, ap, ◌∙◌}
use Rattle.mc_pages.specs.ClassState.{times_in}
use Rattle.mc_pages.specs.SlabState.{HasClass, class_at, class_of_page}
use Rattle.mc_keeper.specs.Kept.{dead_items}
use Rattle.mc_serial_spec.specs.Machine.{Machine, is_dead_in}
use Rattle.mc_keeper.proofs.DeadOrders.{only_dead}
use Rattle.mc_serial_spec.proofs.KeptMoverClear.{class_of_item, contains_counted, dead_here, handed_item}
use Rattle.mc_keeper.proofs.KeeperMachine.{machine_of}
use Rattle.mc_keeper.proofs.keeper.Keeper.only_dead.Goals as goal

pub class_of-requires : goal.class_of-requires
class_of-requires c =
    let dead : is_dead_in c.args.self.now c.in_ok-chunk.chunk ≡ true = sym c.is_dead.ensures.dead ∙ c.if-is_dead.true in
    let found = dead_here (machine_of c.self.inside) _ c.in_ok-chunk.chunk c.self.view_is dead in
    class_of_item _ _ _ c.in_ok-chunk.chunk found.0 c.self.invariant.kept found.1

pub returns-then-class_of-class : goal.returns-then-class_of-class
returns-then-class_of-class c =
    let dead : is_dead_in c.args.self.now c.in_ok-chunk.chunk ≡ true = sym c.is_dead.ensures.dead ∙ c.if-is_dead.true in
    let found = dead_here (machine_of c.self.inside) _ c.in_ok-chunk.chunk c.self.view_is dead in
    let own : class_of_page c.self.inside.slabs.state c.in_ok-chunk.chunk.page ≡ c.args.class = sym c.class_of.ensures.class ∙ c.if-class_of-class.true in
    let some : 1 ≤ times_in c.in_ok-chunk.chunk (class_at c.self.inside.slabs.state c.args.class).order
    = rw own at (handed_item _ _ _ c.in_ok-chunk.chunk found.0 c.self.invariant.kept found.1) in
    let valid : HasClass c.self.inside.slabs.state c.args.class = rw (ap (λ (m : Machine). m.slabs) c.self.view_is) c.requires in
    let one : dead_items c.self.inside.slabs.state.owners c.self.inside.holds c.self.inside.items c.args.class ≡ 1
    = sym (c.of.ensures.count ∙ c.self.invariant.counted.dead c.args.class valid.0 valid.1) ∙ c.if-of-ne1.false in
    record {
      only = rw (← c.self.view_is) (only_dead (machine_of c.self.inside) c.args.class c.in_ok-chunk.chunk c.self.invariant.kept valid one
          (subst (λ (m : Machine). is_dead_in m c.in_ok-chunk.chunk ≡ true) (sym c.self.view_is) dead) some);
      dead = dead;
      own = rw (← c.self.view_is) own;
      listed = rw (← c.self.view_is) (contains_counted c.in_ok-chunk.chunk (class_at c.self.inside.slabs.state c.args.class).order some);
    }
