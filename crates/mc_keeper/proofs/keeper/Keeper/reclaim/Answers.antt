use Rattle.std.proofs.Common.{◌≡◌, true, ap}
use Rattle.std.proofs.lemmas.Bool.{and_parts}
use Rattle.std.proofs.lemmas.List.{length-set}
use Rattle.mc_pages.specs.SlabState.{HasClass, class_of_page}
use Rattle.mc_serial_spec.specs.Items.{has_unlinked_item}
use Rattle.mc_serial_spec.specs.Machine.{Machine}
use Rattle.mc_serial_spec.proofs.KeptChanges.{kept_reclaim}
use Rattle.mc_keeper.proofs.Counted.{counted_reclaimed, dead_unheld, some_dead}
use Rattle.mc_serial_spec.proofs.KeptMoverClear.{dead_here}
use Rattle.mc_keeper.proofs.Watched.{watched-back}
use Rattle.mc_keeper.proofs.Indexed.{indexed_dead}
use Rattle.mc_keeper.proofs.keeper.Keeper.reclaim.Goals as goal

pub class_of-class-requires : goal.class_of-class-requires
class_of-class-requires c = rw (ap (λ (m : Machine). m.slabs) c.self.view_is) c.requires.class

pub decrement-requires-clause-first : goal.decrement-requires-clause-first
decrement-requires-clause-first c =
    let class : HasClass c.self.inside.slabs.state (class_of_page c.self.inside.slabs.state c.args.chunk.page) = rw (ap (λ (m : Machine). m.slabs) c.self.view_is) c.requires.class in
    rw c.class_of-class.ensures.class class.0

pub decrement-requires-clause-last : goal.decrement-requires-clause-last
decrement-requires-clause-last c =
    let class : HasClass c.self.inside.slabs.state (class_of_page c.self.inside.slabs.state c.args.chunk.page) = rw (ap (λ (m : Machine). m.slabs) c.self.view_is) c.requires.class in
    rw (c.class_of-class.ensures.class, c.self.invariant.counted.of_each) class.1

pub decrement-requires-clause-some : goal.decrement-requires-clause-some
decrement-requires-clause-some c =
    let class : HasClass c.self.inside.slabs.state (class_of_page c.self.inside.slabs.state c.args.chunk.page) = rw (ap (λ (m : Machine). m.slabs) c.self.view_is) c.requires.class in
    let found = dead_here _ _ c.args.chunk c.self.view_is c.requires.dead in
    rw c.class_of-class.ensures.class (some_dead _ _ _ _ _ c.args.chunk found.0 c.self.invariant.counted found.1 found.2
    (dead_unheld _ _ c.args.chunk c.self.view_is c.requires.dead) class.0 class.1)

pub invariant_of-self : goal.invariant_of-self
invariant_of-self c =
    let class : HasClass c.self.inside.slabs.state (class_of_page c.self.inside.slabs.state c.args.chunk.page) = rw (ap (λ (m : Machine). m.slabs) c.self.view_is) c.requires.class in
    let found = dead_here _ _ c.args.chunk c.self.view_is c.requires.dead in
    let unheld = dead_unheld _ _ c.args.chunk c.self.view_is c.requires.dead in
    let unlinked : has_unlinked_item c.self.inside.items c.args.chunk ≡ true
    = rw (ap (λ (m : Machine). m.items) c.self.view_is) (and_parts _ _ c.requires.dead).0 in
    record {
      kept = rw (c.back.ensures.back, c.remove.ensures.entries)
          (kept_reclaim _ _ _ c.args.chunk c.self.invariant.kept (rw c.back.ensures.back at c.back.ensures.accounted) unlinked);
      indexed = rw c.remove.ensures.entries (indexed_dead _ _ c.args.chunk found.0 c.self.invariant.indexed found.1 found.2);
      watched = rw c.back.ensures.back (watched-back c.self.inside.slabs.state _ c.self.invariant.watched c.args.chunk);
      counted = rw (c.back.ensures.back, c.remove.ensures.entries, c.decrement.ensures.decremented, c.class_of-class.ensures.class)
          (counted_reclaimed _ _ _ _ _ _ c.args.chunk found.0 c.self.invariant.counted (length-set c.self.inside.slabs.state.classes _ _) found.1 found.2 unheld class.0 class.1);
      bulk = c.self.invariant.bulk;
    }
