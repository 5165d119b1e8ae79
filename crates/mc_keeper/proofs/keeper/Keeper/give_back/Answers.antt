use Rattle.std.proofs.Common.{◌≡◌, Bool, true, false, Contains, Option, Some, None, position, refl, ap, arith}
use Rattle.std.specs.Option.{option_map}
use Rattle.std.proofs.lemmas.Bool.Decides.{nat_tests}
use Rattle.std.proofs.lemmas.Option.{same_Some}
use Rattle.mc_pages.specs.declared.ids.ChunkId.{ChunkId}
use Rattle.mc_pages.specs.ClassState.{is_chunk}
use Rattle.mc_serial_spec.specs.Item.{Item}
use Rattle.mc_serial_spec.specs.Items.{item_in_chunk}
use Rattle.mc_serial_spec.specs.Holds.{held_by}
use Rattle.mc_serial_spec.specs.Machine.{Machine}
use Rattle.mc_serial_spec.proofs.KeptChanges.{place_once}
use Rattle.mc_serial_spec.proofs.KeptMoverClear.{class_of_item}
use Rattle.mc_serial_parts.proofs.FoundHolds.{found_held}
use Rattle.mc_keeper.proofs.Counted.{counted_given_back, counted_let_go, few_counted}
use Rattle.mc_keeper.proofs.KeeperMachine.{machine_of}
use Rattle.mc_keeper.proofs.keeper.Keeper.give_back.Goals as goal

-- the item that was found, and whether its key leads to it
record IsFound (found : Option Item) (linked : Bool) : Type 0 where
  item : Item
  there : found ≡ Some item
  tells : item.linked ≡ linked

found_item : (found : Option Item) (linked : Bool) → option_map (λ item. item.linked) found ≡ Some linked → IsFound found linked
found_item (Some item) linked is = record { item = item; there = refl; tells = same_Some item.linked linked is }
found_item None linked is = cc

pub count_unheld-requires-clause-class : goal.count_unheld-requires-clause-class
count_unheld-requires-clause-class c =
    let found = found_item (item_in_chunk c.self.inside.items c.args.chunk) c.args.is_linked (rw (ap (λ (m : Machine). m.items) c.self.view_is) c.requires.item) in
    class_of_item _ _ _ c.args.chunk found.item c.self.invariant.kept found.there

pub note_unheld-requires : goal.note_unheld-requires
note_unheld-requires c =
    let found = found_item (item_in_chunk c.self.inside.items c.args.chunk) c.args.is_linked (rw (ap (λ (m : Machine). m.items) c.self.view_is) c.requires.item) in
    class_of_item _ _ _ c.args.chunk found.item c.self.invariant.kept found.there

pub count_unheld-requires-clause-within_limit : goal.count_unheld-requires-clause-within_limit
count_unheld-requires-clause-within_limit c =
    let found = found_item (item_in_chunk c.self.inside.items c.args.chunk) c.args.is_linked (rw (ap (λ (m : Machine). m.items) c.self.view_is) c.requires.item) in
    few_counted (machine_of c.self.inside) _ _ c.self.invariant.kept
    (class_of_item _ _ _ c.args.chunk found.item c.self.invariant.kept found.there) c.self.invariant.counted

pub invariant_of-self : goal.invariant_of-self
invariant_of-self c =
    let first : position (λ (x : ChunkId). is_chunk x c.args.chunk) (held_by c.self.inside.holds c.args.worker) ≡ Some c.args.place
    = rw (ap (λ (m : Machine). m.holds) c.self.view_is) c.requires.first in
    let held : Contains (held_by c.self.inside.holds c.args.worker) c.args.chunk = found_held c.args.chunk (held_by c.self.inside.holds c.args.worker) c.args.place first in
    let found = found_item (item_in_chunk c.self.inside.items c.args.chunk) c.args.is_linked (rw (ap (λ (m : Machine). m.items) c.self.view_is) c.requires.item) in
    let dead : found.item.linked ≡ false = grind (arith, nat_tests, found.tells, c.if-not-is_linked.true) in
    let class = class_of_item _ _ _ c.args.chunk found.item c.self.invariant.kept found.there in
    record {
      kept = c.self.invariant.kept;
      watched = c.self.invariant.watched;
      counted = rw (c.count_unheld.ensures.counts, c.give_back.ensures.given_back)
          (counted_given_back _ _ _ _ _ c.args.worker c.args.chunk found.item c.self.invariant.counted found.there dead
          (place_once _ _ _ c.args.chunk c.self.invariant.kept) held class.0 class.1);
      indexed = c.self.invariant.indexed;
      bulk = c.self.invariant.bulk;
    }

pub invariant_of-self-else-not-is_linked : goal.invariant_of-self-else-not-is_linked
invariant_of-self-else-not-is_linked c =
    let first : position (λ (x : ChunkId). is_chunk x c.args.chunk) (held_by c.self.inside.holds c.args.worker) ≡ Some c.args.place
    = rw (ap (λ (m : Machine). m.holds) c.self.view_is) c.requires.first in
    let held : Contains (held_by c.self.inside.holds c.args.worker) c.args.chunk = found_held c.args.chunk (held_by c.self.inside.holds c.args.worker) c.args.place first in
    let found = found_item (item_in_chunk c.self.inside.items c.args.chunk) c.args.is_linked (rw (ap (λ (m : Machine). m.items) c.self.view_is) c.requires.item) in
    let linked : found.item.linked ≡ true = grind (arith, nat_tests, found.tells, c.if-not-is_linked.false) in
    record {
      kept = c.self.invariant.kept;
      watched = c.self.invariant.watched;
      counted = rw c.give_back.ensures.given_back (counted_let_go _ _ _ _ _ c.args.worker c.args.chunk found.item c.self.invariant.counted
          found.there linked (place_once _ _ _ c.args.chunk c.self.invariant.kept) held);
      indexed = c.self.invariant.indexed;
      bulk = c.self.invariant.bulk;
    }
