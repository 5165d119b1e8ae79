use Rattle.std.proofs.Common.{◌≡◌, Some, None, sym, ◌∙◌, refl}
use Rattle.mc_serial_spec.specs.Items.{unlinked_items, linked_chunk}
use Rattle.mc_keeper.proofs.Counted.{counted_unlinked, few_counted, leads_linked}
use Rattle.mc_keeper.proofs.KeeperMachine.{machine_of}
use Rattle.mc_serial_spec.proofs.KeptChanges.{kept_unlink, unlinks_found}
use Rattle.mc_keeper.proofs.Indexed.{indexed_unlinked}
use Rattle.mc_keeper.proofs.keeper.Keeper.delete.Goals as goal

pub count_unheld-requires-clause-class : goal.count_unheld-requires-clause-class
count_unheld-requires-clause-class c = (leads_linked _ _ _ c.args.key c.in-Some.chunk c.self.invariant.kept (sym (c.self.invariant.indexed c.args.key) ∙ sym c.in-Some.ensures.chunk)).1

pub note_unheld-requires : goal.note_unheld-requires
note_unheld-requires c = (leads_linked _ _ _ c.args.key c.in-Some.chunk c.self.invariant.kept (sym (c.self.invariant.indexed c.args.key) ∙ sym c.in-Some.ensures.chunk)).1

pub count_unheld-requires-clause-of_each : goal.count_unheld-requires-clause-of_each
count_unheld-requires-clause-of_each c = c.self.invariant.counted.of_each

pub count_unheld-requires-clause-within_limit : goal.count_unheld-requires-clause-within_limit
count_unheld-requires-clause-within_limit c =
    let class = (leads_linked _ _ _ c.args.key c.in-Some.chunk c.self.invariant.kept (sym (c.self.invariant.indexed c.args.key) ∙ sym c.in-Some.ensures.chunk)).1 in
    few_counted (machine_of c.self.inside) _ _ c.self.invariant.kept class c.self.invariant.counted

-- the item that the index found is the key's
pub invariant_of-self : goal.invariant_of-self
invariant_of-self c =
    let found : linked_chunk c.self.inside.items c.args.key ≡ Some c.in-Some.chunk = sym (c.self.invariant.indexed c.args.key) ∙ sym c.in-Some.ensures.chunk in
    let unlinks : c.unlink.new.self ≡ unlinked_items c.self.inside.items c.args.key
    = rw c.unlink.ensures.unlinked (unlinks_found _ _ _ c.args.key c.in-Some.chunk c.self.invariant.kept found) in
    let there = leads_linked _ _ _ c.args.key c.in-Some.chunk c.self.invariant.kept found in
    let leads = there.0 in
    let class = there.1 in
    record {
      kept = rw unlinks (kept_unlink _ _ _ c.args.key c.self.invariant.kept);
      indexed = rw unlinks (indexed_unlinked c.self.inside.index c.remove.new.self c.self.inside.items c.args.key c.self.invariant.indexed c.remove.ensures.led);
      watched = c.self.invariant.watched;
      counted = rw (unlinks, c.count_unheld.ensures.counts) (counted_unlinked _ _ _ _ _ c.args.key c.in-Some.chunk c.self.invariant.counted leads class.0 class.1);
      bulk = c.self.invariant.bulk;
    }

pub returns-in-Some-clause-after : goal.returns-in-Some-clause-after
returns-in-Some-clause-after c =
    let found : linked_chunk c.self.inside.items c.args.key ≡ Some c.in-Some.chunk = sym (c.self.invariant.indexed c.args.key) ∙ sym c.in-Some.ensures.chunk in
    let unlinks : c.unlink.new.self ≡ unlinked_items c.self.inside.items c.args.key
    = rw c.unlink.ensures.unlinked (unlinks_found _ _ _ c.args.key c.in-Some.chunk c.self.invariant.kept found) in
    rw (← c.self.view_is) (rw (found, unlinks) refl)

pub returns-in-None-clause-after : goal.returns-in-None-clause-after
returns-in-None-clause-after c =
    let none : linked_chunk c.self.inside.items c.args.key ≡ None = sym (c.self.invariant.indexed c.args.key) ∙ sym c.in-None.ensures.chunk in
    rw (← c.self.view_is) (rw none refl)
