use Rattle.std.proofs.Common.{◌≡◌, ℕ, ◌≤◌, List, length, Some, None, ap, sym, ◌∙◌, refl}
use Rattle.std.proofs.lemmas.List.{length-set}
use Rattle.mc_pages.specs.declared.ids.ChunkId.{ChunkId}
use Rattle.mc_pages.specs.ClassState.{first_free}
use Rattle.mc_pages.specs.SlabState.{HasClass, class_at}
use Rattle.mc_serial_spec.specs.Item.{Item, new_item}
use Rattle.mc_serial_parts.specs.NewWords.{words_of_new}
use Rattle.mc_pages.specs.Changes.{after_pop}
use Rattle.mc_serial_spec.specs.Items.{Items, item_in_chunk, linked_chunk, unlinked_in, unlinked_items, with_item, without_item}
use Rattle.mc_serial_spec.specs.Consistent.{IsConsistent}
use Rattle.mc_keeper.specs.Kept.{DeadAreCounted, IsWatched}
use Rattle.mc_serial_spec.specs.Machine.{Machine}
use Rattle.mc_keeper.proofs.Counted.{counted_come, counted_unlinked, few_counted, leads_linked}
use Rattle.mc_serial_spec.proofs.KeptChanges.{kept_unlink, unlinks_found, unlinks_none}
use Rattle.mc_serial_spec.proofs.KeptStore.{is_next, kept_store}
use Rattle.mc_serial_spec.proofs.Links.{without_item-with_item}
use Rattle.mc_serial_spec.proofs.Stocks.{nowhere-unlinked}
use Rattle.mc_keeper.proofs.Watched.{watched-pop}
use Rattle.mc_keeper.specs.declared.keeper.Keeper.TheInside.{Inside}
use Rattle.mc_keeper.proofs.KeeperMachine.{machine_of}
use Rattle.mc_keeper.proofs.StoredBeside.{unlinked_in-beside}
use Rattle.mc_keeper.proofs.keeper.Keeper.put.Goals.{in-Some, in_default}
use Rattle.mc_keeper.proofs.Indexed.{indexed_stored}
use Rattle.mc_keeper.proofs.keeper.Keeper.put.Goals as goal

-- the key's old item is unlinked and the new one is there, and the index leads to it
record IsReady (old now : Inside) (new_index : List (ℕ × ChunkId)) (class key : ℕ) (chunk : ChunkId) (item : Item) : Type 0 where
  leads : now.index ≡ new_index
  watched : IsWatched now.slabs.state now.decider
  kept : IsConsistent now.table now.slabs.state (unlinked_items old.items key)
  counted : DeadAreCounted (length now.slabs.state.classes) now.slabs.state.owners now.holds (unlinked_items old.items key) now.dead
  bulk : now.bulk ≤ 256
  valid : HasClass now.slabs.state class
  head : first_free (class_at now.slabs.state class) ≡ Some chunk
  items : now.items ≡ with_item (unlinked_items old.items key) chunk item

pub count_unheld-requires-clause-class : goal.count_unheld-requires-clause-class
count_unheld-requires-clause-class c =
    let found : linked_chunk c.self.inside.items c.args.key ≡ Some c.in-Some.old = sym (c.self.invariant.indexed c.args.key) ∙ sym c.in-Ok.ensures.before ∙ c.in-Some.is in
    (leads_linked _ _ _ c.args.key c.in-Some.old c.self.invariant.kept found).1

pub note_unheld-requires : goal.note_unheld-requires
note_unheld-requires c =
    let found : linked_chunk c.self.inside.items c.args.key ≡ Some c.in-Some.old = sym (c.self.invariant.indexed c.args.key) ∙ sym c.in-Ok.ensures.before ∙ c.in-Some.is in
    (leads_linked _ _ _ c.args.key c.in-Some.old c.self.invariant.kept found).1

pub count_unheld-requires-clause-of_each : goal.count_unheld-requires-clause-of_each
count_unheld-requires-clause-of_each c = c.self.invariant.counted.of_each

pub count_unheld-requires-clause-within_limit : goal.count_unheld-requires-clause-within_limit
count_unheld-requires-clause-within_limit c =
    let found : linked_chunk c.self.inside.items c.args.key ≡ Some c.in-Some.old = sym (c.self.invariant.indexed c.args.key) ∙ sym c.in-Ok.ensures.before ∙ c.in-Some.is in
    let class = (leads_linked _ _ _ c.args.key c.in-Some.old c.self.invariant.kept found).1 in
    few_counted (machine_of c.self.inside) _ _ c.self.invariant.kept class c.self.invariant.counted

-- the chunk is empty again, and the index as before
pub invariant_of-self-in-Err : goal.invariant_of-self-in-Err
invariant_of-self-in-Err c =
    let valid : HasClass c.self.inside.slabs.state c.args.class = rw (ap (λ (m : Machine). m.slabs) c.self.view_is) c.requires.class in
    let head : first_free (class_at c.self.inside.slabs.state c.args.class) ≡ Some c.args.chunk = rw (ap (λ (m : Machine). m.slabs) c.self.view_is) c.requires.free in
    let empty = (is_next _ _ _ c.args.class c.args.chunk c.self.invariant.kept valid head).empty in
    let item : Item = new_item c.args.key (words_of_new c.args.words) in
    let back : c.remove.new.self ≡ c.self.inside.items
    = c.remove.ensures.entries ∙ ap (λ (items : Items). without_item items c.args.chunk) c.in_ok-store.ensures.entries
    ∙ without_item-with_item c.args.chunk item c.self.inside.items empty in
    record {
      kept = rw back c.self.invariant.kept;
      indexed = rw (c.in-Err.ensures.unchanged, back) c.self.invariant.indexed;
      watched = c.self.invariant.watched;
      counted = rw back c.self.invariant.counted;
      bulk = c.self.invariant.bulk;
    }

pub returns-in-Err-clause-refused : goal.returns-in-Err-clause-refused
returns-in-Err-clause-refused c =
    let valid : HasClass c.self.inside.slabs.state c.args.class = rw (ap (λ (m : Machine). m.slabs) c.self.view_is) c.requires.class in
    let head : first_free (class_at c.self.inside.slabs.state c.args.class) ≡ Some c.args.chunk = rw (ap (λ (m : Machine). m.slabs) c.self.view_is) c.requires.free in
    let empty = (is_next _ _ _ c.args.class c.args.chunk c.self.invariant.kept valid head).empty in
    let item : Item = new_item c.args.key (words_of_new c.args.words) in
    let back : c.remove.new.self ≡ c.self.inside.items
    = c.remove.ensures.entries ∙ ap (λ (items : Items). without_item items c.args.chunk) c.in_ok-store.ensures.entries
    ∙ without_item-with_item c.args.chunk item c.self.inside.items empty in
    ap (λ (items : Items). record (machine_of c.self.inside) { items = items }) back ∙ c.self.view_is

pub invariant_of-self-2 : goal.invariant_of-self-2
invariant_of-self-2 c =
    let valid : HasClass c.self.inside.slabs.state c.args.class = rw (ap (λ (m : Machine). m.slabs) c.self.view_is) c.requires.class in
    let head : first_free (class_at c.self.inside.slabs.state c.args.class) ≡ Some c.args.chunk = rw (ap (λ (m : Machine). m.slabs) c.self.view_is) c.requires.free in
    let empty = (is_next _ _ _ c.args.class c.args.chunk c.self.invariant.kept valid head).empty in
    let words = words_of_new c.args.words in
    let item : Item = new_item c.args.key words in
    let ready : IsReady c.self.inside c.match-before.self-inside c.insert.new.self c.args.class c.args.key c.args.chunk item = elim c.match-before.branch [
      | in-Some w ↦
          let found : linked_chunk c.self.inside.items c.args.key ≡ Some w.in-Some.old = sym (c.self.invariant.indexed c.args.key) ∙ sym c.in-Ok.ensures.before ∙ w.in-Some.is in
          let there = leads_linked _ _ _ c.args.key w.in-Some.old c.self.invariant.kept found in
          let stored : w.unlink.new.self ≡ with_item (unlinked_items c.self.inside.items c.args.key) c.args.chunk item
          = w.unlink.ensures.unlinked
          ∙ ap (λ (items : Items). unlinked_in items w.in-Some.old (item_in_chunk items w.in-Some.old)) c.in_ok-store.ensures.entries
          ∙ unlinked_in-beside w.in-Some.old c.args.chunk item there.0.item c.self.inside.items there.0.there empty
          ∙ ap (λ (items : Items). with_item items c.args.chunk item) (unlinks_found _ _ _ c.args.key w.in-Some.old c.self.invariant.kept found) in
          rw w.self-inside-is (record {
            leads = refl;
            watched = c.self.invariant.watched;
            kept = kept_unlink _ _ _ c.args.key c.self.invariant.kept;
            counted = rw w.count_unheld.ensures.counts (counted_unlinked _ _ _ _ _ c.args.key w.in-Some.old c.self.invariant.counted there.0 there.1.0 there.1.1);
            bulk = c.self.invariant.bulk;
            valid = valid;
            head = head;
            items = stored;
          })
      | in_default w ↦
          let none : linked_chunk c.self.inside.items c.args.key ≡ None = sym (c.self.invariant.indexed c.args.key) ∙ sym c.in-Ok.ensures.before ∙ w.in_default.is in
          let same : unlinked_items c.self.inside.items c.args.key ≡ c.self.inside.items = unlinks_none _ _ _ c.args.key c.self.invariant.kept none in
          let stored : c.store.new.self ≡ with_item (unlinked_items c.self.inside.items c.args.key) c.args.chunk item
          = c.in_ok-store.ensures.entries ∙ ap (λ (items : Items). with_item items c.args.chunk item) (sym same) in
          rw w.self-inside-is (record {
            leads = refl;
            watched = c.self.invariant.watched;
            kept = kept_unlink _ _ _ c.args.key c.self.invariant.kept;
            counted = rw same c.self.invariant.counted;
            bulk = c.self.invariant.bulk;
            valid = valid;
            head = head;
            items = stored;
          })
    ] in
    let empty_still = (is_next _ _ _ c.args.class c.args.chunk ready.kept ready.valid ready.head).empty in
    let nowhere = nowhere-unlinked c.self.inside.items c.args.key in
    record {
      kept = rw (ready.items, c.pop.ensures.popped)
          (kept_store _ _ _ c.args.class c.args.key words c.args.chunk ready.kept ready.valid ready.head (rw c.pop.ensures.popped at c.pop.ensures.accounted) nowhere);
      indexed = rw (ready.leads, ready.items)
          (indexed_stored _ _ c.self.inside.items c.args.key words c.args.chunk c.self.invariant.indexed c.in-Ok.ensures.led empty_still nowhere);
      watched = rw c.pop.ensures.popped (watched-pop c.match-before.self-inside.slabs.state _ ready.watched c.args.class);
      counted = rw (ready.items, c.pop.ensures.popped)
          (counted_come _ _ _ _ _ _ c.args.chunk item ready.counted (length-set c.match-before.self-inside.slabs.state.classes _ _) empty_still refl);
      bulk = ready.bulk;
    }

pub returns-clause-put : goal.returns-clause-put
returns-clause-put c =
    let valid : HasClass c.self.inside.slabs.state c.args.class = rw (ap (λ (m : Machine). m.slabs) c.self.view_is) c.requires.class in
    let head : first_free (class_at c.self.inside.slabs.state c.args.class) ≡ Some c.args.chunk = rw (ap (λ (m : Machine). m.slabs) c.self.view_is) c.requires.free in
    let empty = (is_next _ _ _ c.args.class c.args.chunk c.self.invariant.kept valid head).empty in
    let item : Item = new_item c.args.key (words_of_new c.args.words) in
    let with_items : Items → Machine = λ items. record (machine_of c.self.inside) { items = items } in
    let popped : Machine → Machine = λ m. record m { slabs = after_pop m.slabs c.args.class } in
    let stored : Machine → Machine = λ m. record m { items = with_item (unlinked_items m.items c.args.key) c.args.chunk item } in
    let shown : machine_of c.match-before.self-inside ≡ stored (machine_of c.self.inside) = elim c.match-before.branch [
      | in-Some w ↦
          let found : linked_chunk c.self.inside.items c.args.key ≡ Some w.in-Some.old = sym (c.self.invariant.indexed c.args.key) ∙ sym c.in-Ok.ensures.before ∙ w.in-Some.is in
          let there = leads_linked _ _ _ c.args.key w.in-Some.old c.self.invariant.kept found in
          rw w.self-inside-is (ap with_items (w.unlink.ensures.unlinked
          ∙ ap (λ (items : Items). unlinked_in items w.in-Some.old (item_in_chunk items w.in-Some.old)) c.in_ok-store.ensures.entries
          ∙ unlinked_in-beside w.in-Some.old c.args.chunk item there.0.item c.self.inside.items there.0.there empty
          ∙ ap (λ (items : Items). with_item items c.args.chunk item) (unlinks_found _ _ _ c.args.key w.in-Some.old c.self.invariant.kept found)))
      | in_default w ↦
          let none : linked_chunk c.self.inside.items c.args.key ≡ None = sym (c.self.invariant.indexed c.args.key) ∙ sym c.in-Ok.ensures.before ∙ w.in_default.is in
          rw w.self-inside-is (ap with_items (c.in_ok-store.ensures.entries
          ∙ ap (λ (items : Items). with_item items c.args.chunk item) (sym (unlinks_none _ _ _ c.args.key c.self.invariant.kept none))))
    ] in
    rw c.pop.ensures.popped (ap popped shown ∙ ap (λ (m : Machine). popped (stored m)) c.self.view_is)
