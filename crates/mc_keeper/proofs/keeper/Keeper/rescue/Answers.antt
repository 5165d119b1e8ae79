use Rattle.std.proofs.Common.{◌≡◌, ap, sym, ◌∙◌, Contains, Option, refl}
use Rattle.std.specs.Option.{option_map}
use Rattle.std.proofs.lemmas.Option.{same_Some}
use Rattle.mc_serial_spec.specs.Item.{Item}
use Rattle.mc_serial_spec.specs.Items.{with_found_item, with_item, without_item}
use Rattle.mc_serial_spec.specs.Machine.{Machine}
use Rattle.mc_pages.specs.SlabState.{SlabState, class_of_chunk}
use Rattle.mc_pages.specs.Changes.{after_clear, after_replace}
use Rattle.mc_serial_spec.proofs.KeptMoverClear.{cleared_after, idle_here, handed_item, contains_counted}
use Rattle.mc_serial_spec.proofs.KeptMoverRescue.{kept_rescued, listed_still, vacant}
use Rattle.mc_keeper.proofs.Watched.{watched-clear, watched-replace}
use Rattle.std.proofs.lemmas.List.{length-set}
use Rattle.mc_keeper.proofs.Counted.{counted_come, counted_gone}
use Rattle.mc_keeper.proofs.Indexed.{indexed_moved}
use Rattle.mc_keeper.proofs.keeper.Keeper.rescue.Goals as goal

pub replace-requires-clause-handed_out : goal.replace-requires-clause-handed_out
replace-requires-clause-handed_out c =
    let found = idle_here _ _ c.args.old c.self.view_is c.requires.unheld in
    contains_counted c.args.old (class_of_chunk c.self.inside.slabs.state c.args.old).order (handed_item _ _ _ c.args.old found.0 c.self.invariant.kept found.1)

pub clear-requires-clause-listed : goal.clear-requires-clause-listed
clear-requires-clause-listed c =
    let found = idle_here _ _ c.args.old c.self.view_is c.requires.unheld in
    let free : Contains (class_of_chunk c.self.inside.slabs.state c.args.old).free c.args.new = rw (ap (λ (m : Machine). m.slabs) c.self.view_is) c.requires.free in
    rw c.replace.ensures.replaced (listed_still _ _ _ c.args.old c.args.new found.0 c.self.invariant.kept found.1 found.2 free)

pub invariant_of-self-2 : goal.invariant_of-self-2
invariant_of-self-2 c =
    let found = idle_here _ _ c.args.old c.self.view_is c.requires.unheld in
    let item : Item = found.0 in
    let free : Contains (class_of_chunk c.self.inside.slabs.state c.args.old).free c.args.new = rw (ap (λ (m : Machine). m.slabs) c.self.view_is) c.requires.free in
    let slabs : c.clear.new.self.state ≡ after_clear (after_replace c.self.inside.slabs.state c.args.new c.args.old) c.args.old
    = c.clear.ensures.cleared ∙ ap (λ (s : SlabState). after_clear s c.args.old) c.replace.ensures.replaced in
    let key : c.in-Some.key ≡ item.key
    = same_Some c.in-Some.key item.key (sym c.in-Some.is ∙ c.in_ok-key.ensures.key ∙ ap (λ (o : Option Item). option_map (λ (i : Item). i.key) o) found.1) in
    let moved : c.relocate.new.self ≡ with_item (without_item c.self.inside.items c.args.old) c.args.new item
    = c.in_ok-key.ensures.moved ∙ ap (λ (o : Option Item). with_found_item c.self.inside.items c.args.old c.args.new o) found.1 in
    record {
      kept = rw (slabs, moved)
          (kept_rescued _ _ _ c.args.old c.args.new item c.self.invariant.kept found.1 found.2 free (rw slabs at c.clear.ensures.accounted));
      indexed = rw (c.lead.ensures.led, key, moved)
          (indexed_moved _ _ c.args.old c.args.new item c.self.invariant.indexed c.self.invariant.kept.one_link found.1 found.2
          (vacant _ _ _ c.args.old c.args.new item c.self.invariant.kept found.1 found.2 free));
      watched = rw slabs (watched-clear (after_replace c.self.inside.slabs.state c.args.new c.args.old) _
          (watched-replace c.self.inside.slabs.state _ c.self.invariant.watched c.args.new c.args.old) c.args.old);
      counted = rw (slabs, moved)
          (counted_come _ _ _ _ _ _ c.args.new item
          (counted_gone _ _ _ _ _ _ c.args.old item c.self.invariant.counted
          (length-set (after_replace c.self.inside.slabs.state c.args.new c.args.old).classes _ _ ∙ length-set c.self.inside.slabs.state.classes _ _)
          found.1 found.2) refl
          (vacant _ _ _ c.args.old c.args.new item c.self.invariant.kept found.1 found.2 free) found.2);
      bulk = c.self.invariant.bulk;
    }

pub returns-clause-clears : goal.returns-clause-clears
returns-clause-clears c =
    let found = idle_here _ _ c.args.old c.self.view_is c.requires.unheld in
    let free : Contains (class_of_chunk c.self.inside.slabs.state c.args.old).free c.args.new = rw (ap (λ (m : Machine). m.slabs) c.self.view_is) c.requires.free in
    let slabs : c.clear.new.self.state ≡ after_clear (after_replace c.self.inside.slabs.state c.args.new c.args.old) c.args.old
    = c.clear.ensures.cleared ∙ ap (λ (s : SlabState). after_clear s c.args.old) c.replace.ensures.replaced in
    rw (← c.self.view_is, slabs)
    (cleared_after (after_replace c.self.inside.slabs.state c.args.new c.args.old) c.args.old (rw c.replace.ensures.replaced at c.replace.ensures.accounted)
    (rw slabs at c.clear.ensures.accounted)
    (listed_still _ _ _ c.args.old c.args.new found.0 c.self.invariant.kept found.1 found.2 free))
