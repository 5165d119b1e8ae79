use Rattle.std.proofs.Common.{◌≡◌, true, Option, Contains, sym, ap, subst, ◌∙◌, ℕ}
use Rattle.std.specs.Option.{option_map}
use Rattle.std.proofs.lemmas.Option.{same_Some}
use Rattle.mc_serial_spec.specs.Item.{Item}
use Rattle.std.proofs.lemmas.Bool.{and_parts}
use Rattle.std.proofs.lemmas.List.{length-set}
use Rattle.mc_pages.specs.SlabState.{HasClass, class_at}
use Rattle.mc_pages.specs.Changes.{after_back}
use Rattle.mc_pages.proofs.HandedOut.{class_of_handed_out}
use Rattle.mc_serial_spec.specs.Items.{has_linked_item}
use Rattle.mc_serial_spec.specs.Machine.{Machine}
use Rattle.mc_serial_spec.proofs.KeptEvict.{kept_evict, linked_item}
use Rattle.mc_keeper.proofs.Watched.{watched-back, watched-evicted}
use Rattle.mc_keeper.proofs.Counted.{counted_gone}
use Rattle.mc_keeper.proofs.Indexed.{indexed_gone}
use Rattle.mc_keeper.proofs.keeper.Keeper.evict.Goals as goal

pub back-requires : goal.back-requires
back-requires c =
    let valid : HasClass c.self.inside.slabs.state c.args.class = rw (ap (λ (m : Machine). m.slabs) c.self.view_is) c.requires.class in
    let listed : Contains (class_at c.self.inside.slabs.state c.args.class).order c.args.chunk = rw (ap (λ (m : Machine). m.slabs) c.self.view_is) c.requires.listed in
    subst (λ (n : ℕ). Contains (class_at c.self.inside.slabs.state n).order c.args.chunk)
    (sym (class_of_handed_out c.self.inside.slabs.state c.args.class c.args.chunk c.self.invariant.kept.accounted valid listed)) listed

pub invariant_of-self : goal.invariant_of-self
invariant_of-self c =
    let valid : HasClass c.self.inside.slabs.state c.args.class = rw (ap (λ (m : Machine). m.slabs) c.self.view_is) c.requires.class in
    let idle : has_linked_item c.self.inside.items c.args.chunk ≡ true = rw (ap (λ (m : Machine). m.items) c.self.view_is) (and_parts _ _ c.requires.unheld).0 in
    let found = linked_item c.self.inside.items c.args.chunk idle in
    let key : c.in-Some.key ≡ found.0.key
    = same_Some c.in-Some.key found.0.key (c.in-Some.ensures.key ∙ ap (λ (o : Option Item). option_map (λ (item : Item). item.key) o) found.1) in
    record {
      kept = rw (c.evicted.ensures.evicted, c.back.ensures.back, c.remove.ensures.entries)
          (kept_evict _ _ _ c.args.class c.args.chunk found.0 c.self.invariant.kept
          (rw c.back.ensures.back at c.back.ensures.accounted) (rw (c.evicted.ensures.evicted, c.back.ensures.back) at c.evicted.ensures.accounted)
          found.1);
      indexed = rw c.remove.ensures.entries
          (indexed_gone _ _ _ c.args.chunk found.0 c.in-Some.key c.self.invariant.indexed c.self.invariant.kept.one_link found.1 found.2 key c.remove-in-Some.ensures.led);
      watched = rw (c.evicted.ensures.evicted, c.back.ensures.back) (watched-evicted (after_back c.self.inside.slabs.state c.args.chunk) c.args.class _ (valid.0, rw (length-set c.self.inside.slabs.state.classes _ _) valid.1)
          (watched-back c.self.inside.slabs.state _ c.self.invariant.watched c.args.chunk));
      counted = rw (c.evicted.ensures.evicted, c.back.ensures.back, c.remove.ensures.entries)
          (counted_gone _ _ _ _ _ _ c.args.chunk found.0 c.self.invariant.counted
          (length-set (after_back c.self.inside.slabs.state c.args.chunk).classes _ _ ∙ length-set c.self.inside.slabs.state.classes _ _) found.1 found.2);
      bulk = c.self.invariant.bulk;
    }

-- the chunk has an item
pub invariant_of-self-in_default : goal.invariant_of-self-in_default
invariant_of-self-in_default c =
    let idle : has_linked_item c.self.inside.items c.args.chunk ≡ true = rw (ap (λ (m : Machine). m.items) c.self.view_is) (and_parts _ _ c.requires.unheld).0 in
    let found = linked_item c.self.inside.items c.args.chunk idle in
    absurd (c.in_default.not-Some found.0.key (c.remove.ensures.key ∙ ap (λ (o : Option Item). option_map (λ (item : Item). item.key) o) found.1))
