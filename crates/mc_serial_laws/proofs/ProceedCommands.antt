-- The machine goes on as commands ask it to: an item becomes the youngest, a page begins to move, a key is unlinked.
use Rattle.std.proofs.Common.{◌≡◌, ℕ, Bool, true, false, Option, Some, None, Result, Ok, Err, refl, ap, sym, ◌∙◌, arith, Contains}
use Rattle.std.specs.Prelude.{if◌then◌else◌}
use Rattle.std.specs.Option.{option_map}
use Rattle.std.proofs.lemmas.Bool.{false≢true}
use Rattle.std.proofs.lemmas.Option.{none-some, same_Some}
use Rattle.mc_pages.specs.declared.ids.ChunkId.{ChunkId}
use Rattle.mc_pages.specs.SlabState.{class_of_chunk}
use Rattle.mc_pages.specs.Answer.{answer_of}
use Rattle.mc_pages.specs.Changes.{after_touch}
use Rattle.mc_pages.specs.InOrder.{AreSlabsInOrder}
use Rattle.mc_pages.specs.Moves.{after_begin}
use Rattle.mc_pages.specs.declared.moves.Reassign.{Reassign}
use Rattle.mc_pages.proofs.Kept.{IsInOrder-after_begin, IsInOrder-after_touch}
use Rattle.mc_watch.specs.declared.decider.Decision.{Decision}
use Rattle.mc_serial_spec.specs.Item.{Item, is_linked_to, item_after_unlink}
use Rattle.mc_serial_spec.specs.Items.{Items, item_in_chunk, linked_chunk, unlinked_items}
use Rattle.mc_serial_spec.specs.Machine.{Machine, all_swept, with_mode}
use Rattle.mc_serial_spec.specs.Automove.{machine_after_begin, with_window}
use Rattle.mc_serial_spec.specs.Lines.{decision_outcome}
use Rattle.mc_serial_laws.proofs.ProceedSweeps.{proceeds_all_swept}
use Rattle.mc_serial_laws.specs.Answered.{HeldWords}
use Rattle.mc_serial_laws.proofs.FoundItems.{item_at-unlinked_items, unlinked_from}
use Rattle.mc_serial_spec.proofs.KeptBegin.{kept_begin}
use Rattle.mc_serial_spec.proofs.KeptChanges.{kept_unlink}
use Rattle.mc_serial_spec.proofs.KeptTouch.{kept_touch, leads_to_handed_out}
use Rattle.mc_serial_laws.proofs.Lawful.{IsLawful, off, Proceeds, as_held, lawful_from, proceeds_from, proceeds_same, proceeds_slabs, proceeds_then, stored_as}

pub proceeds_touched : (m : Machine) (key : ℕ) (chunk : ChunkId) → IsLawful m → linked_chunk m.items key ≡ Some chunk
    → Proceeds m (record m { slabs = after_touch m.slabs chunk })
proceeds_touched m key chunk lawful leads =
    let handed : Contains (class_of_chunk m.slabs chunk).order chunk
    = leads_to_handed_out m.table (off m.slabs) m.items key chunk lawful.kept leads in
    let order : AreSlabsInOrder (off (after_touch m.slabs chunk)) lawful.granted = IsInOrder-after_touch (off m.slabs) lawful.granted chunk lawful.order handed in
    proceeds_slabs m (after_touch m.slabs chunk) lawful.granted lawful
    (kept_touch m.table (off m.slabs) m.items chunk lawful.kept handed order.accounted) order (omega arith) refl

pub proceeds_begun : (m : Machine) (src : Option ℕ) (source dst : ℕ) → IsLawful m → answer_of m.slabs src dst ≡ Ok source
    → Proceeds m (record m { slabs = after_begin m.slabs src source dst })
proceeds_begun m src source dst lawful answer =
    let order : AreSlabsInOrder (off (after_begin m.slabs src source dst)) lawful.granted = IsInOrder-after_begin (off m.slabs) lawful.granted src source dst lawful.order answer in
    proceeds_slabs m (after_begin m.slabs src source dst) lawful.granted lawful
    (kept_begin m.table (off m.slabs) m.items src source dst lawful.kept answer order.accounted) order (omega arith) refl

-- a page is asked for
pub proceeds_asked : (m : Machine) (src : Option ℕ) (dst : ℕ) (answer : Result ℕ Reassign) → IsLawful m → answer_of m.slabs src dst ≡ answer
    → Proceeds m (machine_after_begin m src dst answer)
proceeds_asked m src dst (Err refusal) lawful is = proceeds_same m lawful
proceeds_asked m src dst (Ok source) lawful is = proceeds_begun m src source dst lawful is

-- the automover's mode changes
pub lawful_automove : (m : Machine) (mode : ℕ) → IsLawful m → IsLawful (record m { slabs = with_mode m.slabs mode })
lawful_automove m mode lawful = record {
  kept = lawful.kept;
  granted = lawful.granted;
  order = lawful.order;
  workers = lawful.workers;
  within_limit = lawful.within_limit;
  stored = lawful.stored;
}

-- a window ends
pub proceeds_fed : (m : Machine) → IsLawful m → Proceeds m (with_window (all_swept m))
proceeds_fed m lawful =
    let swept : Machine = all_swept m in
    let first : Proceeds m swept = proceeds_all_swept m lawful in
    proceeds_then m swept (with_window swept) first
    (proceeds_from swept (with_window swept) first.lawful.granted first.lawful first.lawful.kept first.lawful.order (omega arith) refl refl refl
    (λ worker chunk held. refl) (λ chunk item at is. (chunk, at)))

-- and its decision is acted on
pub proceeds_acted : (m : Machine) (found : Option Decision) → IsLawful m → Proceeds m (decision_outcome m found).machine
proceeds_acted m None lawful = proceeds_same m lawful
proceeds_acted m (Some d) lawful = proceeds_asked m (Some d.src) d.dst (answer_of m.slabs (Some d.src) d.dst) lawful refl

-- an item that was unlinked or not is the same to whoever holds it
held_unlinked : (b : Bool) (item : Item) → as_held (if b then item_after_unlink item else item) ≡ as_held item
held_unlinked true item = refl
held_unlinked false item = refl

pub stands_unlinked : (key : ℕ) (items : Items) (chunk : ChunkId) → stored_as (unlinked_items items key) chunk ≡ stored_as items chunk
stands_unlinked key items chunk = ap (option_map as_held) (item_at-unlinked_items key items chunk) ∙ same_held (item_in_chunk items chunk)
  where
    same_held : (found : Option Item) → option_map as_held (option_map (unlinked_from key) found) ≡ option_map as_held found
    same_held None = refl
    same_held (Some item) = ap (λ (h : HeldWords). Some h) (held_unlinked (is_linked_to key item) item)

-- a linked item that is found after a key was unlinked: the key doesn't lead to it, and it was there before
pub linked_still : (key : ℕ) (items : Items) (chunk : ChunkId) (item : Item) → item_in_chunk (unlinked_items items key) chunk ≡ Some item → item.linked ≡ true
    → (item_in_chunk items chunk ≡ Some item) × (is_linked_to key item ≡ false)
linked_still key items chunk item at linked = found_in (item_in_chunk items chunk) refl (sym (item_at-unlinked_items key items chunk) ∙ at)
  where
    found_way : (b : Bool) (found : Item) → is_linked_to key found ≡ b → item_in_chunk items chunk ≡ Some found → (if b then item_after_unlink found else found) ≡ item
        → (item_in_chunk items chunk ≡ Some item) × (is_linked_to key item ≡ false)
    found_way true found is there same =
        let bad : false ≡ item.linked = ap (λ (i : Item). i.linked) same in
        absurd (false≢true (bad ∙ linked))
    found_way false found is there same = (there ∙ ap (λ (i : Item). Some i) same, rw (← same) is)

    found_in : (found : Option Item) → item_in_chunk items chunk ≡ found → option_map (unlinked_from key) found ≡ Some item
        → (item_in_chunk items chunk ≡ Some item) × (is_linked_to key item ≡ false)
    found_in None there bad = absurd (none-some item bad)
    found_in (Some found) there same =
        found_way (is_linked_to key found) found refl there (same_Some (unlinked_from key found) item same)

pub lawful_unlinked : (m : Machine) (key : ℕ) → IsLawful m → IsLawful (record m { items = unlinked_items m.items key })
lawful_unlinked m key lawful =
    lawful_from m (record m { items = unlinked_items m.items key }) lawful.granted lawful
    (kept_unlink m.table (off m.slabs) m.items key lawful.kept) lawful.order refl
    (λ worker chunk held. stands_unlinked key m.items chunk)
