-- The machine goes on by itself: a chunk of the moving page is cleared, and its item is gone or comes into another chunk.
use Rattle.std.proofs.Common.{◌≡◌, ℕ, ◌≤◌, true, false, cond, Some, None, refl, ap, sym, ◌∙◌, subst, arith, inl, inr, Contains}
use Rattle.std.specs.Option.{option_map}
use Rattle.std.specs.BTreeMap.{is_at}
use Rattle.std.proofs.lemmas.Bool.{and_parts, not-true}
use Rattle.mc_pages.specs.declared.ids.ChunkId.{ChunkId}
use Rattle.mc_pages.specs.declared.ids.Moving.{Moving}
use Rattle.mc_pages.specs.ClassState.{times_in}
use Rattle.mc_pages.specs.SlabState.{HasClass, class_at, class_of_page, class_of_chunk}
use Rattle.mc_pages.specs.Accounted.{places_in, is_cleared}
use Rattle.mc_pages.specs.Changes.{after_clear, after_replace}
use Rattle.mc_pages.specs.InOrder.{AreSlabsInOrder}
use Rattle.mc_pages.proofs.Kept.{IsInOrder-after_clear, IsInOrder-after_replace}
use Rattle.mc_serial_spec.specs.Item.{Item}
use Rattle.mc_serial_spec.specs.Items.{Items, chunk_cmp, item_in_chunk, has_linked_item, has_unlinked_item, with_item, without_item, with_found_item, with_moved_item}
use Rattle.mc_serial_spec.specs.Holds.{is_held, held_by}
use Rattle.mc_serial_spec.specs.Consistent.{place_count}
use Rattle.mc_serial_spec.specs.Machine.{Machine, is_dead_in, has_unheld_linked_item}
use Rattle.mc_serial_spec.specs.Mover.{with_cleared}
use Rattle.mc_serial_spec.proofs.Chunks.{none-places, places_none}
use Rattle.mc_serial_laws.proofs.FoundItems.{found_before, item_at-with_item}
use Rattle.mc_serial_spec.proofs.KeptChanges.{place_once}
use Rattle.mc_serial_spec.proofs.KeptMoverClear.{cleared_after, contains_counted, dead_here, handed_item, idle_here, kept_cleared, kept_freed}
use Rattle.mc_serial_spec.proofs.KeptMoverRescue.{kept_rescued, listed_still, vacant}
use Rattle.mc_serial_spec.proofs.KeptStore.{is_at-tells}
use Rattle.mc_pages.proofs.ListedChunks.{in_lists_once}
use Rattle.mc_serial_spec.proofs.Sweeps.{item_at-without_item}
use Rattle.mc_serial_laws.proofs.Lawful.{IsLawful, off, Proceeds, not_held, proceeds_from, proceeds_slabs, proceeds_without}

-- the machine went on, and the chunk is cleared
pub record Clears (m new : Machine) (class : ℕ) (chunk : ChunkId) : Type 0 where
  pub proceeds : Proceeds m new
  pub cleared : is_cleared new.slabs class chunk ≡ true

-- a chunk of the moving page, which its class cut
module _ (m : Machine) (class : ℕ) (chunk : ChunkId) (lawful : IsLawful m) (valid : HasClass m.slabs class)
    (moving : option_map (λ (move : Moving). move.page) m.slabs.moving ≡ Some chunk.page) (own : class_of_page m.slabs chunk.page ≡ class) where
  -- a free chunk has no item
  empty_free : 1 ≤ times_in chunk (class_at m.slabs class).free → item_in_chunk m.items chunk ≡ None
  empty_free free =
      let held : place_count chunk m.items ≤ times_in chunk (class_at m.slabs class).order = rw own at (lawful.kept.handed_out chunk) in
      none-places chunk m.items (omega (arith, held, free, in_lists_once (off m.slabs) class chunk lawful.kept.accounted valid))

  pub clears_free : 1 ≤ times_in chunk (class_at m.slabs class).free → Clears m (record m { slabs = after_clear m.slabs chunk }) class chunk
  clears_free free =
      let placed : 1 ≤ places_in m.slabs (class_of_page m.slabs chunk.page) chunk = rw own (omega (arith, free)) in
      let valid_own : HasClass m.slabs (class_of_page m.slabs chunk.page) = rw own valid in
      let order : AreSlabsInOrder (off (after_clear m.slabs chunk)) lawful.granted = IsInOrder-after_clear (off m.slabs) lawful.granted chunk lawful.order moving placed in
      record {
        proceeds = proceeds_slabs m (after_clear m.slabs chunk) lawful.granted lawful
            (kept_freed m.table (off m.slabs) m.items chunk lawful.kept (empty_free free) valid_own order.accounted) order (omega arith) refl;
        cleared = ap (λ n. is_cleared (after_clear m.slabs chunk) n chunk) (sym own)
            ∙ cleared_after (off m.slabs) chunk lawful.kept.accounted order.accounted placed;
      }

  -- a chunk whose item nobody holds
  clears_item : (item : Item) → item_in_chunk m.items chunk ≡ Some item → is_held m.holds chunk ≡ false
      → Clears m (with_cleared m chunk) class chunk
  clears_item item there free =
      let placed : 1 ≤ places_in m.slabs (class_of_page m.slabs chunk.page) chunk
      = omega (arith, handed_item m.table (off m.slabs) m.items chunk item lawful.kept there) in
      let order : AreSlabsInOrder (off (after_clear m.slabs chunk)) lawful.granted = IsInOrder-after_clear (off m.slabs) lawful.granted chunk lawful.order moving placed in
      record {
        proceeds = proceeds_without m (after_clear m.slabs chunk) chunk item lawful there free
            (kept_cleared m.table (off m.slabs) m.items chunk item lawful.kept there order.accounted) order refl;
        cleared = ap (λ n. is_cleared (after_clear m.slabs chunk) n chunk) (sym own)
            ∙ cleared_after (off m.slabs) chunk lawful.kept.accounted order.accounted placed;
      }

  pub clears_dead : is_dead_in m chunk ≡ true → Clears m (with_cleared m chunk) class chunk
  clears_dead dead =
      let found = dead_here m m chunk refl dead in
      clears_item found.0 found.1 (not-true (is_held m.holds chunk) (and_parts (has_unlinked_item m.items chunk) _ dead).1)

  pub clears_idle : has_unheld_linked_item m chunk ≡ true → Clears m (with_cleared m chunk) class chunk
  clears_idle idle =
      let found = idle_here m m chunk refl idle in
      clears_item found.0 found.1
      (not-true (is_held m.holds chunk) (and_parts (has_linked_item m.items chunk) _ idle).1)

-- an idle item comes from a chunk of the moving page into a free one
module _ (m : Machine) (class : ℕ) (old new : ChunkId) (item : Item) (lawful : IsLawful m) (own : class_of_page m.slabs old.page ≡ class)
    (moving : option_map (λ (move : Moving). move.page) m.slabs.moving ≡ Some old.page)
    (there : item_in_chunk m.items old ≡ Some item) (linked : item.linked ≡ true) (unheld : is_held m.holds old ≡ false)
    (free : Contains (class_of_chunk m.slabs old).free new) where
  items_rescued : Items
  items_rescued = with_item (without_item m.items old) new item

  none_new : item_in_chunk (without_item m.items old) new ≡ None
  none_new = vacant m.table (off m.slabs) m.items old new item lawful.kept there linked free

  found_rescued : (c : ChunkId) → item_in_chunk items_rescued c ≡ cond (is_at (chunk_cmp c) new) (Some item) (item_in_chunk (without_item m.items old) c)
  unfolding items_rescued
  found_rescued c = item_at-with_item new item c (without_item m.items old) none_new

  stands_rescued : (worker : ℕ) (c : ChunkId) → 1 ≤ times_in c (held_by m.holds worker) → item_in_chunk items_rescued c ≡ item_in_chunk m.items c
  stands_rescued worker c held =
      let same : item_in_chunk (without_item m.items old) c ≡ item_in_chunk m.items c
      = item_at-without_item m.items old c (not_held m.holds old c worker unheld held) in
      elim (is_at-tells c new) [
        | inl here ↦
            let none : item_in_chunk m.items c ≡ None
            = sym same ∙ ap (λ (x : ChunkId). item_in_chunk (without_item m.items old) x) here.1 ∙ none_new in
            absurd (omega (arith, lawful.stored worker c held, places_none c m.items none))
        | inr other ↦
            found_rescued c ∙ ap (λ b. cond b (Some item) (item_in_chunk (without_item m.items old) c)) other.0 ∙ same
      ]

  linked_rescued : (c : ChunkId) (found : Item) → item_in_chunk items_rescued c ≡ Some found → (before : ChunkId) × (item_in_chunk m.items before ≡ Some found)
  linked_rescued c found at = elim (is_at-tells c new) [
    | inl here ↦
        let one : Some item ≡ Some found
        = sym (found_rescued c ∙ ap (λ b. cond b (Some item) (item_in_chunk (without_item m.items old) c)) here.0) ∙ at in
        (old, there ∙ one)
    | inr other ↦
        let below : item_in_chunk (without_item m.items old) c ≡ Some found
        = sym (found_rescued c ∙ ap (λ b. cond b (Some item) (item_in_chunk (without_item m.items old) c)) other.0) ∙ at in
        (c, found_before m.items old item c found there (place_once m.table (off m.slabs) m.items old lawful.kept) below)
  ]

  listed_old : 1 ≤ places_in (after_replace m.slabs new old) (class_of_page m.slabs old.page) old
  listed_old = listed_still m.table (off m.slabs) m.items old new item lawful.kept there linked free

  order_replaced : AreSlabsInOrder (off (after_replace m.slabs new old)) lawful.granted
  order_replaced =
      IsInOrder-after_replace (off m.slabs) lawful.granted new old lawful.order free
      (contains_counted old (class_of_chunk m.slabs old).order (handed_item m.table (off m.slabs) m.items old item lawful.kept there))

  order_rescued : AreSlabsInOrder (off (after_clear (after_replace m.slabs new old) old)) lawful.granted
  order_rescued = IsInOrder-after_clear (off (after_replace m.slabs new old)) lawful.granted old order_replaced moving listed_old

  rescued_to : Proceeds m (record m { slabs = after_clear (after_replace m.slabs new old) old; items = with_item (without_item m.items old) new item })
  unfolding items_rescued
  rescued_to =
      proceeds_from m (record m { slabs = after_clear (after_replace m.slabs new old) old; items = with_item (without_item m.items old) new item })
      lawful.granted lawful
      (kept_rescued m.table (off m.slabs) m.items old new item lawful.kept there linked free order_rescued.accounted) order_rescued (omega arith) refl refl refl
      stands_rescued
      (λ c found at is. linked_rescued c found at)

  pub clears_rescued : Clears m (record m { slabs = after_clear (after_replace m.slabs new old) old; items = with_moved_item m.items old new }) class old
  clears_rescued = record {
    proceeds = subst (λ (items : Items). Proceeds m (record m { slabs = after_clear (after_replace m.slabs new old) old; items = items }))
        (sym (ap (with_found_item m.items old new) there)) rescued_to;
    cleared = ap (λ n. is_cleared (after_clear (after_replace m.slabs new old) old) n old) (sym own)
        ∙ cleared_after (off (after_replace m.slabs new old)) old order_replaced.accounted order_rescued.accounted listed_old;
  }
