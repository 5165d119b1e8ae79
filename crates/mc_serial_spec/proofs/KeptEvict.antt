-- A machine stays consistent as an item is evicted.
use Rattle.std.proofs.Common.{◌≡◌, ℕ, length, true, false, Option, Some, None, refl, inl, inr, ◌∙◌, arith}
use Rattle.std.specs.Option.{option_map_or}
use Rattle.std.proofs.lemmas.List.{length-set}
use Rattle.std.proofs.lemmas.Bool.Decides.{leb_tells}
use Rattle.mc_classes.specs.Classes.{Classes}
use Rattle.mc_pages.specs.declared.ids.ChunkId.{ChunkId}
use Rattle.mc_pages.specs.ClassState.{class_after_eviction}
use Rattle.mc_pages.specs.SlabState.{SlabState, HasClass, class_at, class_of_page}
use Rattle.mc_pages.specs.Accounted.{IsAccounted}
use Rattle.mc_pages.specs.Changes.{after_back, after_evicted}
use Rattle.mc_serial_spec.specs.Item.{Item}
use Rattle.mc_serial_spec.specs.Items.{Items, item_in_chunk, has_linked_item, without_item}
use Rattle.mc_serial_spec.specs.Consistent.{place_count, IsConsistent}
use Rattle.mc_serial_spec.proofs.KeptChanges.{kept_back, listed}
use Rattle.mc_serial_spec.proofs.Links.{some_places}
use Rattle.mc_pages.proofs.ClassChanges.{order-with_class, per_pages-with_class}

-- what has an item that its key leads to is there
pub linked_item : (items : Items) (x : ChunkId) → has_linked_item items x ≡ true → (item : Item) × (item_in_chunk items x ≡ Some item) × (item.linked ≡ true)
linked_item items x is = found_in (item_in_chunk items x) refl is
  where
    found_in : (found : Option Item) → item_in_chunk items x ≡ found → option_map_or (λ (item : Item). item.linked) found false ≡ true
        → (item : Item) × (item_in_chunk items x ≡ Some item) × (item.linked ≡ true)
    found_in None at bad = cc
    found_in (Some item) at holds = (item, at, holds)

-- after an eviction is counted
pub kept_counted : (table : Classes) (slabs : SlabState) (items : Items) (class : ℕ)
    → IsConsistent table slabs items → IsAccounted (after_evicted slabs class) → IsConsistent table (after_evicted slabs class) items
kept_counted table slabs items class kept accounted =
    let classes : length (after_evicted slabs class).classes ≡ length slabs.classes = length-set slabs.classes _ _ in
    record {
      sound = kept.sound;
      classes = classes ∙ kept.classes;
      per_page = per_pages-with_class slabs class (class_after_eviction (class_at slabs class)) refl ∙ kept.per_page;
      page = kept.page;
      limit = kept.limit;
      whole = kept.whole;
      accounted = accounted;
      one_link = kept.one_link;
      handed_out = λ y. elim (leb_tells 1 (place_count y items)) [
        | inl some ↦
            let there : HasClass slabs (class_of_page slabs y.page) = listed table slabs items y kept some.1 in
            rw (order-with_class slabs class (class_of_page slabs y.page) (class_after_eviction (class_at slabs class)) there refl) (kept.handed_out y)
        | inr none ↦ omega (arith, none.1)
      ];
      stored = λ n y valid_new.
          let there : HasClass slabs n = (valid_new.0, rw (← classes) valid_new.1) in
          rw (order-with_class slabs class n (class_after_eviction (class_at slabs class)) there refl) (kept.stored n y there);
    }

-- after the item of a chunk is gone, and the chunk is put back
pub kept_unstore : (table : Classes) (slabs : SlabState) (items : Items) (x : ChunkId) (item : Item)
    → IsConsistent table slabs items → IsAccounted (after_back slabs x) → item_in_chunk items x ≡ Some item
    → IsConsistent table (after_back slabs x) (without_item items x)
kept_unstore table slabs items x item kept accounted at =
    kept_back table slabs items x kept accounted (some_places x item items at)

-- and after the eviction is counted
pub kept_evict : (table : Classes) (slabs : SlabState) (items : Items) (class : ℕ) (x : ChunkId) (item : Item)
    → IsConsistent table slabs items → IsAccounted (after_back slabs x) → IsAccounted (after_evicted (after_back slabs x) class)
    → item_in_chunk items x ≡ Some item → IsConsistent table (after_evicted (after_back slabs x) class) (without_item items x)
kept_evict table slabs items class x item kept accounted counted at =
    kept_counted table (after_back slabs x) (without_item items x) class
    (kept_unstore table slabs items x item kept accounted at) counted
