-- An item comes into an empty chunk beside another that is unlinked: which of the two is done first doesn't matter.
use Rattle.std.proofs.Common.{◌≡◌, [], ◌∷◌, Bool, true, false, Some, None, inl, inr, refl, ap, sym, ◌∙◌}
use Rattle.std.specs.declared.cmp.Ordering.{Ordering}
use Rattle.std.specs.declared.cmp.Ordering.TheVariants.{Less, Equal, Greater}
use Rattle.std.specs.BTreeMap.{is_at}
use Rattle.mc_pages.specs.declared.ids.ChunkId.{ChunkId}
use Rattle.mc_serial_spec.specs.Item.{Item, item_after_unlink}
use Rattle.mc_serial_spec.specs.Items.{Items, chunk_cmp, item_in_chunk, unlinked_in, with_item, PlacedItem, with_changed_item}
use Rattle.mc_serial_spec.proofs.KeptStore.{is_at-tells}

-- the new chunk is found empty, and the old one is another
module _ (old new : ChunkId) (item : Item) (apart : is_at (chunk_cmp old) new ≡ false) where
  -- what is in the old chunk stays there
  found_step : (o : Ordering) (e : PlacedItem) (items : Items) → chunk_cmp new e.chunk ≡ o → item_in_chunk (e ∷ items) new ≡ None
      → (item_in_chunk items new ≡ None → item_in_chunk (with_item items new item) old ≡ item_in_chunk items old)
      → item_in_chunk (with_item (e ∷ items) new item) old ≡ item_in_chunk (e ∷ items) old
  found_step Less e items is none more = rw (is, apart) refl
  found_step Equal e items is none more = let bad : Some e.item ≡ None = rw is at none in cc
  found_step Greater e items is none more =
      let absent : item_in_chunk items new ≡ None = rw is at none in
      rw (is, more absent) refl

  item_at-beside : (items : Items) → item_in_chunk items new ≡ None → item_in_chunk (with_item items new item) old ≡ item_in_chunk items old
  item_at-beside [] none = rw apart refl
  item_at-beside (e ∷ items) none = found_step (chunk_cmp new e.chunk) e items refl none (item_at-beside items)

  -- and so does what is written there
  set_step : (o : Ordering) (b : Bool) (value : Item) (e : PlacedItem) (items : Items) → chunk_cmp new e.chunk ≡ o → is_at (chunk_cmp old) e.chunk ≡ b
      → item_in_chunk (e ∷ items) new ≡ None
      → (item_in_chunk items new ≡ None
      → with_changed_item (with_item items new item) old value ≡ with_item (with_changed_item items old value) new item)
      → with_changed_item (with_item (e ∷ items) new item) old value ≡ with_item (with_changed_item (e ∷ items) old value) new item
  set_step Less true value e items is at none more = rw (is, apart, at, is) refl
  set_step Less false value e items is at none more = rw (is, apart, at, is) refl
  set_step Equal b value e items is at none more = let bad : Some e.item ≡ None = rw is at none in cc
  set_step Greater true value e items is at none more = rw (is, at, is) refl
  set_step Greater false value e items is at none more =
      let absent : item_in_chunk items new ≡ None = rw is at none in
      rw (is, at, is, more absent) refl

  with_changed_item-beside : (value : Item) (items : Items) → item_in_chunk items new ≡ None
      → with_changed_item (with_item items new item) old value ≡ with_item (with_changed_item items old value) new item
  with_changed_item-beside value [] none = rw apart refl
  with_changed_item-beside value (e ∷ items) none = set_step (chunk_cmp new e.chunk) (is_at (chunk_cmp old) e.chunk) value e items refl refl none (with_changed_item-beside value items)

-- a chunk with an item is another than one without
apart_from : (old new : ChunkId) (there : Item) (items : Items) → item_in_chunk items old ≡ Some there → item_in_chunk items new ≡ None → is_at (chunk_cmp old) new ≡ false
apart_from old new there items some none = elim (is_at-tells old new) [
  | inl same ↦
      let bad : Some there ≡ None = sym some ∙ ap (item_in_chunk items) same.1 ∙ none in
      cc
  | inr other ↦ other.0
]

-- the item of the old chunk is unlinked after another came into the new one, as if it had been before
pub unlinked_in-beside : (old new : ChunkId) (item there : Item) (items : Items) → item_in_chunk items old ≡ Some there → item_in_chunk items new ≡ None
    → unlinked_in (with_item items new item) old (item_in_chunk (with_item items new item) old) ≡ with_item (unlinked_in items old (item_in_chunk items old)) new item
unlinked_in-beside old new item there items some none =
    let apart : is_at (chunk_cmp old) new ≡ false = apart_from old new there items some none in
    rw (item_at-beside old new item apart items none, some) (with_changed_item-beside old new item apart (item_after_unlink there) items none)
