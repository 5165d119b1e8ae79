-- The index leads on where the items' keys lead, through each change of the items.
use Rattle.std.proofs.Common.{◌≡◌, ℕ, ◌≤◌, List, [], ◌∷◌, Bool, true, false, Some, None, refl, ap, sym, ◌∙◌, arith, eq-eqb}
use Rattle.std.specs.Prelude.{◌==◌, if◌then◌else◌}
use Rattle.std.specs.Ordering.{nat_cmp}
use Rattle.std.specs.BTreeMap.{is_at}
use Rattle.std.specs.Map.{set_value}
use Rattle.std.proofs.lemmas.Bool.Decides.{nat_tests}
use Rattle.mc_pages.specs.declared.ids.ChunkId.{ChunkId}
use Rattle.mc_pages.specs.Accounted.{truth}
use Rattle.mc_serial_spec.specs.Consistent.{links_of_key}
use Rattle.mc_serial_spec.specs.Item.{Item, is_linked_to, new_item}
use Rattle.mc_serial_spec.specs.Items.{Items, item_in_chunk, linked_chunk, unlinked_items, with_item, without_item}
use Rattle.mc_serial_spec.proofs.KeptMoverClear.{leads_nowhere, leads_without, links_without}
use Rattle.mc_serial_spec.proofs.KeptMoverRescue.{leads_from, leads_on, leads_to}
use Rattle.mc_serial_spec.proofs.Links.{linked_chunk-unlinked_items, linked_chunk-with_item}
use Rattle.mc_serial_parts.specs.Leads.{chunk_led_to, IsLed}
use Rattle.mc_keeper.specs.Kept.{IsIndexed}

-- nothing is stored yet
pub indexed_fresh : (index : List (ℕ × ChunkId)) (items : Items) → index ≡ [] → items ≡ [] → IsIndexed index items
indexed_fresh index items no_keys no_items = rw (no_keys, no_items) (λ key. refl)

-- an item that no key leads to is gone
pub indexed_dead : (index : List (ℕ × ChunkId)) (items : Items) (chunk : ChunkId) (item : Item) → IsIndexed index items
    → item_in_chunk items chunk ≡ Some item → item.linked ≡ false → IsIndexed index (without_item items chunk)
indexed_dead index items chunk item indexed there dead key =
    indexed key ∙ sym (leads_without key chunk item items there (rw dead refl))

-- an item that its key leads to is gone, and the key with it
pub indexed_gone : (index new : List (ℕ × ChunkId)) (items : Items) (chunk : ChunkId) (item : Item) (gone : ℕ) → IsIndexed index items
    → ((key : ℕ) → links_of_key key items ≤ 1) → item_in_chunk items chunk ≡ Some item → item.linked ≡ true → gone ≡ item.key → IsLed index new gone None
    → IsIndexed new (without_item items chunk)
indexed_gone index new items chunk item gone indexed one_link there linked its led key = leads_step (item.key == key) refl
  where
    leads_step : (b : Bool) → (item.key == key) ≡ b → chunk_led_to new key ≡ linked_chunk (without_item items chunk) key
    leads_step true same =
        let to : is_linked_to key item ≡ true = rw (linked, same) refl in
        let none : links_of_key key (without_item items chunk) ≡ 0 = omega (arith, one_link key, links_without key chunk item items there, ap truth to) in
        let at : is_at (nat_cmp gone) key ≡ true = grind (arith, nat_tests) in
        led key ∙ rw at (sym (leads_nowhere key (without_item items chunk) none))
    leads_step false other =
        let to : is_linked_to key item ≡ false = rw (linked, other) refl in
        let at : is_at (nat_cmp gone) key ≡ false = grind (arith, nat_tests) in
        led key ∙ rw at (indexed key ∙ sym (leads_without key chunk item items there to))

-- a key's item is unlinked
pub indexed_unlinked : (index new : List (ℕ × ChunkId)) (items : Items) (key : ℕ) → IsIndexed index items → IsLed index new key None
    → IsIndexed new (unlinked_items items key)
indexed_unlinked index new items key indexed led = λ q.
    grind (arith, nat_tests, led q, indexed q, linked_chunk-unlinked_items q key items)

-- a new item is there, and its key's old one unlinked
pub indexed_stored : (index new : List (ℕ × ChunkId)) (items : Items) (key : ℕ) (words : List ℕ) (chunk : ChunkId) → IsIndexed index items
    → IsLed index new key (Some chunk) → item_in_chunk (unlinked_items items key) chunk ≡ None → linked_chunk (unlinked_items items key) key ≡ None
    → IsIndexed new (with_item (unlinked_items items key) chunk (new_item key words))
indexed_stored index new items key words chunk indexed led empty nowhere = λ q.
    grind (
      arith,
      nat_tests,
      led q,
      indexed q,
      linked_chunk-unlinked_items q key items,
      linked_chunk-with_item q key words chunk (unlinked_items items key) empty nowhere,
    )

-- what a look-up finds after a value was set
found_set : (q key : ℕ) (old new : ChunkId) (index : List (ℕ × ChunkId)) → chunk_led_to index key ≡ Some old
    → chunk_led_to (set_value (is_at (nat_cmp key)) index new) q ≡ (if key == q then Some new else chunk_led_to index q)
found_set q key old new [] h = cc
found_set q key old new (e ∷ index) h = grind (arith, nat_tests, found_set q key old new index)

-- an item comes from one chunk into another, which is empty: its key leads to the new one, and each other where it led
pub indexed_moved : (index : List (ℕ × ChunkId)) (items : Items) (old new : ChunkId) (item : Item) → IsIndexed index items
    → ((key : ℕ) → links_of_key key items ≤ 1) → item_in_chunk items old ≡ Some item → item.linked ≡ true → item_in_chunk (without_item items old) new ≡ None
    → IsIndexed (set_value (is_at (nat_cmp item.key)) index new) (with_item (without_item items old) new item)
indexed_moved index items old new item indexed one_link there linked vacant key = leads_case (item.key == key) refl
  where
    found : chunk_led_to index item.key ≡ Some old
    found =
        let to : is_linked_to item.key item ≡ true = rw (linked, eq-eqb item.key item.key refl) refl in
        indexed item.key ∙ leads_from item.key old item items there to (one_link item.key)

    leads_case : (b : Bool) → (item.key == key) ≡ b
        → chunk_led_to (set_value (is_at (nat_cmp item.key)) index new) key ≡ linked_chunk (with_item (without_item items old) new item) key
    leads_case true same =
        let to : is_linked_to key item ≡ true = rw (linked, same) refl in
        let none : links_of_key key (without_item items old) ≡ 0 = omega (arith, one_link key, links_without key old item items there, ap truth to) in
        found_set key item.key old new index found ∙ rw same
        (sym (leads_to key new item (without_item items old) vacant to (leads_nowhere key (without_item items old) none)))
    leads_case false other =
        let to : is_linked_to key item ≡ false = rw (linked, other) refl in
        found_set key item.key old new index found ∙ rw other
        (indexed key ∙ sym (leads_without key old item items there to) ∙ sym (leads_on key new item (without_item items old) vacant to))
