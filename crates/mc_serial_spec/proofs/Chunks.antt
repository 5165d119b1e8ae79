-- How often a chunk stands among the items, through each change of the items.
use Rattle.std.proofs.Common.{◌≡◌, ℕ, ◌+◌, ◌≤◌, [], ◌∷◌, false, Some, None, refl, arith}
use Rattle.std.proofs.lemmas.Bool.Decides.{nat_tests}
use Rattle.std.specs.declared.cmp.Ordering.{Ordering}
use Rattle.std.specs.declared.cmp.Ordering.TheVariants.{Less, Equal, Greater}
use Rattle.std.specs.BTreeMap.{is_at}
use Rattle.mc_pages.specs.declared.ids.ChunkId.{ChunkId}
use Rattle.mc_pages.specs.ClassState.{is_chunk}
use Rattle.mc_pages.specs.Accounted.{truth}
use Rattle.mc_serial_spec.specs.Item.{Item}
use Rattle.mc_serial_spec.specs.Items.{Items, chunk_cmp, item_in_chunk, with_item, without_item, unlinked_items, PlacedItem}
use Rattle.mc_serial_spec.specs.Consistent.{place_count}

-- a chunk compares equal to itself
pub chunk_cmp-self : (c : ChunkId) → chunk_cmp c c ≡ Equal
chunk_cmp-self c = grind (arith, nat_tests)

-- no item, no place
pub places_none : (c : ChunkId) (items : Items) → item_in_chunk items c ≡ None → place_count c items ≡ 0
places_none c [] h = refl
places_none c (e ∷ items) h = grind (arith, nat_tests, places_none c items)

-- no place, no item
pub none-places : (c : ChunkId) (items : Items) → place_count c items ≡ 0 → item_in_chunk items c ≡ None
none-places c [] h = refl
none-places c (e ∷ items) h = grind (arith, nat_tests, none-places c items)

-- an item comes in at one entry of the list
with_item_step : (o : Ordering) (c d : ChunkId) (item : Item) (e : PlacedItem) (items : Items)
    → chunk_cmp d e.chunk ≡ o → item_in_chunk (e ∷ items) d ≡ None
    → (item_in_chunk items d ≡ None → place_count c (with_item items d item) ≡ place_count c items + truth (is_at (chunk_cmp c) d))
    → place_count c (with_item (e ∷ items) d item) ≡ place_count c (e ∷ items) + truth (is_at (chunk_cmp c) d)
with_item_step Less c d item e items is none more = rw is (omega arith)
with_item_step Equal c d item e items is none more = let bad : Some e.item ≡ None = rw is at none in cc
with_item_step Greater c d item e items is none more =
    let absent : item_in_chunk items d ≡ None = rw is at none in
    let more_here : place_count c (with_item items d item) ≡ place_count c items + truth (is_at (chunk_cmp c) d) = more absent in
    rw is (omega (arith, more_here))

-- an item in a chunk that had none takes one more place
pub places-with_item : (c d : ChunkId) (item : Item) (items : Items) → item_in_chunk items d ≡ None
    → place_count c (with_item items d item) ≡ place_count c items + truth (is_at (chunk_cmp c) d)
places-with_item c d item [] none = omega arith
places-with_item c d item (e ∷ items) none =
    with_item_step (chunk_cmp d e.chunk) c d item e items refl none (places-with_item c d item items)

-- unlinking leaves every item where it is
pub places-unlinked_items : (c : ChunkId) (key : ℕ) (items : Items) → place_count c (unlinked_items items key) ≡ place_count c items
places-unlinked_items c key [] = refl
places-unlinked_items c key (e ∷ items) = omega (arith, places-unlinked_items c key items)

-- a chunk without item any more has one place less
pub places-without_item : (d : ChunkId) (items : Items) → 1 ≤ place_count d items → place_count d (without_item items d) + 1 ≡ place_count d items
places-without_item d [] some = omega arith
places-without_item d (e ∷ items) some = grind (arith, nat_tests, places-without_item d items)

-- and every other chunk as many as before
pub places-without_item-other : (c d : ChunkId) (items : Items) → is_chunk d c ≡ false → place_count c (without_item items d) ≡ place_count c items
places-without_item-other c d [] other = refl
places-without_item-other c d (e ∷ items) other = grind (arith, nat_tests, places-without_item-other c d items)

-- no chunk has more places than before
pub places-without_item-le : (c d : ChunkId) (items : Items) → place_count c (without_item items d) ≤ place_count c items
places-without_item-le c d [] = omega arith
places-without_item-le c d (e ∷ items) = grind (arith, nat_tests, places-without_item-le c d items)
