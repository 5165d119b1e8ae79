-- Which chunk a key leads to, through each change of the items.
use Rattle.std.proofs.Common.{◌≡◌, ℕ, ◌+◌, ◌≤◌, List, [], ◌∷◌, Bool, true, false, Some, None, refl, arith}
use Rattle.std.specs.Prelude.{if◌then◌else◌, ◌==◌}
use Rattle.std.proofs.lemmas.Bool.Decides.{nat_tests}
use Rattle.std.specs.declared.cmp.Ordering.{Ordering}
use Rattle.std.specs.declared.cmp.Ordering.TheVariants.{Less, Equal, Greater}
use Rattle.std.specs.BTreeMap.{is_at}
use Rattle.mc_pages.specs.declared.ids.ChunkId.{ChunkId}
use Rattle.mc_pages.specs.Accounted.{truth}
use Rattle.mc_serial_spec.specs.Item.{Item, new_item, is_linked_to, item_after_unlink}
use Rattle.mc_serial_spec.specs.Items.{Items, chunk_cmp, item_in_chunk, with_item, without_item, unlinked_items, linked_chunk, PlacedItem, with_changed_item}
use Rattle.mc_serial_spec.specs.Consistent.{links_of_key, place_count}
use Rattle.mc_serial_spec.proofs.Chunks.{chunk_cmp-self}

-- no linked item: the key leads nowhere, and the other way round
pub links_none : (key : ℕ) (items : Items) → linked_chunk items key ≡ None → links_of_key key items ≡ 0
links_none key [] h = refl
links_none key (e ∷ items) h = grind (arith, nat_tests, links_none key items)

pub none-links : (key : ℕ) (items : Items) → links_of_key key items ≡ 0 → linked_chunk items key ≡ None
none-links key [] h = refl
none-links key (e ∷ items) h = grind (arith, nat_tests, none-links key items)

-- after unlinking a key no item is linked to it, and as many to any other
pub links-unlinked_items : (q key : ℕ) (items : Items) → links_of_key q (unlinked_items items key) ≡ (if q == key then 0 else links_of_key q items)
links-unlinked_items q key [] = grind (arith, nat_tests)
links-unlinked_items q key (e ∷ items) = grind (arith, nat_tests, links-unlinked_items q key items)

-- after unlinking a key it leads nowhere, and any other where it led
pub linked_chunk-unlinked_items : (q key : ℕ) (items : Items)
    → linked_chunk (unlinked_items items key) q ≡ (if q == key then None else linked_chunk items q)
linked_chunk-unlinked_items q key [] = grind (arith, nat_tests)
linked_chunk-unlinked_items q key (e ∷ items) = grind (arith, nat_tests, linked_chunk-unlinked_items q key items)

-- nothing to unlink
pub unlinked_items_none : (key : ℕ) (items : Items) → linked_chunk items key ≡ None → unlinked_items items key ≡ items
unlinked_items_none key [] h = refl
unlinked_items_none key (e ∷ items) h = grind (arith, nat_tests, unlinked_items_none key items)

-- a new item comes in at one entry of the list: who is linked to a key
links_step : (o : Ordering) (q : ℕ) (d : ChunkId) (item : Item) (e : PlacedItem) (items : Items)
    → chunk_cmp d e.chunk ≡ o → item_in_chunk (e ∷ items) d ≡ None
    → (item_in_chunk items d ≡ None → links_of_key q (with_item items d item) ≡ links_of_key q items + truth (is_linked_to q item))
    → links_of_key q (with_item (e ∷ items) d item) ≡ links_of_key q (e ∷ items) + truth (is_linked_to q item)
links_step Less q d item e items is none more = rw is (omega arith)
links_step Equal q d item e items is none more = let bad : Some e.item ≡ None = rw is at none in cc
links_step Greater q d item e items is none more =
    let absent : item_in_chunk items d ≡ None = rw is at none in
    let more_here : links_of_key q (with_item items d item) ≡ links_of_key q items + truth (is_linked_to q item) = more absent in
    rw is (omega (arith, more_here))

pub links-with_item : (q : ℕ) (d : ChunkId) (item : Item) (items : Items) → item_in_chunk items d ≡ None
    → links_of_key q (with_item items d item) ≡ links_of_key q items + truth (is_linked_to q item)
links-with_item q d item [] none = omega arith
links-with_item q d item (e ∷ items) none = links_step (chunk_cmp d e.chunk) q d item e items refl none (links-with_item q d item items)

-- the same for the chunk that a key leads to: a new item takes its own key's place
leads_step : (o : Ordering) (q key : ℕ) (words : List ℕ) (d : ChunkId) (e : PlacedItem) (items : Items)
    → chunk_cmp d e.chunk ≡ o → item_in_chunk (e ∷ items) d ≡ None → linked_chunk (e ∷ items) key ≡ None
    → (item_in_chunk items d ≡ None → linked_chunk items key ≡ None
    → linked_chunk (with_item items d (new_item key words)) q ≡ (if key == q then Some d else linked_chunk items q))
    → linked_chunk (with_item (e ∷ items) d (new_item key words)) q ≡ (if key == q then Some d else linked_chunk (e ∷ items) q)
leads_step Less q key words d e items is none unlinked more = rw is (grind (arith, nat_tests))
leads_step Equal q key words d e items is none unlinked more = let bad : Some e.item ≡ None = rw is at none in cc
leads_step Greater q key words d e items is none unlinked more =
    let absent : item_in_chunk items d ≡ None = rw is at none in
    rw is (grind (arith, nat_tests, more absent))

pub linked_chunk-with_item : (q key : ℕ) (words : List ℕ) (d : ChunkId) (items : Items) → item_in_chunk items d ≡ None → linked_chunk items key ≡ None
    → linked_chunk (with_item items d (new_item key words)) q ≡ (if key == q then Some d else linked_chunk items q)
linked_chunk-with_item q key words d [] none unlinked = grind (arith, nat_tests)
linked_chunk-with_item q key words d (e ∷ items) none unlinked =
    leads_step (chunk_cmp d e.chunk) q key words d e items refl none unlinked (linked_chunk-with_item q key words d items)

-- no key has more links where an item goes
pub links-without_item-le : (q : ℕ) (d : ChunkId) (items : Items) → links_of_key q (without_item items d) ≤ links_of_key q items
links-without_item-le q d [] = omega arith
links-without_item-le q d (e ∷ items) = grind (arith, nat_tests, links-without_item-le q d items)

-- an item has a place
pub some_places : (c : ChunkId) (item : Item) (items : Items) → item_in_chunk items c ≡ Some item → 1 ≤ place_count c items
some_places c item [] h = cc
some_places c item (e ∷ items) h = grind (arith, nat_tests, some_places c item items)

-- the item to which a key leads is in that chunk and linked to the key
pub record LinkedIn (key : ℕ) (chunk : ChunkId) (items : Items) : Type 0 where
  pub item : Item
  pub there : item_in_chunk items chunk ≡ Some item
  pub linked : is_linked_to key item ≡ true
  pub unlinks : with_changed_item items chunk (item_after_unlink item) ≡ unlinked_items items key

linked_here : (key : ℕ) (chunk : ChunkId) (e : PlacedItem) (items : Items) → e.chunk ≡ chunk → is_linked_to key e.item ≡ true
    → unlinked_items items key ≡ items → LinkedIn key chunk (e ∷ items)
linked_here key chunk e items same linked rest =
    let self : chunk_cmp chunk e.chunk ≡ Equal = rw same (chunk_cmp-self chunk) in
    record {
      item = e.item;
      there = rw self refl;
      linked = linked;
      unlinks = rw (self, linked, rest) refl;
    }

linked_below : (key : ℕ) (chunk : ChunkId) (e : PlacedItem) (items : Items) → is_at (chunk_cmp chunk) e.chunk ≡ false → is_linked_to key e.item ≡ false
    → LinkedIn key chunk items → LinkedIn key chunk (e ∷ items)
linked_below key chunk e items other not_linked below = record {
  item = below.item;
  there = rw other below.there;
  linked = below.linked;
  unlinks = rw (other, not_linked, below.unlinks) refl;
}

linked_step : (b : Bool) (key : ℕ) (chunk : ChunkId) (e : PlacedItem) (items : Items) → is_linked_to key e.item ≡ b
    → linked_chunk (e ∷ items) key ≡ Some chunk → place_count chunk (e ∷ items) ≤ 1 → links_of_key key (e ∷ items) ≤ 1
    → (linked_chunk items key ≡ Some chunk → place_count chunk items ≤ 1 → links_of_key key items ≤ 1 → LinkedIn key chunk items)
    → LinkedIn key chunk (e ∷ items)
linked_step true key chunk e items is leads once one more =
    let here : Some e.chunk ≡ Some chunk = rw is at leads in
    let same : e.chunk ≡ chunk = cc in
    let none : links_of_key key items ≡ 0 = grind (arith, nat_tests) in
    linked_here key chunk e items same is (unlinked_items_none key items (none-links key items none))
linked_step false key chunk e items is leads once one more =
    let below : linked_chunk items key ≡ Some chunk = rw is at leads in
    let found : LinkedIn key chunk items = more below (omega arith) (omega arith) in
    let there : 1 ≤ place_count chunk items = some_places chunk found.item items found.there in
    let other : is_at (chunk_cmp chunk) e.chunk ≡ false = grind (arith, nat_tests) in
    linked_below key chunk e items other is found

pub linked_in : (key : ℕ) (chunk : ChunkId) (items : Items) → linked_chunk items key ≡ Some chunk → place_count chunk items ≤ 1 → links_of_key key items ≤ 1
    → LinkedIn key chunk items
linked_in key chunk [] leads once one = cc
linked_in key chunk (e ∷ items) leads once one =
    linked_step (is_linked_to key e.item) key chunk e items refl leads once one (linked_in key chunk items)

-- what comes into a chunk and goes again leaves the items as they were
undo_step : (o : Ordering) (d : ChunkId) (item : Item) (e : PlacedItem) (items : Items)
    → chunk_cmp d e.chunk ≡ o → item_in_chunk (e ∷ items) d ≡ None
    → (item_in_chunk items d ≡ None → without_item (with_item items d item) d ≡ items)
    → without_item (with_item (e ∷ items) d item) d ≡ e ∷ items
undo_step Less d item e items is none back = rw (is, chunk_cmp-self d) refl
undo_step Equal d item e items is none back = let bad : Some e.item ≡ None = rw is at none in cc
undo_step Greater d item e items is none back =
    let absent : item_in_chunk items d ≡ None = rw is at none in
    rw (is, is, back absent) refl

pub without_item-with_item : (d : ChunkId) (item : Item) (items : Items) → item_in_chunk items d ≡ None → without_item (with_item items d item) d ≡ items
without_item-with_item d item [] none = rw (chunk_cmp-self d) refl
without_item-with_item d item (e ∷ items) none = undo_step (chunk_cmp d e.chunk) d item e items refl none (without_item-with_item d item items)
