-- An item of the moving page comes into another chunk of its class: the machine stays consistent.
use Rattle.std.proofs.Common.{◌≡◌, ℕ, ◌+◌, ◌≤◌, [], ◌∷◌, Bool, true, false, Some, None, refl, ap, sym, ◌∙◌, arith, Contains}
use Rattle.std.specs.declared.cmp.Ordering.{Ordering}
use Rattle.std.specs.declared.cmp.Ordering.TheVariants.{Less, Equal, Greater}
use Rattle.std.proofs.lemmas.Bool.{false≢true}
use Rattle.std.proofs.lemmas.Bool.Decides.{nat_tests}
use Rattle.mc_classes.specs.Classes.{Classes}
use Rattle.mc_pages.specs.declared.ids.ChunkId.{ChunkId}
use Rattle.mc_pages.specs.ClassState.{ClassState, is_chunk, times_in, with_before, class_after_clear, class_after_replacement}
use Rattle.mc_pages.specs.SlabState.{SlabState, HasClass, class_at, class_of_page, class_of_chunk}
use Rattle.mc_pages.specs.Accounted.{truth, places_in, is_cut, IsAccounted}
use Rattle.mc_pages.specs.Changes.{after_clear, after_replace}
use Rattle.mc_pages.proofs.Chunks.{times-without, times_from_Contains, same_from_is_chunk}
use Rattle.mc_pages.proofs.Cleared.{truth-le_one}
use Rattle.mc_pages.proofs.Lists.{times-with_before}
use Rattle.mc_pages.proofs.HandedOut.{class_of_placed}
use Rattle.mc_pages.proofs.OneClass.{class_at-with_class_same, length-with_class}
use Rattle.mc_serial_spec.specs.Item.{Item, is_linked_to}
use Rattle.mc_serial_spec.specs.Items.{Items, chunk_cmp, item_in_chunk, linked_chunk, with_item, without_item, PlacedItem}
use Rattle.mc_serial_spec.specs.Consistent.{place_count, links_of_key, IsConsistent}
use Rattle.mc_serial_spec.proofs.KeptMoverChange.{ChangesClass, changes_class, changes_again, kept_changed}
use Rattle.mc_serial_spec.proofs.KeptMoverClear.{no_item, places_without, links_without, handed_item, class_of_item}

-- an item comes into a chunk without one: at one entry of the list
places_step : (o : Ordering) (x d : ChunkId) (item : Item) (e : PlacedItem) (items : Items) → chunk_cmp d e.chunk ≡ o → item_in_chunk (e ∷ items) d ≡ None
    → (item_in_chunk items d ≡ None → place_count x (with_item items d item) ≡ place_count x items + truth (is_chunk d x))
    → place_count x (with_item (e ∷ items) d item) ≡ place_count x (e ∷ items) + truth (is_chunk d x)
places_step Less x d item e items is none more = rw is (grind (arith, nat_tests))
places_step Equal x d item e items is none more = let bad : Some e.item ≡ None = rw is at none in cc
places_step Greater x d item e items is none more =
    let absent : item_in_chunk items d ≡ None = rw is at none in
    let here : place_count x (with_item items d item) ≡ place_count x items + truth (is_chunk d x) = more absent in
    rw is (omega (arith, here))

pub places_with : (x d : ChunkId) (item : Item) (items : Items) → item_in_chunk items d ≡ None
    → place_count x (with_item items d item) ≡ place_count x items + truth (is_chunk d x)
places_with x d item [] none = grind (arith, nat_tests)
places_with x d item (e ∷ items) none = places_step (chunk_cmp d e.chunk) x d item e items refl none (places_with x d item items)

links_step : (o : Ordering) (key : ℕ) (d : ChunkId) (item : Item) (e : PlacedItem) (items : Items) → chunk_cmp d e.chunk ≡ o → item_in_chunk (e ∷ items) d ≡ None
    → (item_in_chunk items d ≡ None → links_of_key key (with_item items d item) ≡ links_of_key key items + truth (is_linked_to key item))
    → links_of_key key (with_item (e ∷ items) d item) ≡ links_of_key key (e ∷ items) + truth (is_linked_to key item)
links_step Less key d item e items is none more = rw is (omega arith)
links_step Equal key d item e items is none more = let bad : Some e.item ≡ None = rw is at none in cc
links_step Greater key d item e items is none more =
    let absent : item_in_chunk items d ≡ None = rw is at none in
    let here : links_of_key key (with_item items d item) ≡ links_of_key key items + truth (is_linked_to key item) = more absent in
    rw is (omega (arith, here))

pub links_with : (key : ℕ) (d : ChunkId) (item : Item) (items : Items) → item_in_chunk items d ≡ None
    → links_of_key key (with_item items d item) ≡ links_of_key key items + truth (is_linked_to key item)
links_with key d item [] none = omega arith
links_with key d item (e ∷ items) none = links_step (chunk_cmp d e.chunk) key d item e items refl none (links_with key d item items)

-- a key that led nowhere leads to the item that came in
to_step : (o : Ordering) (key : ℕ) (d : ChunkId) (item : Item) (e : PlacedItem) (items : Items) → chunk_cmp d e.chunk ≡ o → item_in_chunk (e ∷ items) d ≡ None
    → is_linked_to key item ≡ true → linked_chunk (e ∷ items) key ≡ None
    → (item_in_chunk items d ≡ None → linked_chunk items key ≡ None → linked_chunk (with_item items d item) key ≡ Some d)
    → linked_chunk (with_item (e ∷ items) d item) key ≡ Some d
to_step Less key d item e items is none to nowhere more = rw is (rw to refl)
to_step Equal key d item e items is none to nowhere more = let bad : Some e.item ≡ None = rw is at none in cc
to_step Greater key d item e items is none to nowhere more =
    let absent : item_in_chunk items d ≡ None = rw is at none in
    rw is (grind (arith, nat_tests, more absent))

pub leads_to : (key : ℕ) (d : ChunkId) (item : Item) (items : Items) → item_in_chunk items d ≡ None → is_linked_to key item ≡ true
    → linked_chunk items key ≡ None → linked_chunk (with_item items d item) key ≡ Some d
leads_to key d item [] none to nowhere = rw to refl
leads_to key d item (e ∷ items) none to nowhere =
    to_step (chunk_cmp d e.chunk) key d item e items refl none to nowhere (λ absent. leads_to key d item items absent to)

-- any other key leads where it led
on_step : (o : Ordering) (key : ℕ) (d : ChunkId) (item : Item) (e : PlacedItem) (items : Items) → chunk_cmp d e.chunk ≡ o → item_in_chunk (e ∷ items) d ≡ None
    → is_linked_to key item ≡ false
    → (item_in_chunk items d ≡ None → linked_chunk (with_item items d item) key ≡ linked_chunk items key)
    → linked_chunk (with_item (e ∷ items) d item) key ≡ linked_chunk (e ∷ items) key
on_step Less key d item e items is none other more = rw is (rw other refl)
on_step Equal key d item e items is none other more = let bad : Some e.item ≡ None = rw is at none in cc
on_step Greater key d item e items is none other more =
    let absent : item_in_chunk items d ≡ None = rw is at none in
    rw is (grind (arith, nat_tests, more absent))

pub leads_on : (key : ℕ) (d : ChunkId) (item : Item) (items : Items) → item_in_chunk items d ≡ None → is_linked_to key item ≡ false
    → linked_chunk (with_item items d item) key ≡ linked_chunk items key
leads_on key d item [] none other = rw other refl
leads_on key d item (e ∷ items) none other =
    on_step (chunk_cmp d e.chunk) key d item e items refl none other (λ absent. leads_on key d item items absent other)

-- where a key has one item at most, it leads to that item's chunk
leads_step : (b s : Bool) (key : ℕ) (chunk : ChunkId) (item : Item) (e : PlacedItem) (items : Items) → is_linked_to key e.item ≡ b → is_chunk e.chunk chunk ≡ s
    → item_in_chunk (e ∷ items) chunk ≡ Some item → is_linked_to key item ≡ true → links_of_key key (e ∷ items) ≤ 1
    → (item_in_chunk items chunk ≡ Some item → links_of_key key items ≤ 1 → linked_chunk items key ≡ Some chunk)
    → linked_chunk (e ∷ items) key ≡ Some chunk
leads_step true true key chunk item e items is same at to one more = rw is (ap Some (same_from_is_chunk e.chunk chunk same))
leads_step true false key chunk item e items is other at to one more =
    let below : item_in_chunk items chunk ≡ Some item = grind (arith, nat_tests) in
    let some : links_of_key key (without_item items chunk) + truth (is_linked_to key item) ≡ links_of_key key items = links_without key chunk item items below in
    let here : links_of_key key (e ∷ items) ≡ 1 + links_of_key key items = rw is refl in
    absurd (omega (arith, some, here, ap truth to, one))
leads_step false true key chunk item e items is same at to one more =
    let here : e.item ≡ item = grind (arith, nat_tests) in
    let bad : is_linked_to key e.item ≡ true = rw here to in
    absurd (false≢true (sym is ∙ bad))
leads_step false false key chunk item e items is other at to one more =
    let below : item_in_chunk items chunk ≡ Some item = grind (arith, nat_tests) in
    let here : links_of_key key (e ∷ items) ≡ 0 + links_of_key key items = rw is refl in
    rw is (more below (omega (arith, here, one)))

pub leads_from : (key : ℕ) (chunk : ChunkId) (item : Item) (items : Items) → item_in_chunk items chunk ≡ Some item → is_linked_to key item ≡ true
    → links_of_key key items ≤ 1 → linked_chunk items key ≡ Some chunk
leads_from key chunk item [] at to one = cc
leads_from key chunk item (e ∷ items) at to one =
    leads_step (is_linked_to key e.item) (is_chunk e.chunk chunk) key chunk item e items refl refl at to one
    (λ below within_limit. leads_from key chunk item items below to within_limit)

-- an item comes from one chunk into a free one of the same class, in its place of the hand-out order
module _ (table : Classes) (slabs : SlabState) (items : Items) (old new : ChunkId) (item : Item)
    (kept : IsConsistent table slabs items) (there : item_in_chunk items old ≡ Some item) (linked : item.linked ≡ true)
    (free : Contains (class_of_chunk slabs old).free new) where
  valid : HasClass slabs (class_of_page slabs old.page)
  valid = class_of_item table slabs items old item kept there

  pub handed : 1 ≤ times_in old (class_of_chunk slabs old).order
  handed = handed_item table slabs items old item kept there

  -- the free chunk isn't handed out, so it has no item
  pub vacant : item_in_chunk (without_item items old) new ≡ None
  vacant =
      let some : 1 ≤ times_in new (class_of_chunk slabs old).free = times_from_Contains new (class_of_chunk slabs old).free free in
      let sum = kept.accounted.chunks (class_of_page slabs old.page) new valid in
      let most = truth-le_one (is_cut slabs (class_of_page slabs old.page) new) in
      let own : class_of_page slabs new.page ≡ class_of_page slabs old.page
      = class_of_placed slabs (class_of_page slabs old.page) new kept.accounted valid (omega (arith, some)) in
      let none : times_in new (class_of_chunk slabs new).order ≡ 0 = rw own (omega (arith, sum, most, some)) in
      no_item new (without_item items old) (omega (arith, places_without new old item items there, kept.handed_out new, none))

  -- the class with the new chunk before the old one
  class_replaced : class_at (after_replace slabs new old) (class_of_page slabs old.page) ≡ class_after_replacement (class_of_chunk slabs old) new old
  class_replaced = class_at-with_class_same slabs (class_of_page slabs old.page) (class_after_replacement (class_of_chunk slabs old) new old) valid

  times_replaced : (x : ChunkId) → times_in x (with_before new old (class_of_chunk slabs old).order) ≡ times_in x (class_of_chunk slabs old).order + truth (is_chunk new x)
  times_replaced x = times-with_before x new old (class_of_chunk slabs old).order handed

  -- the old one may be cleared
  pub listed_still : 1 ≤ places_in (after_replace slabs new old) (class_of_page slabs old.page) old
  listed_still = rw class_replaced (omega (arith, times_replaced old, handed))

  -- and then the class
  class_rescued : class_at (after_clear (after_replace slabs new old) old) (class_of_page slabs old.page)
      ≡ class_after_clear (class_after_replacement (class_of_chunk slabs old) new old) old
  class_rescued =
      let valid_still : HasClass (after_replace slabs new old) (class_of_page slabs old.page)
      = (valid.0, omega (arith, valid.1, length-with_class slabs (class_of_page slabs old.page) (class_after_replacement (class_of_chunk slabs old) new old))) in
      class_at-with_class_same (after_replace slabs new old) (class_of_page slabs old.page)
      (class_after_clear (class_at (after_replace slabs new old) (class_of_page slabs old.page)) old) valid_still
      ∙ ap (λ (c : ClassState). class_after_clear c old) class_replaced

  balanced : (x : ChunkId) → times_in x (class_at (after_clear (after_replace slabs new old) old) (class_of_page slabs old.page)).order + place_count x items
      ≡ times_in x (class_of_chunk slabs old).order + place_count x (with_item (without_item items old) new item)
  balanced x = rw class_rescued (omega (
    arith,
    times_replaced x,
    times_replaced old,
    handed,
    times-without x old (with_before new old (class_of_chunk slabs old).order) (omega (arith, times_replaced old, handed)),
    places_without x old item items there,
    places_with x new item (without_item items old) vacant,
  ))

  changes : ChangesClass slabs (after_clear (after_replace slabs new old) old) (class_of_page slabs old.page)
  changes =
      changes_again slabs (after_replace slabs new old) (after_clear (after_replace slabs new old) old) (class_of_page slabs old.page)
      (changes_class slabs (class_of_page slabs old.page) (class_after_replacement (class_of_chunk slabs old) new old) refl)
      (changes_class (after_replace slabs new old) (class_of_page slabs old.page)
      (class_after_clear (class_at (after_replace slabs new old) (class_of_page slabs old.page)) old) refl)

  links_rescued : (key : ℕ) → links_of_key key (with_item (without_item items old) new item) ≡ links_of_key key items
  links_rescued key = omega (arith, links_with key new item (without_item items old) vacant, links_without key old item items there)

  pub kept_rescued : IsAccounted (after_clear (after_replace slabs new old) old)
      → IsConsistent table (after_clear (after_replace slabs new old) old) (with_item (without_item items old) new item)
  kept_rescued accounted =
      kept_changed table slabs (after_clear (after_replace slabs new old) old) items
      (with_item (without_item items old) new item) (class_of_page slabs old.page) kept valid changes accounted balanced
      (λ key. omega (arith, links_rescued key, kept.one_link key))
