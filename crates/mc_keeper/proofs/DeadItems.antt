-- How many items of a class are dead, through each change of the items, the holds and the owners of pages.
use Rattle.std.proofs.Common.{◌≡◌, ℕ, ◌+◌, ◌≤◌, List, [], ◌∷◌, Bool, true, false, Some, None, inl, inr, refl, ap, arith}
use Rattle.std.specs.declared.cmp.Ordering.{Ordering}
use Rattle.std.specs.declared.cmp.Ordering.TheVariants.{Less, Equal, Greater}
use Rattle.std.specs.BTreeMap.{is_at}
use Rattle.mc_pages.specs.declared.ids.ChunkId.{ChunkId}
use Rattle.mc_pages.specs.declared.ledger.Owner.{Owner}
use Rattle.mc_pages.specs.ClassState.{is_chunk}
use Rattle.mc_pages.specs.Ledger.{owner_at}
use Rattle.mc_pages.specs.SlabState.{class_of_owner}
use Rattle.mc_pages.specs.Accounted.{truth}
use Rattle.mc_serial_spec.specs.Holds.{Holds, is_held}
use Rattle.mc_serial_spec.specs.Item.{Item}
use Rattle.mc_serial_spec.specs.Items.{Items, chunk_cmp, item_in_chunk, with_item, without_item, PlacedItem, at_chunk, with_changed_item}
use Rattle.mc_serial_spec.specs.Consistent.{place_count}
use Rattle.mc_keeper.specs.Kept.{dead_items, is_dead_item}
use Rattle.mc_serial_spec.proofs.Chunks.{chunk_cmp-self}
use Rattle.mc_serial_spec.proofs.KeptStore.{is_at-tells}

-- a linked item isn't dead
pub linked_lives : (owners : List Owner) (holds : Holds) (class : ℕ) (x : ChunkId) (item : Item) → item.linked ≡ true
    → is_dead_item owners holds class (at_chunk x item) ≡ false
linked_lives owners holds class x item linked = rw linked refl

module _ (owners : List Owner) (holds : Holds) (class : ℕ) (x : ChunkId) where
  abbrev dead : Item → ℕ
  dead item = truth (is_dead_item owners holds class (at_chunk x item))

  -- an item goes
  without_step : (b : Bool) (item : Item) (e : PlacedItem) (items : Items) → is_at (chunk_cmp x) e.chunk ≡ b
      → item_in_chunk (e ∷ items) x ≡ Some item
      → (item_in_chunk items x ≡ Some item → dead_items owners holds (without_item items x) class + dead item ≡ dead_items owners holds items class)
      → dead_items owners holds (without_item (e ∷ items) x) class + dead item ≡ dead_items owners holds (e ∷ items) class
  without_step true item e items at there more =
      let found : Some e.item ≡ Some item = rw at at there in
      let same : e.item ≡ item = cc in
      let here : x ≡ e.chunk = same_chunk e.chunk at in
      rw at (rw (here, same) (omega arith))
    where
      same_chunk : (y : ChunkId) → is_at (chunk_cmp x) y ≡ true → x ≡ y
      same_chunk y is = elim (is_at-tells x y) [ inl same ↦ same.1 | inr other ↦ cc ]
  without_step false item e items at there more =
      let below : item_in_chunk items x ≡ Some item = rw at at there in
      rw at (omega (arith, more below))

  pub dead-without_item : (item : Item) (items : Items) → item_in_chunk items x ≡ Some item
      → dead_items owners holds (without_item items x) class + truth (is_dead_item owners holds class (at_chunk x item)) ≡ dead_items owners holds items class
  dead-without_item item [] there = cc
  dead-without_item item (e ∷ items) there = without_step (is_at (chunk_cmp x) e.chunk) item e items refl there (dead-without_item item items)

  -- an item comes
  with_step : (o : Ordering) (item : Item) (e : PlacedItem) (items : Items) → chunk_cmp x e.chunk ≡ o → item_in_chunk (e ∷ items) x ≡ None
      → (item_in_chunk items x ≡ None → dead_items owners holds (with_item items x item) class ≡ dead_items owners holds items class + dead item)
      → dead_items owners holds (with_item (e ∷ items) x item) class ≡ dead_items owners holds (e ∷ items) class + dead item
  with_step Less item e items is none more = rw is (omega arith)
  with_step Equal item e items is none more = let bad : Some e.item ≡ None = rw is at none in cc
  with_step Greater item e items is none more =
      let absent : item_in_chunk items x ≡ None = rw is at none in
      rw is (omega (arith, more absent))

  pub dead-with_item : (item : Item) (items : Items) → item_in_chunk items x ≡ None
      → dead_items owners holds (with_item items x item) class ≡ dead_items owners holds items class + truth (is_dead_item owners holds class (at_chunk x item))
  dead-with_item item [] none = omega arith
  dead-with_item item (e ∷ items) none = with_step (chunk_cmp x e.chunk) item e items refl none (dead-with_item item items)

  -- an item changes
  set_step : (b : Bool) (item now : Item) (e : PlacedItem) (items : Items) → is_at (chunk_cmp x) e.chunk ≡ b → item_in_chunk (e ∷ items) x ≡ Some item
      → (item_in_chunk items x ≡ Some item
      → dead_items owners holds (with_changed_item items x now) class + dead item ≡ dead_items owners holds items class + dead now)
      → dead_items owners holds (with_changed_item (e ∷ items) x now) class + dead item ≡ dead_items owners holds (e ∷ items) class + dead now
  set_step true item now e items at there more =
      let found : Some e.item ≡ Some item = rw at at there in
      let same : e.item ≡ item = cc in
      let here : x ≡ e.chunk = same_chunk e.chunk at in
      rw at (rw (here, same) (omega arith))
    where
      same_chunk : (y : ChunkId) → is_at (chunk_cmp x) y ≡ true → x ≡ y
      same_chunk y is = elim (is_at-tells x y) [ inl same ↦ same.1 | inr other ↦ cc ]
  set_step false item now e items at there more =
      let below : item_in_chunk items x ≡ Some item = rw at at there in
      rw at (omega (arith, more below))

  pub dead-set_item : (item now : Item) (items : Items) → item_in_chunk items x ≡ Some item
      → dead_items owners holds (with_changed_item items x now) class + truth (is_dead_item owners holds class (at_chunk x item))
      ≡ dead_items owners holds items class + truth (is_dead_item owners holds class (at_chunk x now))
  dead-set_item item now [] there = cc
  dead-set_item item now (e ∷ items) there = set_step (is_at (chunk_cmp x) e.chunk) item now e items refl there (dead-set_item item now items)

-- the holds of one chunk change
module _ (owners : List Owner) (old new : Holds) (class : ℕ) (x : ChunkId)
    (others : (y : ChunkId) → is_chunk y x ≡ false → is_held new y ≡ is_held old y) where
  entry_same : (e : PlacedItem) → is_chunk e.chunk x ≡ false → is_dead_item owners new class e ≡ is_dead_item owners old class e
  entry_same e apart = rw (others e.chunk apart) refl

  -- it has no item
  pub dead-unheld : (items : Items) → place_count x items ≡ 0 → dead_items owners new items class ≡ dead_items owners old items class
  dead-unheld [] none = refl
  dead-unheld (e ∷ items) none = elim (is_at-tells x e.chunk) [
    | inl same ↦ absurd (omega (arith, none, ap truth same.0))
    | inr other ↦ omega (arith, ap truth (entry_same e other.1), dead-unheld items (omega (arith, none)))
  ]

  -- it has one
  pub dead-held : (item : Item) (items : Items) → item_in_chunk items x ≡ Some item → place_count x items ≤ 1
      → dead_items owners new items class + truth (is_dead_item owners old class (at_chunk x item))
      ≡ dead_items owners old items class + truth (is_dead_item owners new class (at_chunk x item))
  dead-held item [] there once = cc
  dead-held item (e ∷ items) there once = elim (is_at-tells x e.chunk) [
    | inl same ↦
        let found : Some e.item ≡ Some item = rw same.0 at there in
        let is : e.item ≡ item = cc in
        let rest : place_count x items ≡ 0 = omega (arith, once, ap truth same.0) in
        rw (same.1, is) (omega (arith, dead-unheld items rest))
    | inr other ↦
        let below : item_in_chunk items x ≡ Some item = rw other.0 at there in
        omega (arith, ap truth (entry_same e other.1), dead-held item items below (omega (arith, once)))
  ]

-- pages change hands, and no item's page comes to another class
dead_owned_step : (old new : List Owner) (holds : Holds) (class : ℕ) (e : PlacedItem)
    → class_of_owner (owner_at new e.chunk.page) ≡ class_of_owner (owner_at old e.chunk.page)
    → is_dead_item new holds class e ≡ is_dead_item old holds class e
dead_owned_step old new holds class e same = rw same refl

pub dead-owned : (old new : List Owner) (holds : Holds) (class : ℕ) (items : Items)
    → ((y : ChunkId) → 1 ≤ place_count y items → class_of_owner (owner_at new y.page) ≡ class_of_owner (owner_at old y.page))
    → dead_items new holds items class ≡ dead_items old holds items class
dead-owned old new holds class [] same = refl
dead-owned old new holds class (e ∷ items) same =
    let here : 1 ≤ place_count e.chunk (e ∷ items) = rw (chunk_cmp-self e.chunk) (omega arith) in
    omega (
      arith,
      ap truth (dead_owned_step old new holds class e (same e.chunk here)),
      dead-owned old new holds class items (λ y some. same y (omega (arith, some))),
    )
