-- A chunk of the moving page is cleared with its item: the machine stays consistent.
use Rattle.std.proofs.Common.{◌≡◌, ℕ, ◌+◌, ◌≤◌, List, [], ◌∷◌, suc, Bool, true, false, not, Option, Some, None, inl, inr, refl, ap, ◌∙◌, arith, Contains}
use Rattle.std.specs.Prelude.{◌&&◌}
use Rattle.std.specs.Option.{option_map_or}
use Rattle.std.proofs.lemmas.Bool.{cases_Bool, and_parts}
use Rattle.std.proofs.lemmas.Bool.Decides.{nat_tests}
use Rattle.mc_classes.specs.Classes.{Classes}
use Rattle.mc_pages.specs.declared.ids.ChunkId.{ChunkId}
use Rattle.mc_pages.specs.Ledger.{owner_at}
use Rattle.mc_pages.specs.ClassState.{ClassState, is_chunk, times_in, without, class_after_clear, put_back}
use Rattle.mc_pages.specs.SlabState.{SlabState, HasClass, class_at, class_of_page, class_of_chunk}
use Rattle.mc_pages.specs.Accounted.{truth, places_in, is_cut, is_cleared, IsAccounted}
use Rattle.mc_pages.specs.Changes.{with_class, after_back, after_clear}
use Rattle.mc_pages.proofs.Chunks.{times-cons, times-without, same_from_is_chunk, is_chunk-same}
use Rattle.mc_pages.proofs.Lists.{without-absent, times-without_one}
use Rattle.mc_pages.proofs.Cleared.{truth-le_one}
use Rattle.mc_pages.proofs.Redistributed.{is_cut-kept}
use Rattle.mc_pages.proofs.HandedOut.{IsClass-placed}
use Rattle.mc_pages.proofs.Owners.{class_of_owner-is_of_class}
use Rattle.mc_pages.proofs.OneClass.{class_at-with_class_same, length-with_class}
use Rattle.mc_serial_spec.specs.Item.{Item, is_linked_to}
use Rattle.mc_serial_spec.specs.Items.{Items, item_in_chunk, has_linked_item, has_unlinked_item, linked_chunk, without_item}
use Rattle.mc_serial_spec.specs.Holds.{is_held}
use Rattle.mc_serial_spec.specs.Machine.{Machine, is_dead_in, has_unheld_linked_item}
use Rattle.mc_serial_spec.specs.Consistent.{place_count, links_of_key, IsConsistent}
use Rattle.mc_serial_spec.proofs.KeptMoverChange.{changes_class, kept_changed}

-- an item is one place of its chunk
pub one_place : (x : ChunkId) (item : Item) (items : Items) → item_in_chunk items x ≡ Some item → 1 ≤ place_count x items
one_place x item [] h = cc
one_place x item (e ∷ items) h = grind (arith, nat_tests, one_place x item items)

-- no item, no place
pub no_place : (x : ChunkId) (items : Items) → item_in_chunk items x ≡ None → place_count x items ≡ 0
no_place x [] h = refl
no_place x (e ∷ items) h = grind (arith, nat_tests, no_place x items)

-- and no place, no item
pub no_item : (x : ChunkId) (items : Items) → place_count x items ≡ 0 → item_in_chunk items x ≡ None
no_item x [] h = refl
no_item x (e ∷ items) h = grind (arith, nat_tests, no_item x items)

-- without its item a chunk has a place less, and every other has as many
pub places_without : (x chunk : ChunkId) (item : Item) (items : Items) → item_in_chunk items chunk ≡ Some item
    → place_count x (without_item items chunk) + truth (is_chunk chunk x) ≡ place_count x items
places_without x chunk item [] h = cc
places_without x chunk item (e ∷ items) h = grind (arith, nat_tests, places_without x chunk item items)

-- without an item its key has a link less if it was linked, and every other key has as many
pub links_without : (key : ℕ) (chunk : ChunkId) (item : Item) (items : Items) → item_in_chunk items chunk ≡ Some item
    → links_of_key key (without_item items chunk) + truth (is_linked_to key item) ≡ links_of_key key items
links_without key chunk item [] h = cc
links_without key chunk item (e ∷ items) h = grind (arith, nat_tests, links_without key chunk item items)

-- without an item that a key doesn't lead to, the key leads where it led
pub leads_without : (key : ℕ) (chunk : ChunkId) (item : Item) (items : Items) → item_in_chunk items chunk ≡ Some item → is_linked_to key item ≡ false
    → linked_chunk (without_item items chunk) key ≡ linked_chunk items key
leads_without key chunk item [] h other = refl
leads_without key chunk item (e ∷ items) h other = grind (arith, nat_tests, leads_without key chunk item items)

-- a key without links leads nowhere
pub leads_nowhere : (key : ℕ) (items : Items) → links_of_key key items ≡ 0 → linked_chunk items key ≡ None
leads_nowhere key [] h = refl
leads_nowhere key (e ∷ items) h = grind (arith, nat_tests, leads_nowhere key items)

-- what is dead is an item that no key leads to
dead_item : (items : Items) (chunk : ChunkId) (held : Bool) → (has_unlinked_item items chunk && not held) ≡ true
    → (item : Item) × (item_in_chunk items chunk ≡ Some item) × (item.linked ≡ false)
dead_item items chunk held dead = found (item_in_chunk items chunk) refl dead
  where
    found : (there : Option Item) → item_in_chunk items chunk ≡ there → (option_map_or (λ (item : Item). not item.linked) there false && not held) ≡ true
        → (item : Item) × (item_in_chunk items chunk ≡ Some item) × (item.linked ≡ false)
    found None is bad = cc
    found (Some item) is dead_here = (item, is, grind (arith, nat_tests))

-- and what is idle one that its key leads to
idle_item : (items : Items) (chunk : ChunkId) (held : Bool) → (has_linked_item items chunk && not held) ≡ true
    → (item : Item) × (item_in_chunk items chunk ≡ Some item) × (item.linked ≡ true)
idle_item items chunk held idle = found (item_in_chunk items chunk) refl idle
  where
    found : (there : Option Item) → item_in_chunk items chunk ≡ there → (option_map_or (λ (item : Item). item.linked) there false && not held) ≡ true
        → (item : Item) × (item_in_chunk items chunk ≡ Some item) × (item.linked ≡ true)
    found None is bad = cc
    found (Some item) is idle_here = (item, is, grind (arith, nat_tests))

-- the same where two machines are one
pub dead_here : (m now : Machine) (chunk : ChunkId) → m ≡ now → is_dead_in now chunk ≡ true
    → (item : Item) × (item_in_chunk m.items chunk ≡ Some item) × (item.linked ≡ false)
dead_here m now chunk same dead = dead_item m.items chunk (is_held m.holds chunk) (rw same dead)

pub idle_here : (m now : Machine) (chunk : ChunkId) → m ≡ now → has_unheld_linked_item now chunk ≡ true
    → (item : Item) × (item_in_chunk m.items chunk ≡ Some item) × (item.linked ≡ true)
idle_here m now chunk same idle = idle_item m.items chunk (is_held m.holds chunk) (rw same idle)

-- the chunk of an item is handed out
pub handed_item : (table : Classes) (slabs : SlabState) (items : Items) (chunk : ChunkId) (item : Item)
    → IsConsistent table slabs items → item_in_chunk items chunk ≡ Some item → 1 ≤ times_in chunk (class_of_chunk slabs chunk).order
handed_item table slabs items chunk item kept there = omega (arith, kept.handed_out chunk, one_place chunk item items there)

pub class_of_item : (table : Classes) (slabs : SlabState) (items : Items) (chunk : ChunkId) (item : Item)
    → IsConsistent table slabs items → item_in_chunk items chunk ≡ Some item → HasClass slabs (class_of_page slabs chunk.page)
class_of_item table slabs items chunk item kept there =
    IsClass-placed slabs chunk kept.accounted (omega (arith, handed_item table slabs items chunk item kept there))

-- a chunk that is counted in a list is one of its chunks
pub contains_counted : (chunk : ChunkId) (chunks : List ChunkId) → 1 ≤ times_in chunk chunks → Contains chunks chunk
contains_counted chunk [] none = absurd (omega (arith, none))
contains_counted chunk (c ∷ chunks) some = counted_step (is_chunk c chunk) refl (contains_counted chunk chunks)
  where
    counted_step : (b : Bool) → is_chunk c chunk ≡ b → (1 ≤ times_in chunk chunks → Contains chunks chunk) → Contains (c ∷ chunks) chunk
    counted_step true same more = (0, omega arith, same_from_is_chunk c chunk same)
    counted_step false other more =
        let rest : 1 ≤ times_in chunk chunks = grind (arith, nat_tests, times-cons chunk c chunks) in
        let below = more rest in
        (suc below.0, omega (arith, below.1), below.2)

-- a chunk leaves its class's hand-out order, and its item is gone
module _ (table : Classes) (slabs : SlabState) (items : Items) (chunk : ChunkId) (item : Item) (state : ClassState)
    (kept : IsConsistent table slabs items) (there : item_in_chunk items chunk ≡ Some item)
    (same : state.per_page ≡ (class_of_chunk slabs chunk).per_page) (order : state.order ≡ without chunk (class_of_chunk slabs chunk).order)
    (accounted : IsAccounted (with_class slabs (class_of_page slabs chunk.page) state)) where
  balanced : (x : ChunkId) → times_in x (class_at (with_class slabs (class_of_page slabs chunk.page) state) (class_of_page slabs chunk.page)).order + place_count x items
      ≡ times_in x (class_of_chunk slabs chunk).order + place_count x (without_item items chunk)
  balanced x =
      let valid : HasClass slabs (class_of_page slabs chunk.page) = class_of_item table slabs items chunk item kept there in
      rw (class_at-with_class_same slabs (class_of_page slabs chunk.page) state valid, order)
      (omega (
        arith,
        times-without x chunk (class_of_chunk slabs chunk).order (handed_item table slabs items chunk item kept there),
        places_without x chunk item items there,
      ))

  pub kept_left : IsConsistent table (with_class slabs (class_of_page slabs chunk.page) state) (without_item items chunk)
  kept_left =
      kept_changed table slabs (with_class slabs (class_of_page slabs chunk.page) state) items (without_item items chunk)
      (class_of_page slabs chunk.page) kept (class_of_item table slabs items chunk item kept there)
      (changes_class slabs (class_of_page slabs chunk.page) state same) accounted balanced
      (λ key. omega (arith, kept.one_link key, links_without key chunk item items there))

-- a chunk and its item are cleared away
pub kept_cleared : (table : Classes) (slabs : SlabState) (items : Items) (chunk : ChunkId) (item : Item)
    → IsConsistent table slabs items → item_in_chunk items chunk ≡ Some item → IsAccounted (after_clear slabs chunk)
    → IsConsistent table (after_clear slabs chunk) (without_item items chunk)
kept_cleared table slabs items chunk item kept there accounted =
    kept_left table slabs items chunk item (class_after_clear (class_of_chunk slabs chunk) chunk) kept there refl refl accounted

-- a chunk is put back, and its item is gone
pub kept_back : (table : Classes) (slabs : SlabState) (items : Items) (chunk : ChunkId) (item : Item)
    → IsConsistent table slabs items → item_in_chunk items chunk ≡ Some item → IsAccounted (after_back slabs chunk)
    → IsConsistent table (after_back slabs chunk) (without_item items chunk)
kept_back table slabs items chunk item kept there accounted =
    kept_left table slabs items chunk item (put_back (class_of_chunk slabs chunk) chunk) kept there refl refl accounted

-- a chunk without an item is cleared away
module _ (table : Classes) (slabs : SlabState) (items : Items) (chunk : ChunkId)
    (kept : IsConsistent table slabs items) (empty : item_in_chunk items chunk ≡ None) (valid : HasClass slabs (class_of_page slabs chunk.page)) where
  -- it isn't handed out
  pub not_handed : times_in chunk (class_of_chunk slabs chunk).order ≡ 0
  not_handed = omega (arith, kept.stored (class_of_page slabs chunk.page) chunk valid, no_place chunk items empty)

  pub kept_freed : IsAccounted (after_clear slabs chunk) → IsConsistent table (after_clear slabs chunk) items
  kept_freed accounted =
      kept_changed table slabs (after_clear slabs chunk) items items (class_of_page slabs chunk.page) kept valid
      (changes_class slabs (class_of_page slabs chunk.page) (class_after_clear (class_of_chunk slabs chunk) chunk) refl) accounted
      (λ x. rw (
        class_at-with_class_same slabs (class_of_page slabs chunk.page) (class_after_clear (class_of_chunk slabs chunk) chunk) valid,
        without-absent chunk (class_of_chunk slabs chunk).order not_handed,
      ) refl)
      kept.one_link

-- a chunk that was cut for a class and stands in none of its lists is cleared
pub cleared_there : (slabs : SlabState) (class : ℕ) (chunk : ChunkId) → IsAccounted slabs → HasClass slabs class → is_cut slabs class chunk ≡ true
    → times_in chunk (class_at slabs class).free ≡ 0 → times_in chunk (class_at slabs class).order ≡ 0 → is_cleared slabs class chunk ≡ true
cleared_there slabs class chunk accounted valid cut free order = elim (cases_Bool (is_cleared slabs class chunk)) [
  | inl class_after_clear ↦ class_after_clear
  | inr not_yet ↦ absurd (omega (arith, accounted.chunks class chunk valid, ap truth not_yet, ap truth cut, free, order))
]

-- its page is the class's
pub own_from_cut : (slabs : SlabState) (class : ℕ) (chunk : ChunkId) → is_cut slabs class chunk ≡ true → class_of_page slabs chunk.page ≡ class
own_from_cut slabs class chunk cut = class_of_owner-is_of_class class (owner_at slabs.owners chunk.page) (and_parts _ _ cut).0

-- a chunk that was cleared away
pub cleared_after : (slabs : SlabState) (chunk : ChunkId) → IsAccounted slabs → IsAccounted (after_clear slabs chunk)
    → 1 ≤ places_in slabs (class_of_page slabs chunk.page) chunk → is_cleared (after_clear slabs chunk) (class_of_page slabs chunk.page) chunk ≡ true
cleared_after slabs chunk accounted after placed =
    let valid : HasClass slabs (class_of_page slabs chunk.page) = IsClass-placed slabs chunk accounted placed in
    let state : ClassState = class_of_chunk slabs chunk in
    let sum = accounted.chunks (class_of_page slabs chunk.page) chunk valid in
    let one : times_in chunk state.free + times_in chunk state.order ≡ 1 = omega (arith, sum, truth-le_one (is_cut slabs (class_of_page slabs chunk.page) chunk), placed) in
    let here = class_at-with_class_same slabs (class_of_page slabs chunk.page) (class_after_clear state chunk) valid in
    let place_count : places_in (after_clear slabs chunk) (class_of_page slabs chunk.page) chunk ≡ 0
    = ap (λ (c : ClassState). times_in chunk c.free + times_in chunk c.order) here
    ∙ omega (arith, times-without_one chunk chunk state.free state.order one, ap truth (is_chunk-same chunk)) in
    let cut : is_cut (after_clear slabs chunk) (class_of_page slabs chunk.page) chunk ≡ is_cut slabs (class_of_page slabs chunk.page) chunk
    = is_cut-kept slabs (after_clear slabs chunk) (class_of_page slabs chunk.page) chunk refl refl (ap (λ (c : ClassState). c.per_page) here) in
    let valid_after : HasClass (after_clear slabs chunk) (class_of_page slabs chunk.page)
    = (valid.0, omega (arith, valid.1, length-with_class slabs (class_of_page slabs chunk.page) (class_after_clear state chunk))) in
    let sum_after = after.chunks (class_of_page slabs chunk.page) chunk valid_after in
    elim (cases_Bool (is_cleared (after_clear slabs chunk) (class_of_page slabs chunk.page) chunk)) [
      | inl there ↦ there
      | inr still ↦ absurd (omega (arith, sum, sum_after, place_count, ap truth cut, ap truth still, placed))
    ]
