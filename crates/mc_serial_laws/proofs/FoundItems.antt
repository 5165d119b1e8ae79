-- What is found in a chunk, through each change of the items.
use Rattle.std.proofs.Common.{◌≡◌, ℕ, ◌≤◌, [], ◌∷◌, Bool, true, false, cond, Some, None, refl, ap, sym, ◌∙◌, arith, inl, inr}
use Rattle.std.specs.Prelude.{if◌then◌else◌}
use Rattle.std.specs.Option.{option_map}
use Rattle.std.specs.declared.cmp.Ordering.{Ordering}
use Rattle.std.specs.declared.cmp.Ordering.TheVariants.{Less, Equal, Greater}
use Rattle.std.specs.BTreeMap.{is_at}
use Rattle.std.proofs.lemmas.Bool.{cases_Bool}
use Rattle.std.proofs.lemmas.Option.{none-some}
use Rattle.std.proofs.lemmas.Bool.Decides.{nat_tests}
use Rattle.mc_pages.specs.declared.ids.ChunkId.{ChunkId}
use Rattle.mc_pages.specs.Accounted.{truth}
use Rattle.mc_pages.specs.ClassState.{is_chunk}
use Rattle.mc_pages.proofs.Chunks.{is_chunk-same, same_from_is_chunk}
use Rattle.mc_serial_spec.specs.Item.{Item, is_linked_to, item_after_unlink}
use Rattle.mc_serial_spec.specs.Items.{Items, chunk_cmp, item_in_chunk, with_item, without_item, unlinked_items, PlacedItem}
use Rattle.mc_serial_spec.specs.Consistent.{place_count}
use Rattle.mc_serial_spec.proofs.Chunks.{none-places}
use Rattle.mc_serial_spec.proofs.KeptMoverClear.{places_without}
use Rattle.mc_serial_spec.proofs.Sweeps.{item_at-without_item}

-- the item, unlinked if the key led to it
abbrev pub unlinked_from : ℕ → Item → Item
unlinked_from key item = if is_linked_to key item then item_after_unlink item else item

-- unlinking a key leaves in each chunk its item
pub item_at-unlinked_items : (key : ℕ) (items : Items) (chunk : ChunkId)
    → item_in_chunk (unlinked_items items key) chunk ≡ option_map (unlinked_from key) (item_in_chunk items chunk)
item_at-unlinked_items key [] chunk = refl
item_at-unlinked_items key (e ∷ items) chunk = unlinked_step (is_at (chunk_cmp chunk) e.chunk) refl (item_at-unlinked_items key items chunk)
  where
    unlinked_step : (b : Bool) → is_at (chunk_cmp chunk) e.chunk ≡ b
        → item_in_chunk (unlinked_items items key) chunk ≡ option_map (unlinked_from key) (item_in_chunk items chunk)
        → item_in_chunk (unlinked_items (e ∷ items) key) chunk ≡ option_map (unlinked_from key) (item_in_chunk (e ∷ items) chunk)
    unlinked_step true is more = rw is refl
    unlinked_step false is more = rw is more

-- what comes into a chunk is found there, and in every other what was found before: at one entry of the list
with_step : (o : Ordering) (d : ChunkId) (item : Item) (c : ChunkId) (e : PlacedItem) (items : Items)
    → chunk_cmp d e.chunk ≡ o → item_in_chunk (e ∷ items) d ≡ None
    → (item_in_chunk items d ≡ None → item_in_chunk (with_item items d item) c ≡ cond (is_at (chunk_cmp c) d) (Some item) (item_in_chunk items c))
    → item_in_chunk (with_item (e ∷ items) d item) c ≡ cond (is_at (chunk_cmp c) d) (Some item) (item_in_chunk (e ∷ items) c)
with_step Less d item c e items is none more = rw is refl
with_step Equal d item c e items is none more = let bad : Some e.item ≡ None = rw is at none in cc
with_step Greater d item c e items is none more =
    let absent : item_in_chunk items d ≡ None = rw is at none in
    there (is_at (chunk_cmp c) d) refl (more absent)
  where
    there : (b : Bool) → is_at (chunk_cmp c) d ≡ b
        → item_in_chunk (with_item items d item) c ≡ cond (is_at (chunk_cmp c) d) (Some item) (item_in_chunk items c)
        → item_in_chunk (with_item (e ∷ items) d item) c ≡ cond (is_at (chunk_cmp c) d) (Some item) (item_in_chunk (e ∷ items) c)
    there true same rest =
        let at : c ≡ d = grind (arith, nat_tests) in
        rw is (grind (arith, nat_tests, rest))
    there false other rest = rw is (grind (arith, nat_tests, rest))

pub item_at-with_item : (d : ChunkId) (item : Item) (c : ChunkId) (items : Items) → item_in_chunk items d ≡ None
    → item_in_chunk (with_item items d item) c ≡ cond (is_at (chunk_cmp c) d) (Some item) (item_in_chunk items c)
item_at-with_item d item c [] none = refl
item_at-with_item d item c (e ∷ items) none = with_step (chunk_cmp d e.chunk) d item c e items refl none (item_at-with_item d item c items)

-- a chunk's only item goes: the chunk has none
pub item_at-gone : (items : Items) (chunk : ChunkId) (item : Item) → item_in_chunk items chunk ≡ Some item → place_count chunk items ≤ 1
    → item_in_chunk (without_item items chunk) chunk ≡ None
item_at-gone items chunk item there once =
    none-places chunk (without_item items chunk) (omega (arith, places_without chunk chunk item items there, ap truth (is_chunk-same chunk)))

-- what is found when a chunk's only item is gone was found before
pub found_before : (items : Items) (chunk : ChunkId) (item : Item) (c : ChunkId) (found : Item) → item_in_chunk items chunk ≡ Some item
    → place_count chunk items ≤ 1 → item_in_chunk (without_item items chunk) c ≡ Some found → item_in_chunk items c ≡ Some found
found_before items chunk item c found there once at = elim (cases_Bool (is_chunk chunk c)) [
  | inl same ↦
      let one : chunk ≡ c = same_from_is_chunk chunk c same in
      let none : item_in_chunk (without_item items chunk) c ≡ None
      = ap (λ (x : ChunkId). item_in_chunk (without_item items chunk) x) (sym one) ∙ item_at-gone items chunk item there once in
      absurd (none-some found (sym none ∙ at))
  | inr other ↦ sym (item_at-without_item items chunk c other) ∙ at
]
