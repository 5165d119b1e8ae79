-- How many pages and chunks there can be.
use Rattle.std.proofs.Common.{◌≡◌, ℕ, ◌+◌, ◌-◌, ◌*◌, ◌/◌, ◌≤◌, ◌<◌, length, slice_index_or, Some, ◌∙◌, arith}
use Rattle.std.specs.Prelude.{Contains, map, slice_get}
use Rattle.std.proofs.lemmas.List.{length-map, get_or-map}
use Rattle.std.proofs.Math.Nat.{mul-le-mul_left}
use Rattle.std.proofs.lemmas.Option.{get_or_from_slice_get, slice_get_within}
use Rattle.mc_classes.specs.Classes.{Classes, IsClass as IsTableClass}
use Rattle.mc_pages.specs.declared.ids.ChunkId.{ChunkId}
use Rattle.mc_pages.specs.ClassState.{ClassState, new_class, times_in}
use Rattle.mc_pages.specs.SlabState.{SlabState, HasClass, class_at, class_of_page}
use Rattle.mc_pages.proofs.Chunks.{times_from_Contains}
use Rattle.mc_pages.proofs.GrantedPage.{length-owners, length-pages_le}
use Rattle.mc_serial_spec.specs.Items.{Items}
use Rattle.mc_serial_spec.specs.Consistent.{IsConsistent}
use Rattle.mc_watch.specs.Texts.{AreCounts}
use Rattle.mc_pages.proofs.ListedChunks.{in_lists_once, page_of_listed}
use Rattle.mc_serial_spec.proofs.Grown.{per_page_kept}

module _ (table : Classes) (slabs : SlabState) (items : Items) (class : ℕ)
    (kept : IsConsistent table slabs items) (valid : HasClass slabs class) where
  -- a class has at most as many pages as there are
  pub pages_few : length (class_at slabs class).pages ≤ 127
  pages_few =
      let owners : length slabs.owners ≡ table.limit / table.page + length table.sizes = rw (← kept.limit, ← kept.page, ← kept.classes) (length-owners slabs kept.accounted) in
      omega (arith, length-pages_le slabs class kept.accounted valid, owners, kept.sound.pages.1, kept.sound.count.1)

  chunks_few : (class_at slabs class).per_page ≤ 256
  chunks_few =
      let inside : class ≤ length table.sizes = omega (arith, valid.1, kept.classes) in
      rw (per_page_kept table slabs items class kept valid) (kept.sound.chunks class (valid.0, inside)).1

  -- free and handed-out chunks are at most what its pages have
  pub free_within : length (class_at slabs class).free ≤ length (class_at slabs class).pages * (class_at slabs class).per_page
  free_within = omega (arith, kept.accounted.total class valid)

  pub order_short : length (class_at slabs class).order ≤ 32512
  order_short =
      omega (
        arith,
        kept.accounted.total class valid,
        pages_few,
        chunks_few,
        mul-le-mul_left (length (class_at slabs class).pages) chunks_few,
      )

  -- a chunk of the hand-out order stands there once, and its page is the class's
  pub listed_own : (place : ℕ) (x : ChunkId) → slice_get (class_at slabs class).order place ≡ Some x → class_of_page slabs x.page ≡ class
  listed_own place x at =
      let there : Contains (class_at slabs class).order x
      = (place, slice_get_within (class_at slabs class).order place x at, get_or_from_slice_get (class_at slabs class).order place x x at) in
      page_of_listed slabs class x kept.accounted valid (omega (arith, times_from_Contains x (class_at slabs class).order there))

  pub listed_once : (x : ChunkId) → times_in x (class_at slabs class).order ≤ 1
  listed_once x = omega (arith, in_lists_once slabs class x kept.accounted valid)

-- the numbers of all classes are counts for their text
module _ (table : Classes) (slabs : SlabState) (items : Items) (kept : IsConsistent table slabs items) where
  count_of_class : (f : ClassState → ℕ) (class : ℕ) → IsTableClass table class
      → slice_index_or (map f slabs.classes) (class - 1) 0 ≡ f (class_at slabs class)
  count_of_class f class valid =
      let inside : class - 1 < length slabs.classes = omega (arith, valid.0, valid.1, kept.classes) in
      get_or-map f slabs.classes (class - 1) (new_class 0 0) 0 inside

  pub are_counts : AreCounts table (map (λ (class : ClassState). length class.pages) slabs.classes) (map (λ (class : ClassState). length class.free) slabs.classes)
  are_counts = record {
    pages_of_each = length-map slabs.classes (λ (class : ClassState). length class.pages) ∙ kept.classes;
    free_of_each = length-map slabs.classes (λ (class : ClassState). length class.free) ∙ kept.classes;
    within_limit = λ class valid.
        let there : HasClass slabs class = (valid.0, rw kept.classes valid.1) in
        rw (count_of_class (λ (c : ClassState). length c.pages) class valid) (omega (arith, pages_few table slabs items class kept there));
    within = λ class valid.
        let there : HasClass slabs class = (valid.0, rw kept.classes valid.1) in
        rw (
          count_of_class (λ (c : ClassState). length c.pages) class valid,
          count_of_class (λ (c : ClassState). length c.free) class valid,
          ← per_page_kept table slabs items class kept there,
        ) (free_within table slabs items class kept there);
  }
