-- A machine stays consistent as an item is stored.
use Rattle.std.proofs.Common.{◌≡◌, ◌≢◌, ℕ, ◌+◌, ◌≤◌, ◌⊎◌, List, [], ◌∷◌, Bool, true, false, Some, None, length, inl, inr, refl, ap, ◌∙◌, arith, eqb}
use Rattle.std.specs.Prelude.{slice_get}
use Rattle.std.specs.BTreeMap.{is_at}
use Rattle.std.proofs.lemmas.Bool.Decides.{nat_tests, leb_tells}
use Rattle.std.proofs.lemmas.List.{length-set}
use Rattle.mc_classes.specs.Classes.{Classes}
use Rattle.mc_pages.specs.declared.ids.ChunkId.{ChunkId}
use Rattle.mc_pages.specs.ClassState.{ClassState, is_chunk, times_in, first_free, class_after_pop, class_after_hand_out}
use Rattle.mc_pages.specs.SlabState.{SlabState, HasClass, class_at, class_of_page, class_of_chunk}
use Rattle.mc_pages.specs.Accounted.{truth, IsAccounted}
use Rattle.mc_pages.specs.Changes.{after_pop}
use Rattle.mc_pages.proofs.Chunks.{is_chunk-same, times-cons, times-push}
use Rattle.mc_serial_spec.specs.Item.{new_item}
use Rattle.mc_serial_spec.specs.Items.{Items, chunk_cmp, item_in_chunk, with_item, linked_chunk}
use Rattle.mc_serial_spec.specs.Consistent.{place_count, IsConsistent}
use Rattle.mc_serial_spec.proofs.Chunks.{places_none, places-with_item, none-places}
use Rattle.mc_serial_spec.proofs.Links.{links_none, links-with_item}
use Rattle.mc_pages.proofs.ListedChunks.{in_lists_once, page_of_listed}
use Rattle.mc_serial_spec.proofs.KeptChanges.{listed}
use Rattle.mc_pages.proofs.OneClass.{class_at-with_class_same, class_at-with_class_other}
use Rattle.mc_pages.proofs.ClassChanges.{handed-chunk, per_page-handed, per_pages-with_class}

-- two chunks compare equal and are one, or don't
pub is_at-tells : (c d : ChunkId) → ((is_at (chunk_cmp c) d ≡ true) × (c ≡ d)) ⊎ ((is_at (chunk_cmp c) d ≡ false) × (is_chunk d c ≡ false))
is_at-tells c d = grind (arith, nat_tests)

-- the head of a free list stands in it
free_head : (x : ChunkId) (free : List ChunkId) → slice_get free 0 ≡ Some x → 1 ≤ times_in x free
free_head x [] h = cc
free_head x (c ∷ free) h =
    let same : c ≡ x = cc in
    let self : is_chunk c x ≡ true = rw same (is_chunk-same x) in
    omega (arith, times-cons x c free, ap truth self)

-- a pop hands out no other chunk
handed-other : (x y : ChunkId) (class : ClassState) (free : List ChunkId) → slice_get free 0 ≡ Some x → is_chunk x y ≡ false
    → times_in y (class_after_hand_out class free).order ≡ times_in y class.order
handed-other x y class [] head apart = cc
handed-other x y class (c ∷ free) head apart =
    let same : c ≡ x = cc in
    let other : is_chunk c y ≡ false = rw same apart in
    omega (arith, times-push y c class.order, ap truth other)

order_pop_step : (b : Bool) (slabs : SlabState) (class other : ℕ) (x y : ChunkId) → HasClass slabs class → HasClass slabs other
    → first_free (class_at slabs class) ≡ Some x → is_chunk x y ≡ false → eqb other class ≡ b
    → times_in y (class_at (after_pop slabs class) other).order ≡ times_in y (class_at slabs other).order
order_pop_step true slabs class other x y valid valid_other head apart is =
    let same : other ≡ class = grind (arith, nat_tests) in
    rw (same, class_at-with_class_same slabs class (class_after_pop (class_at slabs class)) valid) (handed-other x y (class_at slabs class) (class_at slabs class).free head apart)
order_pop_step false slabs class other x y valid valid_other head apart is =
    let elsewhere : other ≢ class = grind (arith, nat_tests) in
    ap (λ (c : ClassState). times_in y c.order) (class_at-with_class_other slabs class other (class_after_pop (class_at slabs class)) valid.0 valid_other.0 elsewhere)

-- what is known of the chunk that a class hands out next
pub record IsNext (slabs : SlabState) (items : Items) (class : ℕ) (x : ChunkId) : Type 0 where
  pub own : class_of_page slabs x.page ≡ class
  pub empty : item_in_chunk items x ≡ None
  -- it is handed out then
  pub listed : 1 ≤ times_in x (class_at (after_pop slabs class) class).order

pub is_next : (table : Classes) (slabs : SlabState) (items : Items) (class : ℕ) (x : ChunkId)
    → IsConsistent table slabs items → HasClass slabs class → first_free (class_at slabs class) ≡ Some x → IsNext slabs items class x
is_next table slabs items class x kept valid head =
    let free : 1 ≤ times_in x (class_at slabs class).free = free_head x (class_at slabs class).free head in
    let own : class_of_page slabs x.page ≡ class = page_of_listed slabs class x kept.accounted valid (omega arith) in
    let once : times_in x (class_at slabs class).free + times_in x (class_at slabs class).order ≤ 1 = in_lists_once slabs class x kept.accounted valid in
    let held : place_count x items ≤ times_in x (class_at slabs class).order = rw own at (kept.handed_out x) in
    let none : place_count x items ≡ 0 = omega arith in
    let handed : times_in x (class_after_hand_out (class_at slabs class) (class_at slabs class).free).order ≡ times_in x (class_at slabs class).order + 1
    = handed-chunk x (class_at slabs class) (class_at slabs class).free head in
    record {
      own = own;
      empty = none-places x items none;
      listed = rw (class_at-with_class_same slabs class (class_after_pop (class_at slabs class)) valid) (omega (arith, handed));
    }

-- after an item comes into the next chunk of a class and that chunk is handed out, under a key that led nowhere
pub kept_store : (table : Classes) (slabs : SlabState) (items : Items) (class key : ℕ) (words : List ℕ) (x : ChunkId)
    → IsConsistent table slabs items → HasClass slabs class → first_free (class_at slabs class) ≡ Some x → IsAccounted (after_pop slabs class)
    → linked_chunk items key ≡ None
    → IsConsistent table (after_pop slabs class) (with_item items x (new_item key words))
kept_store table slabs items class key words x kept valid head accounted unlinked =
    let next : IsNext slabs items class x = is_next table slabs items class x kept valid head in
    let classes : length (after_pop slabs class).classes ≡ length slabs.classes = length-set slabs.classes _ _ in
    let grows = λ (y : ChunkId). places-with_item y x (new_item key words) items next.empty in
    record {
      sound = kept.sound;
      classes = classes ∙ kept.classes;
      per_page = per_pages-with_class slabs class (class_after_pop (class_at slabs class)) (per_page-handed (class_at slabs class) (class_at slabs class).free) ∙ kept.per_page;
      page = kept.page;
      limit = kept.limit;
      whole = kept.whole;
      accounted = accounted;
      one_link = λ q. grind (arith, nat_tests, kept.one_link q, links_none key items unlinked, links-with_item q x (new_item key words) items next.empty);
      handed_out = λ y. elim (is_at-tells y x) [
        | inl same ↦
            let here : 1 ≤ times_in x (class_of_chunk (after_pop slabs class) x).order = rw next.own next.listed in
            rw same.1 (omega (arith, here, places_none x items next.empty, ap truth (rw same.1 at same.0), grows x))
        | inr other ↦ elim (leb_tells 1 (place_count y items)) [
          | inl some ↦
              let there : HasClass slabs (class_of_page slabs y.page) = listed table slabs items y kept some.1 in
              omega (
                arith,
                kept.handed_out y,
                grows y,
                ap truth other.0,
                order_pop_step (eqb (class_of_page slabs y.page) class) slabs class (class_of_page slabs y.page) x y valid there head other.1 refl,
              )
          | inr none ↦ omega (arith, none.1, grows y, ap truth other.0)
        ]
      ];
      stored = λ n y valid_new.
          let valid_old : HasClass slabs n = (valid_new.0, rw (← classes) valid_new.1) in
          elim (is_at-tells y x) [
            | inl same ↦
                rw same.1 (omega (arith, in_lists_once (after_pop slabs class) n x accounted valid_new, ap truth (rw same.1 at same.0), grows x))
            | inr other ↦
                omega (arith, kept.stored n y valid_old, grows y, ap truth other.0, order_pop_step (eqb n class) slabs class n x y valid valid_old head other.1 refl)
          ];
    }
