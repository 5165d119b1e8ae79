-- Which changes leave a machine consistent.
use Rattle.std.proofs.Common.{◌≡◌, ◌≢◌, ℕ, ◌+◌, ◌-◌, ◌/◌, ◌≤◌, ◌⊎◌, List, [], ◌∷◌, length, get_or, Bool, true, false, Option, Some, None, suc, zero, inl, inr, refl, ap, sym, ◌∙◌, arith, eqb}
use Rattle.std.specs.Prelude.{fold, map, not}
use Rattle.std.specs.Option.{option_map_or}
use Rattle.std.proofs.lemmas.Bool.{not-true}
use Rattle.std.proofs.lemmas.Bool.Decides.{nat_tests, leb_tells}
use Rattle.std.proofs.lemmas.List.{get_or-set_other, get_or_past, length-set, length-map}
use Rattle.mc_classes.specs.Classes.{Classes, IsSound}
use Rattle.mc_pages.specs.declared.ids.ChunkId.{ChunkId}
use Rattle.mc_pages.specs.declared.ledger.Owner.{Owner}
use Rattle.mc_pages.specs.declared.ledger.Owner.TheVariants.{Untouched, Class}
use Rattle.mc_pages.specs.Ledger.{owner_at}
use Rattle.mc_pages.specs.ClassState.{ClassState, new_class, is_chunk, times_in, without, put_back, with_page}
use Rattle.mc_pages.specs.SlabState.{SlabState, HasClass, class_at, class_of_owner, class_of_page, class_of_chunk, fresh_slabs}
use Rattle.mc_pages.specs.Accounted.{truth, IsAccounted}
use Rattle.mc_pages.specs.Changes.{after_back, after_grow, after_cut, next_page}
use Rattle.mc_serial_spec.specs.Item.{Item}
use Rattle.mc_serial_spec.specs.Machine.{with_mode}
use Rattle.mc_serial_spec.specs.Items.{Items, item_in_chunk, has_unlinked_item, without_item, unlinked_in, unlinked_items, linked_chunk}
use Rattle.mc_serial_spec.specs.Consistent.{place_count, IsConsistent}
use Rattle.mc_serial_spec.proofs.Chunks.{places-unlinked_items, places-without_item, places-without_item-le, places-without_item-other}
use Rattle.mc_serial_spec.proofs.Links.{links-unlinked_items, links-without_item-le, some_places, LinkedIn, linked_in, unlinked_items_none}
use Rattle.mc_pages.proofs.Chunks.{is_chunk-same, times-without, times-cons}
use Rattle.mc_pages.proofs.ListedChunks.{in_lists_once, page_of_listed}
use Rattle.mc_pages.proofs.NextPage.{nobody_next, classes-grown, owners-grown, page-grown, limit-grown, class_at-grown}
use Rattle.mc_pages.proofs.OneClass.{class_at-with_class_same, class_at-with_class_other}
use Rattle.mc_pages.proofs.ClassChanges.{order-with_class, owners-cuts, classes-cuts, order-cuts, per_pages-with_class, per_pages-cuts, page-cuts, limit-cuts}

-- two chunks have one name, or are two
is_chunk-tells : (c d : ChunkId) → ((is_chunk c d ≡ true) × (c ≡ d)) ⊎ ((is_chunk c d ≡ false) × (c ≢ d))
is_chunk-tells c d = grind (arith, nat_tests)

-- a class that isn't there has no hand-out order
no_order : (n : ℕ) (slabs : SlabState) (x : ChunkId) → length slabs.classes ≤ n - 1 → times_in x (class_at slabs n).order ≡ 0
no_order n slabs x past =
    let none : (class_at slabs n).order ≡ [] = ap (λ (c : ClassState). c.order) (get_or_past slabs.classes (n - 1) (new_class 0 0) past) in
    rw none refl

-- a chunk that stands in the hand-out order of its page's class: that class is there
class_there : (n : ℕ) (slabs : SlabState) (x : ChunkId) → IsAccounted slabs → class_of_page slabs x.page ≡ n
    → 1 ≤ times_in x (class_at slabs n).order → HasClass slabs n
class_there zero slabs x accounted is here = elim (leb_tells 1 (length slabs.classes)) [
  | inl some ↦
      let one : class_of_page slabs x.page ≡ 1 = page_of_listed slabs 1 x accounted (omega arith, some.1) (omega arith) in
      absurd (omega arith)
  | inr none ↦ absurd (omega (arith, no_order 0 slabs x (omega (arith, none.1))))
]
class_there (suc n) slabs x accounted is here = elim (leb_tells (suc n) (length slabs.classes)) [
  | inl inside ↦ (omega arith, inside.1)
  | inr past ↦ absurd (omega (arith, no_order (suc n) slabs x (omega (arith, past.1))))
]

-- the classes of a table have its chunks a page
per_pages-fresh : (page : ℕ) (sizes : List ℕ)
    → map (λ (c : ClassState). c.per_page) (map (λ size. new_class size (page / size)) sizes) ≡ map (λ size. page / size) sizes
per_pages-fresh page [] = refl
per_pages-fresh page (size ∷ sizes) = ap (λ cs. (page / size) ∷ cs) (per_pages-fresh page sizes)

-- and no chunk is handed out
order-fresh : (page : ℕ) (sizes : List ℕ) (place : ℕ) → (get_or (map (λ size. new_class size (page / size)) sizes) place (new_class 0 0)).order ≡ []
order-fresh page [] place = refl
order-fresh page (size ∷ sizes) zero = refl
order-fresh page (size ∷ sizes) (suc place) = order-fresh page sizes place

no_orders_fresh : (table : Classes) (class : ℕ) (x : ChunkId) → times_in x (class_at (fresh_slabs table) class).order ≤ 0
no_orders_fresh table class x = omega (arith, ap (λ (cs : List ChunkId). times_in x cs) (order-fresh table.page table.sizes (class - 1)))

-- where nothing is stored yet
pub kept_fresh : (table : Classes) (mode : ℕ) (slabs : SlabState) (items : Items)
    → IsSound table → slabs ≡ with_mode (fresh_slabs table) mode → IsAccounted slabs → items ≡ [] → IsConsistent table slabs items
kept_fresh table mode slabs items sound slabs_is accounted items_is = rw items_is (record {
  sound = sound;
  classes = rw slabs_is (length-map table.sizes (λ size. new_class size (table.page / size)));
  per_page = rw slabs_is (per_pages-fresh table.page table.sizes);
  page = rw slabs_is refl;
  limit = rw slabs_is refl;
  whole = rw slabs_is refl;
  accounted = accounted;
  one_link = λ key. omega arith;
  handed_out = λ chunk. omega arith;
  stored = λ class chunk valid. rw slabs_is (no_orders_fresh table class chunk);
})

-- an item's chunk stands in the hand-out order of a class that is there
pub listed : (table : Classes) (slabs : SlabState) (items : Items) (x : ChunkId)
    → IsConsistent table slabs items → 1 ≤ place_count x items → HasClass slabs (class_of_page slabs x.page)
listed table slabs items x kept there =
    class_there (class_of_page slabs x.page) slabs x kept.accounted refl (omega (arith, kept.handed_out x))

-- no chunk stands among the items twice
pub place_once : (table : Classes) (slabs : SlabState) (items : Items) (x : ChunkId)
    → IsConsistent table slabs items → place_count x items ≤ 1
place_once table slabs items x kept = elim (leb_tells 1 (place_count x items)) [
  | inl some ↦
      let there : HasClass slabs (class_of_page slabs x.page) = listed table slabs items x kept some.1 in
      omega (arith, kept.handed_out x, in_lists_once slabs (class_of_page slabs x.page) x kept.accounted there)
  | inr none ↦ omega (arith, none.1)
]

-- the item that the key leads to is the one that is unlinked
pub unlinks_found : (table : Classes) (slabs : SlabState) (items : Items) (key : ℕ) (chunk : ChunkId)
    → IsConsistent table slabs items → linked_chunk items key ≡ Some chunk
    → unlinked_in items chunk (item_in_chunk items chunk) ≡ unlinked_items items key
unlinks_found table slabs items key chunk kept leads =
    let item : LinkedIn key chunk items = linked_in key chunk items leads (place_once table slabs items chunk kept) (kept.one_link key) in
    rw item.there item.unlinks

-- where it leads nowhere, nothing is to unlink
pub unlinks_none : (table : Classes) (slabs : SlabState) (items : Items) (key : ℕ)
    → IsConsistent table slabs items → linked_chunk items key ≡ None → unlinked_items items key ≡ items
unlinks_none table slabs items key kept none = unlinked_items_none key items none

-- after a key is unlinked
pub kept_unlink : (table : Classes) (slabs : SlabState) (items : Items) (key : ℕ)
    → IsConsistent table slabs items → IsConsistent table slabs (unlinked_items items key)
kept_unlink table slabs items key kept = record {
  sound = kept.sound;
  classes = kept.classes;
  per_page = kept.per_page;
  page = kept.page;
  limit = kept.limit;
  whole = kept.whole;
  accounted = kept.accounted;
  one_link = λ q. grind (arith, nat_tests, kept.one_link q, links-unlinked_items q key items);
  handed_out = λ y. rw (places-unlinked_items y key items) (kept.handed_out y);
  stored = λ class y valid. rw (places-unlinked_items y key items) (kept.stored class y valid);
}

-- a put back takes one chunk out of one hand-out order
order_back_step : (b : Bool) (slabs : SlabState) (other : ℕ) (x y : ChunkId) → HasClass slabs (class_of_page slabs x.page) → HasClass slabs other
    → 1 ≤ times_in x (class_of_chunk slabs x).order → is_chunk x y ≡ false → eqb other (class_of_page slabs x.page) ≡ b
    → times_in y (class_at (after_back slabs x) other).order ≡ times_in y (class_at slabs other).order
order_back_step true slabs other x y valid valid_other handed apart is =
    let same : other ≡ class_of_page slabs x.page = grind (arith, nat_tests) in
    rw (same, class_at-with_class_same slabs (class_of_page slabs x.page) (put_back (class_of_chunk slabs x) x) valid)
    (grind (arith, times-without y x (class_of_chunk slabs x).order handed))
order_back_step false slabs other x y valid valid_other handed apart is =
    let elsewhere : other ≢ class_of_page slabs x.page = grind (arith, nat_tests) in
    rw (class_at-with_class_other slabs (class_of_page slabs x.page) other (put_back (class_of_chunk slabs x) x) valid.0 valid_other.0 elsewhere) refl

-- the chunk itself is in none then
none_back : (slabs : SlabState) (class : ℕ) (x : ChunkId) → IsAccounted (after_back slabs x) → HasClass slabs (class_of_page slabs x.page)
    → HasClass (after_back slabs x) class → times_in x (class_at (after_back slabs x) class).order ≡ 0
none_back slabs class x accounted valid valid_new = elim (leb_tells 1 (times_in x (class_at (after_back slabs x) class).order)) [
  | inl some ↦
      let own : class_of_page slabs x.page ≡ class = page_of_listed (after_back slabs x) class x accounted valid_new (omega arith) in
      let listed_in = λ (c : ClassState). times_in x c.free + times_in x c.order in
      let back : class_at (after_back slabs x) class ≡ put_back (class_of_chunk slabs x) x
      = ap (λ (n : ℕ). class_at (after_back slabs x) n) (sym own)
      ∙ class_at-with_class_same slabs (class_of_page slabs x.page) (put_back (class_of_chunk slabs x) x) valid in
      let free : times_in x (x ∷ (class_of_chunk slabs x).free) ≡ 1 + times_in x (class_of_chunk slabs x).free
      = times-cons x x (class_of_chunk slabs x).free ∙ ap (λ b. truth b + times_in x (class_of_chunk slabs x).free) (is_chunk-same x) in
      absurd (omega (
        arith,
        in_lists_once (after_back slabs x) class x accounted valid_new,
        ap listed_in back,
        ap (λ (c : ClassState). times_in x c.order) back,
        free,
      ))
  | inr none ↦ omega (arith, none.1)
]

-- after a chunk is put back and its item is gone
pub kept_back : (table : Classes) (slabs : SlabState) (items : Items) (x : ChunkId)
    → IsConsistent table slabs items → IsAccounted (after_back slabs x) → 1 ≤ place_count x items
    → IsConsistent table (after_back slabs x) (without_item items x)
kept_back table slabs items x kept accounted there =
    let valid : HasClass slabs (class_of_page slabs x.page) = listed table slabs items x kept there in
    let handed : 1 ≤ times_in x (class_of_chunk slabs x).order = omega (arith, kept.handed_out x) in
    let classes : length (after_back slabs x).classes ≡ length slabs.classes = length-set slabs.classes _ _ in
    record {
      sound = kept.sound;
      classes = classes ∙ kept.classes;
      per_page = per_pages-with_class slabs (class_of_page slabs x.page) (put_back (class_of_chunk slabs x) x) refl ∙ kept.per_page;
      page = kept.page;
      limit = kept.limit;
      whole = kept.whole;
      accounted = accounted;
      one_link = λ q. omega (arith, kept.one_link q, links-without_item-le q x items);
      handed_out = λ y. elim (is_chunk-tells x y) [
        | inl same ↦
            let back : class_at (after_back slabs x) (class_of_page slabs x.page) ≡ put_back (class_of_chunk slabs x) x
            = class_at-with_class_same slabs (class_of_page slabs x.page) (put_back (class_of_chunk slabs x) x) valid in
            let less : times_in x (without x (class_of_chunk slabs x).order) + 1 ≡ times_in x (class_of_chunk slabs x).order
            = grind (arith, is_chunk-same x, times-without x x (class_of_chunk slabs x).order handed) in
            rw (← same.1) (rw back (omega (arith, kept.handed_out x, less, places-without_item x items there)))
        | inr other ↦ elim (leb_tells 1 (place_count y items)) [
          | inl some ↦
              let there_too : HasClass slabs (class_of_page slabs y.page) = listed table slabs items y kept some.1 in
              omega (
                arith,
                kept.handed_out y,
                places-without_item-le y x items,
                order_back_step (eqb (class_of_page slabs y.page) (class_of_page slabs x.page)) slabs (class_of_page slabs y.page) x y valid there_too handed other.0 refl,
              )
          | inr none ↦ omega (arith, none.1, places-without_item-le y x items)
        ]
      ];
      stored = λ class y valid_new.
          let valid_old : HasClass slabs class = (valid_new.0, rw (← classes) valid_new.1) in
          elim (is_chunk-tells x y) [
            | inl same ↦ rw (← same.1) (omega (arith, none_back slabs class x accounted valid valid_new))
            | inr other ↦
                omega (
                  arith,
                  kept.stored class y valid_old,
                  places-without_item-other y x items other.0,
                  order_back_step (eqb class (class_of_page slabs x.page)) slabs class x y valid valid_old handed other.0 refl,
                )
          ];
    }

-- what has an item that its key doesn't lead to is there
pub unlinked_item : (items : Items) (x : ChunkId) → has_unlinked_item items x ≡ true → (item : Item) × (item_in_chunk items x ≡ Some item) × (item.linked ≡ false)
unlinked_item items x is = found_in (item_in_chunk items x) refl is
  where
    found_in : (found : Option Item) → item_in_chunk items x ≡ found → option_map_or (λ (item : Item). not item.linked) found false ≡ true
        → (item : Item) × (item_in_chunk items x ≡ Some item) × (item.linked ≡ false)
    found_in None at bad = cc
    found_in (Some item) at holds = (item, at, not-true item.linked holds)

-- after a dead chunk is put back and its item is gone
pub kept_reclaim : (table : Classes) (slabs : SlabState) (items : Items) (x : ChunkId)
    → IsConsistent table slabs items → IsAccounted (after_back slabs x) → has_unlinked_item items x ≡ true → IsConsistent table (after_back slabs x) (without_item items x)
kept_reclaim table slabs items x kept accounted unlinked =
    let found = unlinked_item items x unlinked in
    kept_back table slabs items x kept accounted (some_places x found.0 items found.1)

-- after a class got the next page and its chunks were cut
pub kept_grow : (table : Classes) (slabs : SlabState) (items : Items) (class page : ℕ) (chunks : List ChunkId)
    → IsConsistent table slabs items → HasClass slabs class → next_page slabs class ≡ Some page
    → IsAccounted (fold after_cut (after_grow slabs class page) chunks)
    → (fold after_cut (after_grow slabs class page) chunks).uncut ≡ None
    → IsConsistent table (fold after_cut (after_grow slabs class page) chunks) items
kept_grow table slabs items class page chunks kept valid next accounted whole =
    let new = after_grow slabs class page in
    let nobody = (nobody_next slabs class page kept.accounted next).0 in
    let classes : length new.classes ≡ length slabs.classes = ap length (classes-grown slabs class page) ∙ length-set slabs.classes _ _ in
    let orders = λ (n : ℕ) (there : HasClass slabs n).
    order-cuts new chunks n (there.0, rw classes there.1)
    ∙ ap (λ (c : ClassState). c.order) (class_at-grown slabs class page n)
    ∙ order-with_class slabs class n (with_page (class_at slabs class) page) there refl in
    record {
      sound = kept.sound;
      classes = classes-cuts new chunks ∙ classes ∙ kept.classes;
      per_page = per_pages-cuts new chunks
          ∙ ap (λ (cs : List ClassState). map (λ (c : ClassState). c.per_page) cs) (classes-grown slabs class page)
          ∙ per_pages-with_class slabs class (with_page (class_at slabs class) page) refl ∙ kept.per_page;
      page = page-cuts new chunks ∙ page-grown slabs class page ∙ kept.page;
      limit = limit-cuts new chunks ∙ limit-grown slabs class page ∙ kept.limit;
      whole = whole;
      accounted = accounted;
      one_link = kept.one_link;
      handed_out = λ y. elim (leb_tells 1 (place_count y items)) [
        | inl some ↦
            let there : HasClass slabs (class_of_page slabs y.page) = listed table slabs items y kept some.1 in
            let apart : y.page ≢ page = λ same.
            let none : class_of_page slabs y.page ≡ 0 = ap (λ (p : ℕ). class_of_page slabs p) same ∙ nobody in
            omega (arith, there.0, none) in
            let own : class_of_page (fold after_cut new chunks) y.page ≡ class_of_page slabs y.page
            = ap (λ (owners : List Owner). class_of_owner (owner_at owners y.page)) (owners-cuts new chunks ∙ owners-grown slabs class page)
            ∙ ap class_of_owner (get_or-set_other slabs.owners page y.page (Class class) Untouched apart) in
            let order : (class_at (fold after_cut new chunks) (class_of_page slabs y.page)).order ≡ (class_of_chunk slabs y).order
            = orders (class_of_page slabs y.page) there in
            rw (own, order) (kept.handed_out y)
        | inr none ↦ omega (arith, none.1)
      ];
      stored = λ n y valid_new.
          let there : HasClass slabs n = (valid_new.0, rw (← (classes-cuts new chunks ∙ classes)) valid_new.1) in
          let order : (class_at (fold after_cut new chunks) n).order ≡ (class_at slabs n).order = orders n there in
          rw order (kept.stored n y there);
    }
