-- No call changes how many classes and pages there are, nor how many chunks a page of a class has.
use Rattle.std.proofs.Common.{◌≡◌, ℕ, ◌-◌, ◌/◌, ◌<◌, ◌==◌, Bool, true, false, List, [], ◌∷◌, length, map, get_or, Option, Some, None, refl, sym, ap, ◌∙◌, subst, arith}
use Rattle.std.specs.Prelude.{if◌then◌else◌, nat_lt}
use Rattle.std.proofs.lemmas.List.{length-set, length-map, length-replicate, get_or-map}
use Rattle.std.proofs.Math.Seq.{map-set_same}
use Rattle.mc_classes.specs.Classes.{Classes, per_page_of, arena_pages_of}
use Rattle.mc_pages.specs.declared.ids.ChunkId.{ChunkId}
use Rattle.mc_pages.specs.declared.ids.Moving.{Moving}
use Rattle.mc_pages.specs.declared.ledger.Owner.TheVariants.{Untouched}
use Rattle.mc_pages.specs.declared.moves.Found.{Found}
use Rattle.mc_pages.specs.ClassState.{ClassState, new_class, class_after_pop, class_after_hand_out, with_cut, with_page, without_page}
use Rattle.mc_pages.specs.SlabState.{SlabState, HasClass, class_at, class_of_page, class_of_chunk, fresh_slabs}
use Rattle.mc_pages.specs.Changes.{with_class, with_given, after_pop, after_back, after_touch, after_replace, after_clear, after_cut, after_evicted, after_take, after_grant, after_grow}
use Rattle.mc_pages.specs.Moves.{after_page_release, after_page_arrival, after_begin, after_finish, after_passed, after_wrap}
use Rattle.test_pages.specs.Sized.{HasSizesOf}

-- the table's classes have its chunks a page
per_page_fresh : (page : ℕ) (sizes : List ℕ) → map (λ (c : ClassState). c.per_page) (map (λ size. new_class size (page / size)) sizes) ≡ map (λ size. page / size) sizes
per_page_fresh page [] = refl
per_page_fresh page (size ∷ sizes) = ap (λ cs. (page / size) ∷ cs) (per_page_fresh page sizes)

pub sized_fresh : (table : Classes) (slabs : SlabState) → slabs ≡ fresh_slabs table → HasSizesOf slabs table
sized_fresh table slabs is = subst (λ (s : SlabState). HasSizesOf s table) (sym is) (record {
  classes = length-map table.sizes (λ size. new_class size (table.page / size));
  pages = length-replicate (arena_pages_of table) Untouched;
  per_page = per_page_fresh table.page table.sizes;
})

-- the chunks of a page are the table's
pub sized_class : (slabs : SlabState) (table : Classes) (class : ℕ) → HasSizesOf slabs table → HasClass slabs class → (class_at slabs class).per_page ≡ per_page_of table class
sized_class slabs table class sized is =
    let inside : class - 1 < length slabs.classes = omega (arith, is.0, is.1) in
    let inside_too : class - 1 < length table.sizes = omega (arith, sized.classes) in
    sym (get_or-map (λ (c : ClassState). c.per_page) slabs.classes (class - 1) (new_class 0 0) 0 inside)
    ∙ ap (λ ns. get_or ns (class - 1) 0) sized.per_page
    ∙ get_or-map (λ size. table.page / size) table.sizes (class - 1) 0 0 inside_too

-- one class is another now
sized-with_class : (slabs : SlabState) (table : Classes) (class : ℕ) (state : ClassState) → state.per_page ≡ (class_at slabs class).per_page → HasSizesOf slabs table → HasSizesOf (with_class slabs class state) table
sized-with_class slabs table class state same sized = record {
  classes = length-set slabs.classes _ _ ∙ sized.classes;
  pages = sized.pages;
  per_page = map-set_same (λ (c : ClassState). c.per_page) slabs.classes (class - 1) state (new_class 0 0) same ∙ sized.per_page;
}

-- the same classes, and as many pages
sized_like : (slabs new : SlabState) (table : Classes) → new.classes ≡ slabs.classes → length new.owners ≡ length slabs.owners → HasSizesOf slabs table → HasSizesOf new table
sized_like slabs new table classes owners sized = record {
  classes = ap length classes ∙ sized.classes;
  pages = owners ∙ sized.pages;
  per_page = ap (λ (cs : List ClassState). map (λ (c : ClassState). c.per_page) cs) classes ∙ sized.per_page;
}

now : (new is : SlabState) (table : Classes) → new ≡ is → HasSizesOf is table → HasSizesOf new table
now new is table same sized = subst (λ (s : SlabState). HasSizesOf s table) (sym same) sized

per_page-handed : (class : ClassState) (free : List ChunkId) → (class_after_hand_out class free).per_page ≡ class.per_page
per_page-handed class [] = refl
per_page-handed class (c ∷ free) = refl

pub sized_pop : (slabs new : SlabState) (table : Classes) (class : ℕ) → HasSizesOf slabs table → new ≡ after_pop slabs class → HasSizesOf new table
sized_pop slabs new table class sized is =
    now new (after_pop slabs class) table is (sized-with_class slabs table class (class_after_pop (class_at slabs class)) (per_page-handed (class_at slabs class) (class_at slabs class).free) sized)

pub sized_back : (slabs new : SlabState) (table : Classes) (chunk : ChunkId) → HasSizesOf slabs table → new ≡ after_back slabs chunk → HasSizesOf new table
sized_back slabs new table chunk sized is = now new (after_back slabs chunk) table is (sized-with_class slabs table _ _ refl sized)

pub sized_touch : (slabs new : SlabState) (table : Classes) (chunk : ChunkId) → HasSizesOf slabs table → new ≡ after_touch slabs chunk → HasSizesOf new table
sized_touch slabs new table chunk sized is = now new (after_touch slabs chunk) table is (sized-with_class slabs table _ _ refl sized)

pub sized_replace : (slabs new : SlabState) (table : Classes) (free old : ChunkId) → HasSizesOf slabs table → new ≡ after_replace slabs free old → HasSizesOf new table
sized_replace slabs new table free old sized is = now new (after_replace slabs free old) table is (sized-with_class slabs table _ _ refl sized)

pub sized_clear : (slabs new : SlabState) (table : Classes) (chunk : ChunkId) → HasSizesOf slabs table → new ≡ after_clear slabs chunk → HasSizesOf new table
sized_clear slabs new table chunk sized is = now new (after_clear slabs chunk) table is (sized-with_class slabs table _ _ refl sized)

pub sized_evicted : (slabs new : SlabState) (table : Classes) (class : ℕ) → HasSizesOf slabs table → new ≡ after_evicted slabs class → HasSizesOf new table
sized_evicted slabs new table class sized is = now new (after_evicted slabs class) table is (sized-with_class slabs table _ _ refl sized)

pub sized_cut : (slabs new : SlabState) (table : Classes) (chunk : ChunkId) → HasSizesOf slabs table → new ≡ after_cut slabs chunk → HasSizesOf new table
sized_cut slabs new table chunk sized is =
    let cut : SlabState = with_class slabs (class_of_page slabs chunk.page) (with_cut (class_of_chunk slabs chunk) chunk) in
    now new (after_cut slabs chunk) table is (sized_like cut (after_cut slabs chunk) table refl refl (sized-with_class slabs table (class_of_page slabs chunk.page) (with_cut (class_of_chunk slabs chunk) chunk) refl sized))

-- a page without an owner joins a class
sized_given : (slabs : SlabState) (table : Classes) (class page : ℕ) → HasSizesOf slabs table → HasSizesOf (with_given slabs class page) table
sized_given slabs table class page sized =
    sized_like (with_class slabs class (with_page (class_at slabs class) page)) (with_given slabs class page) table refl (length-set slabs.owners _ _)
    (sized-with_class slabs table class (with_page (class_at slabs class) page) refl sized)

sized_way : (b : Bool) (slabs : SlabState) (table : Classes) (class page : ℕ) → HasSizesOf slabs table → HasSizesOf (if b then after_take slabs class page else after_grant slabs class page) table
sized_way true slabs table class page sized = sized_like (with_given slabs class page) (after_take slabs class page) table refl refl (sized_given slabs table class page sized)
sized_way false slabs table class page sized = sized_like (with_given slabs class page) (after_grant slabs class page) table refl refl (sized_given slabs table class page sized)

pub sized_grow : (slabs new : SlabState) (table : Classes) (class page : ℕ) → HasSizesOf slabs table → new ≡ after_grow slabs class page → HasSizesOf new table
sized_grow slabs new table class page sized is = now new (after_grow slabs class page) table is (sized_way (nat_lt 0 (length slabs.pool)) slabs table class page sized)

pub sized_begin : (slabs new : SlabState) (table : Classes) (src : Option ℕ) (source dst : ℕ) → HasSizesOf slabs table → new ≡ after_begin slabs src source dst → HasSizesOf new table
sized_begin slabs new table src source dst sized is = now new (after_begin slabs src source dst) table is (sized_like slabs (after_begin slabs src source dst) table refl (length-set slabs.owners _ _) sized)

pub sized_passed : (slabs new : SlabState) (table : Classes) (found : Found) → HasSizesOf slabs table → new ≡ after_passed slabs found → HasSizesOf new table
sized_passed slabs new table found sized is = now new (after_passed slabs found) table is (sized_like slabs (after_passed slabs found) table refl refl sized)

pub sized_wrap : (slabs new : SlabState) (table : Classes) → HasSizesOf slabs table → new ≡ after_wrap slabs → HasSizesOf new table
sized_wrap slabs new table sized is = now new (after_wrap slabs) table is (sized_like slabs (after_wrap slabs) table refl refl sized)

pub sized_mode : (slabs new : SlabState) (table : Classes) (mode : ℕ) → HasSizesOf slabs table → new ≡ record slabs { automove = mode } → HasSizesOf new table
sized_mode slabs new table mode sized is = now new (record slabs { automove = mode }) table is (sized_like slabs (record slabs { automove = mode }) table refl refl sized)

-- the page of a move leaves its class
sized_released : (slabs : SlabState) (table : Classes) (page src : ℕ) → HasSizesOf slabs table → HasSizesOf (after_page_release slabs page src) table
sized_released slabs table page src sized =
    sized_like (with_class slabs src (without_page (class_at slabs src) page)) (after_page_release slabs page src) table refl (length-set slabs.owners _ _)
    (sized-with_class slabs table src (without_page (class_at slabs src) page) refl sized)

sized_arrived : (pooled : Bool) (slabs : SlabState) (table : Classes) (move : Moving) → HasSizesOf slabs table
    → HasSizesOf (if pooled then after_page_release slabs move.page move.src else record (with_given (after_page_release slabs move.page move.src) move.dst move.page) { pool = slabs.pool }) table
sized_arrived true slabs table move sized = sized_released slabs table move.page move.src sized
sized_arrived false slabs table move sized =
    let given : SlabState = with_given (after_page_release slabs move.page move.src) move.dst move.page in
    sized_like given (record given { pool = slabs.pool }) table refl refl (sized_given (after_page_release slabs move.page move.src) table move.dst move.page (sized_released slabs table move.page move.src sized))

sized_finished : (slabs : SlabState) (table : Classes) (moving : Option Moving) → HasSizesOf slabs table → HasSizesOf (after_finish slabs moving) table
sized_finished slabs table None sized = sized
sized_finished slabs table (Some move) sized =
    sized_like (after_page_arrival slabs move) (after_finish slabs (Some move)) table refl refl (sized_arrived (move.dst == 0) slabs table move sized)

pub sized_finish : (slabs new : SlabState) (table : Classes) (moving : Option Moving) → HasSizesOf slabs table → new ≡ after_finish slabs moving → HasSizesOf new table
sized_finish slabs new table moving sized is = now new (after_finish slabs moving) table is (sized_finished slabs table moving sized)
