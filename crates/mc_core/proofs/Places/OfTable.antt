-- Changes of pages and lists leave them those of the table.
use Rattle.std.proofs.Common.{◌≡◌, ℕ, zero, suc, ◌-◌, ◌/◌, ◌==◌, ◌∙◌, Bool, true, false, cond, List, [], ◌∷◌, length, map, get_or, set, Option, Some, None, refl, sym, ap, length-set, nat_lt}
use Rattle.std.proofs.lemmas.List.{length-map}
use Rattle.mc_classes.specs.Classes.{Classes}
use Rattle.mc_pages.specs.declared.ids.ChunkId.{ChunkId}
use Rattle.mc_pages.specs.declared.ids.Moving.{Moving}
use Rattle.mc_pages.specs.declared.moves.Found.{Found}
use Rattle.mc_pages.specs.ClassState.{ClassState, new_class, class_after_hand_out, class_after_pop, with_page, without_page, put_back, class_after_touch, class_after_replacement, class_after_clear, class_after_eviction, with_cut}
use Rattle.mc_pages.specs.SlabState.{SlabState, class_at, class_of_page, class_of_chunk}
use Rattle.mc_pages.specs.Accounted.{IsAccounted}
use Rattle.mc_pages.specs.Changes.{with_class, with_given, after_pop, after_back, after_touch, after_replace, after_clear, after_cut, after_evicted, after_grow, after_grant, after_take}
use Rattle.mc_pages.specs.Moves.{after_page_release, after_begin, after_finish, after_passed, after_wrap, first_page}
use Rattle.mc_core.specs.model.InOrder.{IsOfTable}

-- a write that leaves what f makes of the entry
same_map : {X Y : Type 0} (f : X → Y) (xs : List X) (i : ℕ) (y d : X) → f y ≡ f (get_or xs i d) → map f (set xs i y) ≡ map f xs
same_map f [] i y d e = refl
same_map f (x ∷ xs) zero y d e = ap (λ z. z ∷ map f xs) e
same_map f (x ∷ xs) (suc i) y d e = ap (λ zs. f x ∷ zs) (same_map f xs i y d e)

-- the chunks a page of each class
abbrev pub chunk_counts : SlabState → List ℕ
chunk_counts slabs = map (λ (class : ClassState). class.per_page) slabs.classes

-- page size and limit are the same, classes and owners are as many as before, and each class has as many chunks a page
pub record HasShape (old new : SlabState) : Type 0 where
  pub page : new.page ≡ old.page
  pub limit : new.limit ≡ old.limit
  pub counts : chunk_counts new ≡ chunk_counts old
  pub owners : length new.owners ≡ length old.owners

pub of_table : (table : Classes) (old new : SlabState) → IsOfTable table old → HasShape old new → IsAccounted new → IsOfTable table new
of_table table old new is shape all = record { page = shape.page ∙ is.page; limit = shape.limit ∙ is.limit; per_page = shape.counts ∙ is.per_page; owners = shape.owners ∙ is.owners; accounted = all }

-- one class changes, and keeps its chunks a page
pub class_shape : (slabs : SlabState) (class : ℕ) (state : ClassState) → state.per_page ≡ (class_at slabs class).per_page → HasShape slabs (with_class slabs class state)
class_shape slabs class state e =
    record { page = refl; limit = refl; counts = same_map (λ (c : ClassState). c.per_page) slabs.classes (class - 1) state (new_class 0 0) e; owners = refl }

handed_out-per_page : (class : ClassState) (free : List ChunkId) → (class_after_hand_out class free).per_page ≡ class.per_page
handed_out-per_page class [] = refl
handed_out-per_page class (chunk ∷ free) = refl

pub pop_shape : (slabs : SlabState) (class : ℕ) → HasShape slabs (after_pop slabs class)
pop_shape slabs class = class_shape slabs class (class_after_pop (class_at slabs class)) (handed_out-per_page (class_at slabs class) (class_at slabs class).free)

pub back_shape : (slabs : SlabState) (chunk : ChunkId) → HasShape slabs (after_back slabs chunk)
back_shape slabs chunk = class_shape slabs (class_of_page slabs chunk.page) (put_back (class_of_chunk slabs chunk) chunk) refl

pub touch_shape : (slabs : SlabState) (chunk : ChunkId) → HasShape slabs (after_touch slabs chunk)
touch_shape slabs chunk = class_shape slabs (class_of_page slabs chunk.page) (class_after_touch (class_of_chunk slabs chunk) chunk) refl

pub replace_shape : (slabs : SlabState) (new old : ChunkId) → HasShape slabs (after_replace slabs new old)
replace_shape slabs new old = class_shape slabs (class_of_page slabs old.page) (class_after_replacement (class_of_chunk slabs old) new old) refl

pub clear_shape : (slabs : SlabState) (chunk : ChunkId) → HasShape slabs (after_clear slabs chunk)
clear_shape slabs chunk = class_shape slabs (class_of_page slabs chunk.page) (class_after_clear (class_of_chunk slabs chunk) chunk) refl

pub evicted_shape : (slabs : SlabState) (class : ℕ) → HasShape slabs (after_evicted slabs class)
evicted_shape slabs class = class_shape slabs class (class_after_eviction (class_at slabs class)) refl

pub cut_shape : (slabs : SlabState) (chunk : ChunkId) → HasShape slabs (after_cut slabs chunk)
cut_shape slabs chunk =
    let of_class = class_shape slabs (class_of_page slabs chunk.page) (with_cut (class_of_chunk slabs chunk) chunk) refl in
    record { page = refl; limit = refl; counts = of_class.counts; owners = refl }

given_shape : (slabs : SlabState) (class page : ℕ) → HasShape slabs (with_given slabs class page)
given_shape slabs class page =
    let of_class = class_shape slabs class (with_page (class_at slabs class) page) refl in
    record { page = refl; limit = refl; counts = of_class.counts; owners = length-set slabs.owners page _ }

grow_shape_if : (slabs : SlabState) (class page : ℕ) (pooled : Bool) → HasShape slabs (cond pooled (after_take slabs class page) (after_grant slabs class page))
grow_shape_if slabs class page true = let given = given_shape slabs class page in record { page = refl; limit = refl; counts = given.counts; owners = given.owners }
grow_shape_if slabs class page false = let given = given_shape slabs class page in record { page = refl; limit = refl; counts = given.counts; owners = given.owners }

pub grow_shape : (slabs : SlabState) (class page : ℕ) → HasShape slabs (after_grow slabs class page)
grow_shape slabs class page = grow_shape_if slabs class page (nat_lt 0 (length slabs.pool))

pub begin_shape : (slabs : SlabState) (src : Option ℕ) (dst source : ℕ) → HasShape slabs (after_begin slabs src source dst)
begin_shape slabs src dst source = record { page = refl; limit = refl; counts = refl; owners = length-set slabs.owners (first_page slabs source) _ }

released_shape : (slabs : SlabState) (page src : ℕ) → HasShape slabs (after_page_release slabs page src)
released_shape slabs page src =
    let of_class = class_shape slabs src (without_page (class_at slabs src) page) refl in
    record { page = refl; limit = refl; counts = of_class.counts; owners = length-set slabs.owners page _ }

arrived_shape : (slabs : SlabState) (move : Moving) (pooled : Bool) →
    HasShape slabs (cond pooled (after_page_release slabs move.page move.src) (record (with_given (after_page_release slabs move.page move.src) move.dst move.page) { pool = slabs.pool }))
arrived_shape slabs move true = released_shape slabs move.page move.src
arrived_shape slabs move false =
    let gone = released_shape slabs move.page move.src in
    let given = given_shape (after_page_release slabs move.page move.src) move.dst move.page in
    record { page = refl; limit = refl; counts = given.counts ∙ gone.counts; owners = given.owners ∙ gone.owners }

pub finish_shape : (slabs : SlabState) (move : Option Moving) → HasShape slabs (after_finish slabs move)
finish_shape slabs None = record { page = refl; limit = refl; counts = refl; owners = refl }
finish_shape slabs (Some move) =
    let there = arrived_shape slabs move (move.dst == 0) in record { page = there.page; limit = there.limit; counts = there.counts; owners = there.owners }

pub passed_shape : (slabs : SlabState) (found : Found) → HasShape slabs (after_passed slabs found)
passed_shape slabs found = record { page = refl; limit = refl; counts = refl; owners = refl }

pub wrap_shape : (slabs : SlabState) → HasShape slabs (after_wrap slabs)
wrap_shape slabs = record { page = refl; limit = refl; counts = refl; owners = refl }

-- there are as many classes as the table has
pub class_count : (table : Classes) (slabs : SlabState) → IsOfTable table slabs → length slabs.classes ≡ length table.sizes
class_count table slabs is =
    sym (length-map slabs.classes (λ (c : ClassState). c.per_page)) ∙ ap length is.per_page ∙ length-map table.sizes (λ (size : ℕ). table.page / size)
