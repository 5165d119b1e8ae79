-- From a test to what the calls on pages and lists ask.
use Rattle.std.proofs.Common.{◌≡◌, ℕ, zero, suc, ◌-◌, ◌/◌, ◌<◌, ◌≤◌, ◌==◌, ◌∙◌, ◌||◌, Bool, true, false, cond, List, [], ◌∷◌, length, map, get_or, Option, Some, None, refl, sym, ap, subst, inl, inr, arith, Contains, slice_get, nat_le, nat_lt, ◌&&◌, eqb-true, eq-eqb, lt-ltb, leb-true}
use Rattle.std.specs.List.{list_any, find}
use Rattle.std.specs.Option.{option_map, option_map_or}
use Rattle.std.proofs.lemmas.Bool.{cases_Bool, and_parts, and_from}
use Rattle.mc_classes.specs.Classes.{Classes, per_page_of}
use Rattle.mc_pages.specs.declared.ids.ChunkId.{ChunkId}
use Rattle.mc_pages.specs.declared.ids.Moving.{Moving}
use Rattle.mc_pages.specs.ClassState.{ClassState, is_chunk, times_in, new_class}
use Rattle.mc_pages.specs.SlabState.{SlabState, HasClass, class_at}
use Rattle.mc_pages.specs.Accounted.{places_in, is_moving, is_of_class, cut_count, is_cleared, IsAccounted}
use Rattle.mc_pages.proofs.Chunks.{is_chunk-same, same_from_is_chunk, times_from_Contains, Contains_from_slice_get, times-tail}
use Rattle.mc_core.specs.run.Silent.{is_among, is_listed}
use Rattle.mc_pages.specs.Ledger.{owner_at}
use Rattle.mc_core.specs.model.State.{is_class}
use Rattle.mc_core.specs.model.InOrder.{IsOfTable}
use Rattle.mc_core.proofs.Places.OfTable.{class_count}

-- what f makes of an entry stands in its place
read_map : {X : Type 0} (f : X → ℕ) (xs : List X) (i : ℕ) (d : X) → i < length xs → f (get_or xs i d) ≡ get_or (map f xs) i 0
read_map f [] i d h = absurd (omega arith)
read_map f (x ∷ xs) zero d h = refl
read_map f (x ∷ xs) (suc i) d h = read_map f xs i d (omega arith)

-- where a chunk stands that is among these
place_among : (chunks : List ChunkId) (chunk : ChunkId) → is_among chunks chunk ≡ true → (place : ℕ) × (slice_get chunks place ≡ Some chunk)
place_among [] chunk h = absurd (cc)
place_among (c ∷ chunks) chunk h = elim (cases_Bool (is_chunk c chunk)) [
  | inl is ↦ (0, ap Some (same_from_is_chunk c chunk is))
  | inr isnt ↦
      let rest : is_among chunks chunk ≡ true = subst (λ b. (b || is_among chunks chunk) ≡ true) isnt h in
      let found = place_among chunks chunk rest in (suc found.0, found.1)
]

pub Contains_from_among : (chunks : List ChunkId) (chunk : ChunkId) → is_among chunks chunk ≡ true → Contains chunks chunk
Contains_from_among chunks chunk h = let found = place_among chunks chunk h in Contains_from_slice_get chunk chunks found.0 found.1

pub times_from_among : (chunks : List ChunkId) (chunk : ChunkId) → is_among chunks chunk ≡ true → 1 ≤ times_in chunk chunks
times_from_among chunks chunk h = times_from_Contains chunk chunks (Contains_from_among chunks chunk h)

or_right : (a b : Bool) → b ≡ true → (a || b) ≡ true
or_right true b h = refl
or_right false b h = h

-- one of two tests passes
pub or_parts : (a b : Bool) (P : Type 0) → (a || b) ≡ true → (a ≡ true → P) → (b ≡ true → P) → P
or_parts true b P h left right = left refl
or_parts false b P h left right = right h

pub places_from_listed : (slabs : SlabState) (class : ℕ) (chunk : ChunkId) → is_listed slabs class chunk ≡ true → 1 ≤ places_in slabs class chunk
places_from_listed slabs class chunk h =
    or_parts (is_among (class_at slabs class).free chunk) (is_among (class_at slabs class).order chunk) (1 ≤ places_in slabs class chunk) h
    (λ free. let some : 1 ≤ times_in chunk (class_at slabs class).free = times_from_among (class_at slabs class).free chunk free in omega arith)
    (λ out. let some : 1 ≤ times_in chunk (class_at slabs class).order = times_from_among (class_at slabs class).order chunk out in omega arith)

-- the page of the move that runs
pub page_of_move : (moving : Option Moving) (page : ℕ) → option_map_or (λ (move : Moving). move.page == page) moving false ≡ true → option_map (λ (move : Moving). move.page) moving ≡ Some page
page_of_move None page h = absurd (cc)
page_of_move (Some move) page h = ap Some (eqb-true move.page page h)

pub next_uncut_is : (uncut : Option ChunkId) (chunk : ChunkId) → option_map_or (λ (next : ChunkId). is_chunk next chunk) uncut false ≡ true → uncut ≡ Some chunk
next_uncut_is None chunk h = absurd (cc)
next_uncut_is (Some next) chunk h = ap Some (same_from_is_chunk next chunk h)

-- the source of a move is a class of the table
pub source_of_move : (table : Classes) (slabs : SlabState) (move : Moving) → IsOfTable table slabs → slabs.moving ≡ Some move → (1 ≤ move.src) × (move.src ≤ length table.sizes)
source_of_move table slabs move is runs =
    let of_move = is.accounted.move move runs in
    let count = class_count table slabs is in
    (of_move.src.0, omega (arith, of_move.src.1, count))

-- a class has as many chunks a page as the table says
pub per_page_is : (table : Classes) (slabs : SlabState) (class : ℕ) → IsOfTable table slabs → HasClass slabs class → (class_at slabs class).per_page ≡ per_page_of table class
per_page_is table slabs class is of =
    let per_page = λ (c : ClassState). c.per_page in
    let chunks = λ (size : ℕ). table.page / size in
    let count = class_count table slabs is in
    read_map per_page slabs.classes (class - 1) (new_class 0 0) (omega (arith, of.0, of.1))
    ∙ ap (λ (l : List ℕ). get_or l (class - 1) 0) is.per_page
    ∙ sym (read_map chunks table.sizes (class - 1) 0 (omega (arith, of.0, of.1, count)))

-- a class of the table
pub IsClass_from : (table : Classes) (slabs : SlabState) (class : ℕ) → IsOfTable table slabs → is_class table class ≡ true → HasClass slabs class
IsClass_from table slabs class of h =
    let parts = and_parts (nat_le 1 class) (nat_le class (length table.sizes)) h in
    let low : 1 ≤ class = leb-true 1 class parts.0 in
    let high : class ≤ length table.sizes = leb-true class (length table.sizes) parts.1 in
    (low, omega (arith, high, class_count table slabs of))

-- neither test passes
pub or_none : (a b : Bool) → (a || b) ≡ false → (a ≡ false) × (b ≡ false)
or_none true b h = absurd (cc)
or_none false b h = (refl, h)

-- where no chunk of the page is in a list, none of them has a place
pub none_of_page : (chunks : List ChunkId) (chunk : ChunkId) → list_any (λ (c : ChunkId). c.page == chunk.page) chunks ≡ false → times_in chunk chunks ≡ 0
none_of_page [] chunk h = refl
none_of_page (c ∷ chunks) chunk h =
    let parts = or_none (c.page == chunk.page) (list_any (λ (c : ChunkId). c.page == chunk.page) chunks) h in
    let other : is_chunk c chunk ≡ false = ap (λ b. b && c.index == chunk.index) parts.0 in
    times-tail chunk c chunks other ∙ none_of_page chunks chunk parts.1

-- a chunk that isn't among these has no place
pub none_among : (chunks : List ChunkId) (chunk : ChunkId) → is_among chunks chunk ≡ false → times_in chunk chunks ≡ 0
none_among [] chunk h = refl
none_among (c ∷ chunks) chunk h =
    let parts = or_none (is_chunk c chunk) (is_among chunks chunk) h in
    times-tail chunk c chunks parts.0 ∙ none_among chunks chunk parts.1

-- a chunk of the moving page that is in no list is cleared
pub cleared_from : (slabs : SlabState) (move : Moving) (index : ℕ) → IsAccounted slabs → slabs.moving ≡ Some move → slabs.uncut ≡ None →
    index < (class_at slabs move.src).per_page → places_in slabs move.src (record { page = move.page; index = index }) ≡ 0 → is_cleared slabs move.src (record { page = move.page; index = index }) ≡ true
cleared_from slabs move index all runs whole within none =
    let of = all.move move runs in
    let chunk : ChunkId = record { page = move.page; index = index } in
    let cut : cut_count slabs.uncut move.page (class_at slabs move.src).per_page ≡ (class_at slabs move.src).per_page =
    ap (λ (u : Option ChunkId). cut_count u move.page (class_at slabs move.src).per_page) whole in
    let moving : is_moving (owner_at slabs.owners move.page) ≡ true = ap is_moving of.owner in
    let own : is_of_class move.src (owner_at slabs.owners move.page) ≡ true = ap (is_of_class move.src) of.owner ∙ eq-eqb move.src move.src refl in
    let below : nat_lt index (cut_count slabs.uncut move.page (class_at slabs move.src).per_page) ≡ true =
    ap (nat_lt index) cut ∙ lt-ltb index (class_at slabs move.src).per_page within in
    and_from _ _ (and_from _ _ moving (and_from _ _ own below)) (eq-eqb (places_in slabs move.src chunk) 0 none)

-- what is found stands among these
pub found_among : (test : ChunkId → Bool) (chunks : List ChunkId) (chunk : ChunkId) → find test chunks ≡ Some chunk → is_among chunks chunk ≡ true
found_among test [] chunk h = absurd (cc)
found_among test (c ∷ chunks) chunk h =
    elim (test c) as (λ b. cond b (Some c) (find test chunks) ≡ Some chunk → (is_chunk c chunk || is_among chunks chunk) ≡ true) [
      | true ↦ λ e. let same : c ≡ chunk = (cc) in subst (λ (x : ChunkId). (is_chunk c x || is_among chunks x) ≡ true) same (ap (λ b. b || is_among chunks c) (is_chunk-same c))
      | false ↦ λ e. or_right (is_chunk c chunk) (is_among chunks chunk) (found_among test chunks chunk e)
    ] h
