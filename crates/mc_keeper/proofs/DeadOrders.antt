-- The dead items of a class are the dead chunks of its hand-out order.
use Rattle.std.proofs.Common.{◌≡◌, ℕ, ◌+◌, ◌≤◌, List, [], ◌∷◌, length, Bool, true, false, not, Some, inl, inr, refl, ap, sym, ◌∙◌, arith}
use Rattle.std.specs.Prelude.{◌==◌, ◌&&◌, if◌then◌else◌, count_by, filter}
use Rattle.std.proofs.lemmas.Bool.{cases_Bool}
use Rattle.std.proofs.lemmas.Bool.Decides.{nat_tests, leb_tells}
use Rattle.std.proofs.lemmas.List.Sums.{count_by-le-length, length-filter, sum_by-cons}
use Rattle.std.specs.BTreeMap.{is_at}
use Rattle.mc_pages.specs.declared.ids.ChunkId.{ChunkId}
use Rattle.mc_pages.specs.declared.ledger.Owner.{Owner}
use Rattle.mc_pages.specs.ClassState.{is_chunk, times_in, without}
use Rattle.mc_pages.specs.Ledger.{owner_at}
use Rattle.mc_pages.specs.SlabState.{HasClass, class_at, class_of_owner, class_of_page}
use Rattle.mc_pages.specs.Accounted.{truth}
use Rattle.mc_pages.proofs.Chunks.{is_chunk-same, same_from_is_chunk, times-cons, times-without}
use Rattle.mc_serial_spec.specs.Holds.{Holds, is_held}
use Rattle.mc_serial_spec.specs.Item.{Item}
use Rattle.mc_serial_spec.specs.Items.{Items, chunk_cmp, item_in_chunk, has_unlinked_item}
use Rattle.mc_serial_spec.specs.Machine.{Machine, dead_chunks, is_dead_in}
use Rattle.mc_serial_spec.specs.Consistent.{place_count, IsConsistent}
use Rattle.mc_keeper.specs.Kept.{dead_items}
use Rattle.mc_serial_spec.proofs.Bounds.{order_short}
use Rattle.mc_serial_spec.proofs.Chunks.{chunk_cmp-self}
use Rattle.mc_serial_spec.proofs.KeptChanges.{place_once}
use Rattle.mc_serial_spec.proofs.KeptStore.{is_at-tells}
use Rattle.mc_serial_spec.proofs.Links.{some_places}
use Rattle.mc_pages.proofs.ListedChunks.{page_of_listed}

-- ---- two lists in which each chunk stands as often have as many chunks that pass a test

count_by-without : (p : ChunkId → Bool) (x : ChunkId) (chunks : List ChunkId) → 1 ≤ times_in x chunks
    → count_by p chunks ≡ truth (p x) + count_by p (without x chunks)
count_by-without p x [] some = absurd (omega arith)
count_by-without p x (c ∷ chunks) some = elim (cases_Bool (is_chunk c x)) [
  | inl same ↦
      let here : c ≡ x = same_from_is_chunk c x same in
      sum_by-cons (λ (y : ChunkId). truth (p y)) c chunks ∙ rw (same, here) refl
  | inr other ↦
      let rest : 1 ≤ times_in x chunks = omega (arith, some, times-cons x c chunks, ap truth other) in
      rw other (omega (
        arith,
        sum_by-cons (λ (y : ChunkId). truth (p y)) c chunks,
        sum_by-cons (λ (y : ChunkId). truth (p y)) c (without x chunks),
        count_by-without p x chunks rest,
      ))
]

pub count_by-times : (p : ChunkId → Bool) (xs ys : List ChunkId) → ((x : ChunkId) → times_in x xs ≡ times_in x ys) → count_by p xs ≡ count_by p ys
count_by-times p [] [] same = refl
count_by-times p [] (y ∷ ys) same = absurd (omega (arith, same y, times-cons y y ys, ap truth (is_chunk-same y)))
count_by-times p (x ∷ xs) ys same =
    let some : 1 ≤ times_in x ys = omega (arith, same x, times-cons x x xs, ap truth (is_chunk-same x)) in
    let rest = count_by-times p xs (without x ys) (λ z. omega (arith, same z, times-cons z x xs, times-without z x ys some)) in
    omega (arith, sum_by-cons (λ (y : ChunkId). truth (p y)) x xs, count_by-without p x ys some, rest)

-- ---- the chunks of a class's items

-- the chunks of the items on the class's pages
abbrev chunks_in : List Owner → ℕ → Items → List ChunkId
chunks_in owners class [] = []
chunks_in owners class (e ∷ items) =
    if class_of_owner (owner_at owners e.chunk.page) == class then e.chunk ∷ chunks_in owners class items else chunks_in owners class items

place_truth : (x c : ChunkId) → truth (is_at (chunk_cmp x) c) ≡ truth (is_chunk c x)
place_truth x c = grind (arith, nat_tests)

times_own : (owners : List Owner) (class : ℕ) (x : ChunkId) (items : Items) → (class_of_owner (owner_at owners x.page) == class) ≡ true
    → times_in x (chunks_in owners class items) ≡ place_count x items
times_own owners class x [] own = refl
times_own owners class x (e ∷ items) own = elim (cases_Bool (class_of_owner (owner_at owners e.chunk.page) == class)) [
  | inl in_class ↦ rw in_class (omega (arith, times-cons x e.chunk (chunks_in owners class items), place_truth x e.chunk, times_own owners class x items own))
  | inr elsewhere ↦ rw elsewhere (elim (is_at-tells x e.chunk) [
    | inl same ↦ let bad : (class_of_owner (owner_at owners e.chunk.page) == class) ≡ true = rw (← same.1) own in cc
    | inr other ↦ omega (arith, ap truth other.0, times_own owners class x items own)
  ])
]

times_other : (owners : List Owner) (class : ℕ) (x : ChunkId) (items : Items) → (class_of_owner (owner_at owners x.page) == class) ≡ false
    → times_in x (chunks_in owners class items) ≡ 0
times_other owners class x [] other = refl
times_other owners class x (e ∷ items) other = elim (cases_Bool (class_of_owner (owner_at owners e.chunk.page) == class)) [
  | inl in_class ↦ rw in_class (elim (cases_Bool (is_chunk e.chunk x)) [
    | inl same ↦
        let here : e.chunk ≡ x = same_from_is_chunk e.chunk x same in
        let bad : (class_of_owner (owner_at owners x.page) == class) ≡ true = rw here at in_class in cc
    | inr apart ↦ omega (arith, times-cons x e.chunk (chunks_in owners class items), ap truth apart, times_other owners class x items other)
  ])
  | inr elsewhere ↦ rw elsewhere (times_other owners class x items other)
]

-- the dead ones among them are as many as the dead items
dead_step : (b d : Bool) (p : ChunkId → Bool) (c : ChunkId) (chunks : List ChunkId) (count : ℕ) → p c ≡ d → count ≡ count_by p chunks
    → truth (d && b) + count ≡ count_by p (if b then c ∷ chunks else chunks)
dead_step true true p c chunks count is rest = omega (arith, rest, sum_by-cons (λ (y : ChunkId). truth (p y)) c chunks, ap truth is)
dead_step true false p c chunks count is rest = omega (arith, rest, sum_by-cons (λ (y : ChunkId). truth (p y)) c chunks, ap truth is)
dead_step false true p c chunks count is rest = omega (arith, rest)
dead_step false false p c chunks count is rest = omega (arith, rest)

dead_in_chunks : (owners : List Owner) (holds : Holds) (class : ℕ) (p : ChunkId → Bool) (items : Items)
    → ((y : ChunkId) (item : Item) → item_in_chunk items y ≡ Some item → p y ≡ (not item.linked && not (is_held holds y)))
    → ((y : ChunkId) → place_count y items ≤ 1)
    → dead_items owners holds items class ≡ count_by p (chunks_in owners class items)
dead_in_chunks owners holds class p [] is once = refl
dead_in_chunks owners holds class p (e ∷ items) is once =
    let here : item_in_chunk (e ∷ items) e.chunk ≡ Some e.item = rw (chunk_cmp-self e.chunk) refl in
    let none : place_count e.chunk items ≡ 0 = own_once (once e.chunk) in
    let rest : dead_items owners holds items class ≡ count_by p (chunks_in owners class items)
    = dead_in_chunks owners holds class p items
    (λ y item there. is y item (below y item there none)) (λ y. omega (arith, once y)) in
    parts (not e.item.linked) (not (is_held holds e.chunk)) (class_of_owner (owner_at owners e.chunk.page) == class) (is e.chunk e.item here) rest
  where
    own_once : place_count e.chunk (e ∷ items) ≤ 1 → place_count e.chunk items ≡ 0
    own_once within_limit = let self : is_at (chunk_cmp e.chunk) e.chunk ≡ true = rw (chunk_cmp-self e.chunk) refl in omega (arith, within_limit, ap truth self)

    below : (y : ChunkId) (item : Item) → item_in_chunk items y ≡ Some item → place_count e.chunk items ≡ 0 → item_in_chunk (e ∷ items) y ≡ Some item
    below y item there none = elim (is_at-tells y e.chunk) [
      | inl same ↦
          let some : 1 ≤ place_count e.chunk items = rw (← same.1) (some_places y item items there) in
          absurd (omega (arith, some, none))
      | inr other ↦ rw other.0 there
    ]

    parts : (l h b : Bool) → p e.chunk ≡ (l && h) → dead_items owners holds items class ≡ count_by p (chunks_in owners class items)
        → truth (l && h && b) + dead_items owners holds items class
        ≡ count_by p (if b then e.chunk ∷ chunks_in owners class items else chunks_in owners class items)
    parts true true b tells rest = dead_step b true p e.chunk (chunks_in owners class items) _ tells rest
    parts true false b tells rest = dead_step b false p e.chunk (chunks_in owners class items) _ tells rest
    parts false h b tells rest = dead_step b false p e.chunk (chunks_in owners class items) _ tells rest

-- ---- the two counts

dead_there : (items : Items) (holds : Holds) (y : ChunkId) (item : Item) → item_in_chunk items y ≡ Some item
    → (has_unlinked_item items y && not (is_held holds y)) ≡ (not item.linked && not (is_held holds y))
dead_there items holds y item there = rw there refl

pub dead_in_order : (m : Machine) (class : ℕ) → IsConsistent m.table m.slabs m.items → HasClass m.slabs class
    → dead_items m.slabs.owners m.holds m.items class ≡ length (dead_chunks m class)
dead_in_order m class kept valid =
    let owners : List Owner = m.slabs.owners in
    let order : List ChunkId = (class_at m.slabs class).order in
    let as_often : (x : ChunkId) → times_in x (chunks_in owners class m.items) ≡ times_in x order = λ x.
    elim (cases_Bool (class_of_page m.slabs x.page == class)) [
      | inl own ↦
          let is : class_of_page m.slabs x.page ≡ class = grind (arith, nat_tests) in
          let most : place_count x m.items ≤ times_in x order = rw is at (kept.handed_out x) in
          omega (arith, times_own owners class x m.items own, most, kept.stored class x valid)
      | inr other ↦ elim (leb_tells 1 (times_in x order)) [
        | inl some ↦
            let is : class_of_page m.slabs x.page ≡ class = page_of_listed m.slabs class x kept.accounted valid (omega (arith, some.1)) in
            absurd (grind (arith, nat_tests))
        | inr none ↦ omega (arith, times_other owners class x m.items other, none.1)
      ]
    ] in
    dead_in_chunks owners m.holds class (is_dead_in m) m.items (λ y item there. dead_there m.items m.holds y item there)
    (λ y. place_once m.table m.slabs m.items y kept)
    ∙ count_by-times (is_dead_in m) (chunks_in owners class m.items) order as_often
    ∙ sym (length-filter (is_dead_in m) order)

-- they are few
pub dead_few : (m : Machine) (class : ℕ) → IsConsistent m.table m.slabs m.items → HasClass m.slabs class
    → dead_items m.slabs.owners m.holds m.items class ≤ 32512
dead_few m class kept valid =
    omega (
      arith,
      dead_in_order m class kept valid,
      length-filter (is_dead_in m) (class_at m.slabs class).order,
      count_by-le-length (is_dead_in m) (class_at m.slabs class).order,
      order_short m.table m.slabs m.items class kept valid,
    )

-- ---- a dead chunk is the only one where there is one

some_pass : (p : ChunkId → Bool) (x : ChunkId) (chunks : List ChunkId) → 1 ≤ times_in x chunks → p x ≡ true → 1 ≤ length (filter p chunks)
some_pass p x chunks some passes = omega (arith, length-filter p chunks, count_by-without p x chunks some, ap truth passes)

none_left : (chunks : List ChunkId) → length chunks ≡ 0 → chunks ≡ []
none_left [] none = refl
none_left (c ∷ chunks) none = absurd (omega (arith, none))

only_one : (p : ChunkId → Bool) (x : ChunkId) (chunks : List ChunkId) → 1 ≤ times_in x chunks → p x ≡ true → length (filter p chunks) ≡ 1 → filter p chunks ≡ x ∷ []
only_one p x [] some passes one = absurd (omega (arith, one))
only_one p x (c ∷ chunks) some passes one = elim (cases_Bool (is_chunk c x)) [
  | inl same ↦
      let here : c ≡ x = same_from_is_chunk c x same in
      let first : p c ≡ true = rw here passes in
      let rest : filter p chunks ≡ [] = none_left (filter p chunks) (let all : length (c ∷ filter p chunks) ≡ 1 = rw first at one in omega (arith, all)) in
      rw (first, rest, here) refl
  | inr apart ↦
      let below : 1 ≤ times_in x chunks = omega (arith, some, times-cons x c chunks, ap truth apart) in
      elim (cases_Bool (p c)) [
        | inl first ↦
            let all : length (c ∷ filter p chunks) ≡ 1 = rw first at one in
            absurd (omega (arith, all, some_pass p x chunks below passes))
        | inr fails ↦
            let rest : length (filter p chunks) ≡ 1 = rw fails at one in
            rw fails (only_one p x chunks below passes rest)
      ]
]

pub only_dead : (m : Machine) (class : ℕ) (x : ChunkId) → IsConsistent m.table m.slabs m.items → HasClass m.slabs class
    → dead_items m.slabs.owners m.holds m.items class ≡ 1 → is_dead_in m x ≡ true → 1 ≤ times_in x (class_at m.slabs class).order → dead_chunks m class ≡ x ∷ []
only_dead m class x kept valid one dead some =
    only_one (is_dead_in m) x (class_at m.slabs class).order some dead (sym (dead_in_order m class kept valid) ∙ one)
