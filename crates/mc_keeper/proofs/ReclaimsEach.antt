-- The first dead chunk of a class is put back, and the others are dead still.
use Rattle.std.proofs.Common.{◌≡◌, ℕ, ◌+◌, ◌≤◌, ◌<◌, suc, List, [], ◌∷◌, length, drop, get_or, Bool, true, false, inl, inr, refl, ap, sym, ◌∙◌, arith}
use Rattle.std.specs.Prelude.{filter, fold}
use Rattle.std.proofs.lemmas.Bool.{cases_Bool}
use Rattle.std.proofs.lemmas.Bool.Decides.{nat_tests}
use Rattle.std.proofs.lemmas.List.{length-set}
use Rattle.std.proofs.Math.Seq.{drop-cons}
use Rattle.mc_pages.specs.declared.ids.ChunkId.{ChunkId}
use Rattle.mc_pages.specs.Accounted.{truth}
use Rattle.mc_pages.specs.Before.{HasEachOnce}
use Rattle.mc_pages.specs.ClassState.{ClassState, is_chunk, put_back, times_in, without}
use Rattle.mc_pages.specs.SlabState.{HasClass, class_at, class_of_page}
use Rattle.mc_pages.proofs.Chunks.{is_chunk-same, same_from_is_chunk, times-cons}
use Rattle.mc_pages.proofs.ListedChunks.{page_of_listed}
use Rattle.mc_pages.proofs.OneClass.{class_at-with_class_same}
use Rattle.mc_serial_spec.specs.Consistent.{IsConsistent}
use Rattle.mc_serial_spec.specs.Machine.{Machine, after_reclaim, dead_chunks, is_dead_in, machine_after_sweep}
use Rattle.mc_serial_spec.proofs.Bounds.{listed_once}
use Rattle.mc_serial_spec.proofs.Sweeps.{is_dead-reclaimed}

-- what passes first is in the list
first_there : (p : ChunkId → Bool) (x : ChunkId) (xs order : List ChunkId) → filter p order ≡ x ∷ xs → (p x ≡ true) × (1 ≤ times_in x order)
first_there p x xs [] first = cc
first_there p x xs (c ∷ order) first = elim (cases_Bool (p c)) [
  | inl passes ↦
      let all : c ∷ filter p order ≡ x ∷ xs = rw passes at first in
      let here : c ≡ x = cc in
      let same : is_chunk c x ≡ true = rw here (is_chunk-same x) in
      (rw (← here) passes, omega (arith, times-cons x c order, ap truth same))
  | inr fails ↦
      let below : filter p order ≡ x ∷ xs = rw fails at first in
      let rest = first_there p x xs order below in
      (rest.0, omega (arith, times-cons x c order, rest.1))
]

-- two tests that differ at one chunk alone let the same pass of a list without it
module _ (p q : ChunkId → Bool) (x : ChunkId) (same : (y : ChunkId) → is_chunk x y ≡ false → q y ≡ p y) where
  apart : (c : ChunkId) → is_chunk c x ≡ false → q c ≡ p c
  apart c other =
      let other_too : is_chunk x c ≡ false = grind (arith, nat_tests) in
      same c other_too

  filter_same : (order : List ChunkId) → times_in x order ≡ 0 → filter q order ≡ filter p order
  filter_same [] none = refl
  filter_same (c ∷ order) none =
      let other : is_chunk c x ≡ false = grind (arith, nat_tests, times-cons x c order) in
      let rest : times_in x order ≡ 0 = omega (arith, none, times-cons x c order) in
      rw (apart c other, filter_same order rest) refl

  filter_rest : (xs order : List ChunkId) → HasEachOnce order → filter p order ≡ x ∷ xs → filter q (without x order) ≡ xs
  filter_rest xs [] once first = cc
  filter_rest xs (c ∷ order) once first = elim (cases_Bool (is_chunk c x)) [
    | inl is ↦
        let none : times_in x order ≡ 0 = omega (arith, once x, times-cons x c order, ap truth is) in
        elim (cases_Bool (p c)) [
          | inl passes ↦
              let all : c ∷ filter p order ≡ x ∷ xs = rw passes at first in
              let rest : filter p order ≡ xs = cc in
              rw is (filter_same order none ∙ rest)
          | inr fails ↦
              let below : filter p order ≡ x ∷ xs = rw fails at first in
              absurd (omega (arith, none, (first_there p x xs order below).1))
        ]
    | inr other ↦ elim (cases_Bool (p c)) [
      | inl passes ↦
          let all : c ∷ filter p order ≡ x ∷ xs = rw passes at first in
          let here : c ≡ x = cc in
          let bad : is_chunk c x ≡ true = rw here (is_chunk-same x) in
          cc
      | inr fails ↦
          let below : filter p order ≡ x ∷ xs = rw fails at first in
          let fails_too : q c ≡ false = apart c other ∙ fails in
          rw (other, fails_too) (filter_rest xs order (λ y. omega (arith, once y, times-cons y c order)) below)
    ]
  ]

-- the first of the dead chunks of a class, and the class once it is put back
pub record FirstDead (m : Machine) (class : ℕ) (x : ChunkId) (xs : List ChunkId) : Type 0 where
  pub dead : is_dead_in m x ≡ true
  pub some : 1 ≤ times_in x (class_at m.slabs class).order
  pub own : class_of_page m.slabs x.page ≡ class
  pub valid : HasClass (after_reclaim m x).slabs class
  pub rest : dead_chunks (after_reclaim m x) class ≡ xs
  pub same : machine_after_sweep (after_reclaim m x) class ≡ machine_after_sweep m class

first_dead : (m : Machine) (class : ℕ) (x : ChunkId) (xs : List ChunkId) → IsConsistent m.table m.slabs m.items → HasClass m.slabs class
    → dead_chunks m class ≡ x ∷ xs → FirstDead m class x xs
first_dead m class x xs kept valid first =
    let order : List ChunkId = (class_at m.slabs class).order in
    let there = first_there (is_dead_in m) x xs order first in
    let own : class_of_page m.slabs x.page ≡ class = page_of_listed m.slabs class x kept.accounted valid (omega (arith, there.1)) in
    let new_class : class_at (after_reclaim m x).slabs class ≡ put_back (class_at m.slabs class) x
    = rw own (class_at-with_class_same m.slabs class (put_back (class_at m.slabs class) x) valid) in
    let new_order : (class_at (after_reclaim m x).slabs class).order ≡ without x order = ap (λ (c : ClassState). c.order) new_class in
    let rest : dead_chunks (after_reclaim m x) class ≡ xs
    = ap (λ (cs : List ChunkId). filter (is_dead_in (after_reclaim m x)) cs) new_order
    ∙ filter_rest (is_dead_in m) (is_dead_in (after_reclaim m x)) x (is_dead-reclaimed m x) xs order
    (listed_once m.table m.slabs m.items class kept valid) first in
    record {
      dead = there.0;
      some = there.1;
      own = own;
      valid = (valid.0, rw (length-set m.slabs.classes _ _) valid.1);
      rest = rest;
      same = ap (λ (cs : List ChunkId). fold after_reclaim (after_reclaim m x) cs) rest
          ∙ sym (ap (λ (cs : List ChunkId). fold after_reclaim m cs) first);
    }

-- the dead chunks are those of a list from a place on
pub first_from : (m now : Machine) (class place : ℕ) (chunks : List ChunkId) (none : ChunkId) → IsConsistent m.table m.slabs m.items → m ≡ now
    → HasClass now.slabs class → dead_chunks now class ≡ drop place chunks → place < length chunks
    → FirstDead now class (get_or chunks place none) (drop (place + 1) chunks)
first_from m now class place chunks none kept same valid from inside =
    let kept_now : IsConsistent now.table now.slabs now.items = rw same at kept in
    let next : suc place ≡ place + 1 = omega arith in
    first_dead now class (get_or chunks place none) (drop (place + 1) chunks) kept_now valid
    (from ∙ drop-cons chunks place none inside ∙ ap (λ (n : ℕ). get_or chunks place none ∷ drop n chunks) next)
