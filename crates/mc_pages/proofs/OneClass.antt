-- The classes after one of them has changed.
use Rattle.std.proofs.Common.{◌≡◌, ◌≢◌, ℕ, ◌+◌, ◌-◌, ◌/◌, ◌≤◌, length, Some, slice_index_or, sym, ap, ◌∙◌, inl, inr, arith, get_or-set_same, get_or-set_other, length-set}
use Rattle.std.proofs.lemmas.Bool.{cases_eq}
use Rattle.std.proofs.lemmas.List.{get_or_read}
use Rattle.mc_pages.specs.Ledger.{all_untouched, replay}
use Rattle.mc_pages.specs.ClassState.{ClassState, new_class}
use Rattle.mc_pages.specs.SlabState.{SlabState, HasClass, class_at}
use Rattle.mc_pages.specs.Accounted.{IsAccounted}
use Rattle.mc_pages.specs.Changes.{with_class}

-- there are as many classes as before
pub length-with_class : (slabs : SlabState) (class : ℕ) (state : ClassState) → length (with_class slabs class state).classes ≡ length slabs.classes
length-with_class slabs class state = length-set slabs.classes (class - 1) state

-- so the ledger's owners begin with as many untouched pages
pub replays-with_class : (slabs : SlabState) (class : ℕ) (state : ClassState) → IsAccounted slabs → replay (all_untouched (slabs.limit / slabs.page + length (with_class slabs class state).classes)) slabs.ledger ≡ Some slabs.owners
replays-with_class slabs class state all =
    ap (λ (n : ℕ). replay (all_untouched (slabs.limit / slabs.page + n)) slabs.ledger) (length-with_class slabs class state) ∙ all.replays

-- a class is still one of the classes
pub IsClass-with_class : (slabs : SlabState) (class other : ℕ) (state : ClassState) → HasClass slabs other → HasClass (with_class slabs class state) other
IsClass-with_class slabs class other state is = (is.0, omega (arith, is.1, length-with_class slabs class state))

-- the class that changed is what it was changed to
pub class_at-with_class_same : (slabs : SlabState) (class : ℕ) (state : ClassState) → HasClass slabs class → class_at (with_class slabs class state) class ≡ state
class_at-with_class_same slabs class state is = get_or-set_same slabs.classes (class - 1) state (new_class 0 0) (omega arith)

-- every other class is as it was
pub class_at-with_class_other : (slabs : SlabState) (class other : ℕ) (state : ClassState) → 1 ≤ class → 1 ≤ other → other ≢ class → class_at (with_class slabs class state) other ≡ class_at slabs other
class_at-with_class_other slabs class other state first_class first_other differs =
    get_or-set_other slabs.classes (class - 1) (other - 1) state (new_class 0 0) (λ same. differs (omega arith))

-- what the change leaves in its class is as it was in each class
pub class_at-with_class_kept : {T : Type 0} (part : ClassState → T) (slabs : SlabState) (class other : ℕ) (state : ClassState) → HasClass slabs class → 1 ≤ other → part state ≡ part (class_at slabs class) → part (class_at (with_class slabs class state) other) ≡ part (class_at slabs other)
class_at-with_class_kept {T} part slabs class other state is first kept =
    elim (cases_eq other class) [
      | inl same ↦
          let changed : ℕ → T = λ (n : ℕ). part (class_at (with_class slabs class state) n) in
          let before : ℕ → T = λ (n : ℕ). part (class_at slabs n) in
          ap changed same ∙ (ap part (class_at-with_class_same slabs class state is) ∙ (kept ∙ sym (ap before same)))
      | inr differs ↦ ap part (class_at-with_class_other slabs class other state is.0 first differs)
    ]

-- what indexing reads is the class
pub class_at_read : (slabs : SlabState) (class place : ℕ) (state : ClassState) → HasClass slabs class → place ≡ class - 1 → state ≡ slice_index_or slabs.classes place state → state ≡ class_at slabs class
class_at_read slabs class place state is at h =
    let read = ap (λ (n : ℕ). slice_index_or slabs.classes n state) at in
    get_or_read slabs.classes (class - 1) state (omega arith) (h ∙ read) (new_class 0 0)
