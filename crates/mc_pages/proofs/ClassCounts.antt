-- A number of each class, class after class.
use Rattle.std.proofs.Common.{◌≡◌, ℕ, ◌+◌, ◌-◌, ◌<◌, List, [], ◌∷◌, ◌++◌, length, take, refl, arith}
use Rattle.std.specs.Prelude.{map}
use Rattle.std.proofs.lemmas.List.{take_more, length-map, get_or-map}
use Rattle.mc_pages.specs.ClassState.{ClassState, new_class}
use Rattle.mc_pages.specs.SlabState.{SlabState, class_at}

-- the number of one class more
pub counts_more : (f : ClassState → ℕ) (slabs : SlabState) (place : ℕ) (counts : List ℕ) → counts ≡ take place (map f slabs.classes)
    → place < length slabs.classes → counts ++ f (class_at slabs (place + 1)) ∷ [] ≡ take (place + 1) (map f slabs.classes)
counts_more f slabs place counts so_far inside =
    let within : place < length (map f slabs.classes) = rw (length-map slabs.classes f) inside in
    let here : place + 1 - 1 ≡ place = omega arith in
    rw (here, so_far, take_more (map f slabs.classes) place 0 within, get_or-map f slabs.classes place (new_class 0 0) 0 inside) refl
