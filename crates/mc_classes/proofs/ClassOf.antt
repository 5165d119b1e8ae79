-- The class that an item goes to has room for it, and no lower class does.
use Rattle.std.proofs.Common.{◌≡◌, ℕ, ◌+◌, ◌-◌, ◌<◌, ◌≤◌, nat_le, position, option_map, Option, None, Some, get_or, arith, refl, subst, sym}
use Rattle.std.proofs.lemmas.Bool.{leb-true, leb-false}
use Rattle.std.proofs.lemmas.List.Quantifiers.{position-Some}
use Rattle.std.proofs.lemmas.Option.{none-some, same_Some}
use Rattle.mc_classes.specs.Classes.{Classes, IsClass, class_of, size_of}

-- a class, numbered from 1, is at a place, counted from 0
pub place_fits : (classes : Classes) (bytes place : ℕ) → position (λ size. nat_le bytes size) classes.sizes ≡ Some place → IsClass classes (place + 1) × (bytes ≤ size_of classes (place + 1))
place_fits classes bytes place h =
    let first = position-Some (λ size. nat_le bytes size) classes.sizes place 0 h in
    let at : place ≡ (place + 1) - 1 = omega arith in
    ((omega arith, omega (arith, first.0)), subst (λ (k : ℕ). bytes ≤ get_or classes.sizes k 0) at (leb-true bytes (get_or classes.sizes place 0) first.1))

-- a lower class is too small
pub place_least : (classes : Classes) (bytes place low : ℕ) → position (λ size. nat_le bytes size) classes.sizes ≡ Some place → 1 ≤ low → low < place + 1 → size_of classes low < bytes
place_least classes bytes place low h some less =
    leb-false bytes (size_of classes low) ((position-Some (λ size. nat_le bytes size) classes.sizes place 0 h).2 (low - 1) (omega arith))

-- the class is at a place
place_of : (o : Option ℕ) (class : ℕ) → option_map (λ place. place + 1) o ≡ Some class → (place : ℕ) × (o ≡ Some place) × (class ≡ place + 1)
place_of None class h = absurd (none-some class h)
place_of (Some place) class h = (place, refl, sym (same_Some (place + 1) class h))

pub class_fits : (classes : Classes) (bytes class : ℕ) → class_of classes bytes ≡ Some class → IsClass classes class × (bytes ≤ size_of classes class)
class_fits classes bytes class h =
    let at = place_of (position (λ size. nat_le bytes size) classes.sizes) class h in
    subst (λ (k : ℕ). IsClass classes k × (bytes ≤ size_of classes k)) (sym at.2) (place_fits classes bytes at.0 at.1)

pub class_least : (classes : Classes) (bytes class low : ℕ) → class_of classes bytes ≡ Some class → 1 ≤ low → low < class → size_of classes low < bytes
class_least classes bytes class low h some less =
    let at = place_of (position (λ size. nat_le bytes size) classes.sizes) class h in
    place_least classes bytes at.0 low at.1 some (omega (arith, at.2))
