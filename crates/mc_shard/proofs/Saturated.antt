-- Bytes for which no class has chunks.
use Rattle.std.proofs.Common.{◌≡◌, ◌∙◌, ℕ, ◌-◌, ◌^◌, ◌<◌, ◌≤◌, Option, None, Some, ap, arith, min, refl, sym, ⊎_elim}
use Rattle.std.proofs.lemmas.Bool.{cases_lt}
use Rattle.mc_classes.specs.Classes.{Classes, IsSound, class_of}
use Rattle.mc_classes.proofs.ClassOf.{class_fits}

-- what is larger than a page has no class
no_class_past_pages : (classes : Classes) → IsSound classes → (bytes : ℕ) (found : Option ℕ) → class_of classes bytes ≡ found → 2 ^ 64 - 1 ≤ bytes → found ≡ None
no_class_past_pages classes sound bytes None is more = refl
no_class_past_pages classes sound bytes (Some class) is more =
    let fits = class_fits classes bytes class is in
    absurd (omega (arith, fits.1, (sound.sizes class fits.0).1, sound.page.1))

-- and so it is with bytes whose number stays at 2^64 - 1
pub class_of_saturated : (classes : Classes) → IsSound classes → (bytes saturated : ℕ) → saturated ≡ min bytes (2 ^ 64 - 1) → class_of classes saturated ≡ class_of classes bytes
class_of_saturated classes sound bytes saturated is =
    ⊎_elim
    (λ (below : bytes < 2 ^ 64 - 1). ap (class_of classes) (omega (arith, is, below)))
    (λ (past : 2 ^ 64 - 1 ≤ bytes).
    no_class_past_pages classes sound saturated (class_of classes saturated) refl (omega (arith, is, past)) ∙ sym (no_class_past_pages classes sound bytes (class_of classes bytes) refl past))
    (cases_lt bytes (2 ^ 64 - 1))
