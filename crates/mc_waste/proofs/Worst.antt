-- The smallest item of a class, which leaves most of its chunk unused.
use Rattle.std.proofs.Common.{◌≡◌, ℕ, ◌+◌, ◌-◌, ◌/◌, ◌<◌, ◌≤◌, Bool, eqb, ltb, nat_le, length, position, option_map, get_or, Some, None, refl, ap, ◌∙◌, subst, arith, ⊎_elim}
use Rattle.std.specs.List.{position_or_len}
use Rattle.std.proofs.lemmas.Bool.{cases_lt, cond-true, cond-false, cond_both, eq-eqb, le-leb, lt-leb, lt-ltb, ne_eqb}
use Rattle.std.proofs.lemmas.List.Sums.{position_or_len_is}
use Rattle.mc_classes.specs.Classes.{Classes, IsClass, IsSound, class_of, size_of}
use Rattle.mc_classes.proofs.ClassOf.{class_fits, class_least}
use Rattle.mc_waste.specs.Waste.{IsWorst, item_bytes, least_item}

-- the smallest item above a chunk of so many bytes
above : ℕ → ℕ
above size = item_bytes ((size - 24) / 8 + 1)

pub least_first : (table : Classes) (class : ℕ) → class ≡ 1 → least_item table class ≡ 24
least_first table class is = cond-true (eqb class 1) 24 (item_bytes ((size_of table (class - 1) - 24) / 8 + 1)) (eq-eqb class 1 is)

pub least_later : (table : Classes) (class : ℕ) → (class ≡ 1 → ⊥) → least_item table class ≡ item_bytes ((size_of table (class - 1) - 24) / 8 + 1)
least_later table class not_one = cond-false (eqb class 1) 24 (item_bytes ((size_of table (class - 1) - 24) / 8 + 1)) (ne_eqb class 1 not_one)

-- it is an item
least_words : (table : Classes) (class : ℕ) → (words : ℕ) × (least_item table class ≡ item_bytes words)
least_words table class = cond_both (eqb class 1) 24 (item_bytes ((size_of table (class - 1) - 24) / 8 + 1)) (λ (bytes : ℕ). (words : ℕ) × (bytes ≡ item_bytes words)) (λ is. (0, refl)) (λ is. ((size_of table (class - 1) - 24) / 8 + 1, refl))

-- a class of so many bytes is at a place
class_at : (table : Classes) (bytes place : ℕ) → place < length table.sizes → ((k : ℕ) → k < place → get_or table.sizes k 0 < bytes) → bytes ≤ get_or table.sizes place 0 → class_of table bytes ≡ Some (place + 1)
class_at table bytes place within small room =
    let test : ℕ → Bool = λ (size : ℕ). nat_le bytes size in
    let at = position_or_len_is test table.sizes place 0 (omega arith) (λ k less. lt-leb bytes (get_or table.sizes k 0) (small k less)) (λ _. le-leb bytes (get_or table.sizes place 0) room) in
    let found : position test table.sizes ≡ Some place = cond-true (ltb (position_or_len test table.sizes) (length table.sizes)) (Some (position_or_len test table.sizes)) None (lt-ltb (position_or_len test table.sizes) (length table.sizes) (omega arith)) ∙ ap Some at in
    ap (option_map (λ place. place + 1)) found

module _ (table : Classes) (class : ℕ) (sound : IsSound table) (is : IsClass table class) where
  -- no smaller item goes to the class
  pub least_is_least : (words : ℕ) → class_of table (item_bytes words) ≡ Some class → least_item table class ≤ item_bytes words
  least_is_least words goes =
      ⊎_elim
      (λ (one : class < 2). rw (least_first table class (omega (arith, is.0))) (omega arith))
      (λ (more : 2 ≤ class).
      let less = class_least table (item_bytes words) class (class - 1) goes (omega arith) (omega arith) in
      let size = sound.sizes (class - 1) (omega arith, omega (arith, is.1)) in
      rw (least_later table class (omega arith)) (omega (arith, size.0)))
      (cases_lt class 2)

  -- chunks of lower classes are too small for it
  too_small : (k : ℕ) → k < class - 1 → get_or table.sizes k 0 < least_item table class
  too_small k less =
      let at : (k + 1) - 1 ≡ k = omega arith in
      let size = sound.sizes (class - 1) (omega arith, omega (arith, is.1)) in
      let order : size_of table (k + 1) ≤ size_of table (class - 1) = sound.order (k + 1) (class - 1) (omega arith, omega (arith, is.1)) (omega arith, omega (arith, is.1)) (omega arith) in
      let here : get_or table.sizes k 0 ≤ size_of table (class - 1) = subst (λ (i : ℕ). get_or table.sizes i 0 ≤ size_of table (class - 1)) at order in
      rw (least_later table class (omega arith)) (omega (arith, size.0))

  pub least_goes : least_item table class ≤ size_of table class → class_of table (least_item table class) ≡ Some class
  least_goes room =
      let at : (class - 1) + 1 ≡ class = omega (arith, is.0) in
      subst (λ (k : ℕ). class_of table (least_item table class) ≡ Some k) at (class_at table (least_item table class) (class - 1) (omega (arith, is.0, is.1)) too_small room)

  pub worst : least_item table class ≤ size_of table class → IsWorst table class (size_of table class - least_item table class)
  worst room =
      let words = least_words table class in
      record {
        met = (words.0, subst (λ (bytes : ℕ). class_of table bytes ≡ Some class) words.1 (least_goes room), omega (arith, words.1));
        most = λ other goes. omega (arith, least_is_least other goes);
      }

  pub none : size_of table class < least_item table class → (words : ℕ) → class_of table (item_bytes words) ≡ Some class → ⊥
  none less words goes = omega (arith, least_is_least words goes, (class_fits table (item_bytes words) class goes).1)
