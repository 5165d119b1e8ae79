-- The row of a class is the sum of what was counted in it.
use Rattle.std.proofs.Common.{◌≡◌, ◌∙◌, ◌+◌, ◌-◌, ◌*◌, ◌^◌, ◌<◌, ◌≤◌, ℕ, Bool, true, false, if◌then◌else◌, List, [], ◌∷◌, Option, Some, None, IfSome, ap, arith, fold, get_or, length, min, nat_eq, refl, replicate, set, subst, sum_by, sym}
use Rattle.std.proofs.lemmas.Bool.{eqb-false, eqb-true}
use Rattle.std.proofs.lemmas.Grind.{get_or-set_at}
use Rattle.std.proofs.lemmas.List.{get_or-replicate, get_or-set_other, length-replicate, length-set}
use Rattle.std.proofs.lemmas.List.Sums.{sum_by-cons}
use Rattle.std.specs.Option.{option_map_or}
use Rattle.mc_classes.specs.Classes.{Classes, class_of}
use Rattle.mc_packing.specs.Packing.{word_count_for}
use Rattle.mc_classes.proofs.ClassOf.{class_fits}
use Rattle.mc_shard.specs.declared.class_items.ClassItems.{ClassItems}
use Rattle.mc_shard.specs.declared.class_items.ItemSize.{ItemSize}
use Rattle.mc_shard.specs.ClassItems.{RowsAreSums, class_of_size, is_item_of_class, no_items, row_of_class, row_with, rows_with, rows_with_items}

-- a row of these numbers, of which each stays at 2^64 - 1 once there
abbrev row_of : ℕ → ℕ → ClassItems
row_of items bytes = record { items = min items (2 ^ 64 - 1); bytes = min bytes (2 ^ 64 - 1) }

same_row : (a b c d : ℕ) → a ≡ b → c ≡ d → ◌≡◌ {A = ClassItems} (record { items = a; bytes = c }) (record { items = b; bytes = d })
same_row a b c d items bytes = cc

-- an item more, of a class of this number
module _ (class : ℕ) (some : 1 ≤ class) (rows : List ClassItems) (size : ItemSize) (a b : ℕ) (long : class ≤ length rows) (is : get_or rows (class - 1) no_items ≡ row_of a b) where
  at_test : (own : ℕ) (test : Bool) → 1 ≤ own → nat_eq own class ≡ test
      → get_or (set rows (own - 1) (row_with size (get_or rows (own - 1) no_items))) (class - 1) no_items ≡ row_of (a + (if test then 1 else 0)) (b + (if test then size.key + size.value else 0))
  at_test own true first e =
      let same : own ≡ class = eqb-true own class e in
      get_or-set_at rows (own - 1) (class - 1) (row_with size (get_or rows (own - 1) no_items)) no_items (omega (arith, same)) (omega (arith, same, some, long))
      ∙ ap (row_with size) (ap (λ (k : ℕ). get_or rows (k - 1) no_items) same ∙ is)
      ∙ same_row (min (min a (2 ^ 64 - 1) + 1) (2 ^ 64 - 1)) (min (a + 1) (2 ^ 64 - 1)) (min (min b (2 ^ 64 - 1) + (size.key + size.value)) (2 ^ 64 - 1)) (min (b + (size.key + size.value)) (2 ^ 64 - 1)) (omega arith) (omega arith)
  at_test own false first e =
      get_or-set_other rows (own - 1) (class - 1) (row_with size (get_or rows (own - 1) no_items)) no_items (λ (at : class - 1 ≡ own - 1). eqb-false own class e (omega (arith, at, first, some)))
      ∙ is ∙ same_row (min a (2 ^ 64 - 1)) (min (a + 0) (2 ^ 64 - 1)) (min b (2 ^ 64 - 1)) (min (b + 0) (2 ^ 64 - 1)) (omega arith) (omega arith)

  pub row_more : (found : Option ℕ) → IfSome found (λ own. 1 ≤ own)
      → get_or (option_map_or (λ own. set rows (own - 1) (row_with size (get_or rows (own - 1) no_items))) found rows) (class - 1) no_items
      ≡ row_of (a + (if option_map_or (λ own. nat_eq own class) found false then 1 else 0)) (b + (if option_map_or (λ own. nat_eq own class) found false then size.key + size.value else 0))
  row_more None first = is ∙ same_row (min a (2 ^ 64 - 1)) (min (a + 0) (2 ^ 64 - 1)) (min b (2 ^ 64 - 1)) (min (b + 0) (2 ^ 64 - 1)) (omega arith) (omega arith)
  row_more (Some own) first = at_test own (nat_eq own class) first refl

-- a class has a number from 1 on
from_one : (classes : Classes) (bytes : ℕ) (found : Option ℕ) → class_of classes bytes ≡ found → IfSome found (λ own. 1 ≤ own)
from_one classes bytes None is = tt
from_one classes bytes (Some own) is = (class_fits classes bytes own is).0.0

-- there are as many rows as before
length_with : (rows : List ClassItems) (size : ItemSize) (found : Option ℕ) → length (option_map_or (λ own. set rows (own - 1) (row_with size (get_or rows (own - 1) no_items))) found rows) ≡ length rows
length_with rows size None = refl
length_with rows size (Some own) = length-set rows (own - 1) (row_with size (get_or rows (own - 1) no_items))

pub length_with_items : (classes : Classes) (rows : List ClassItems) (sizes : List ItemSize) → length (rows_with_items classes rows sizes) ≡ length rows
length_with_items classes rows [] = refl
length_with_items classes rows (size ∷ sizes) = length_with_items classes (rows_with classes rows size) sizes ∙ length_with rows size (class_of_size classes size)

-- how many of the items are of the class, and their bytes
module _ (classes : Classes) (class : ℕ) where
  abbrev one_in : ItemSize → ℕ
  one_in size = if is_item_of_class classes class size then 1 else 0

  abbrev bytes_in : ItemSize → ℕ
  bytes_in size = if is_item_of_class classes class size then size.key + size.value else 0

  sums_from : 1 ≤ class → (sizes : List ItemSize) (rows : List ClassItems) (a b : ℕ) → class ≤ length rows → get_or rows (class - 1) no_items ≡ row_of a b
      → get_or (rows_with_items classes rows sizes) (class - 1) no_items ≡ row_of (a + sum_by one_in sizes) (b + sum_by bytes_in sizes)
  sums_from some [] rows a b long is = is ∙ same_row (min a (2 ^ 64 - 1)) (min (a + 0) (2 ^ 64 - 1)) (min b (2 ^ 64 - 1)) (min (b + 0) (2 ^ 64 - 1)) (omega arith) (omega arith)
  sums_from some (size ∷ sizes) rows a b long is =
      let more = row_more class some rows size a b long is (class_of_size classes size) (from_one classes (24 + 8 * (2 + word_count_for size.key + word_count_for size.value)) (class_of_size classes size) refl) in
      sums_from some sizes (rows_with classes rows size) (a + one_in size) (b + bytes_in size) (omega (arith, long, length_with rows size (class_of_size classes size))) more
      ∙ same_row (min (a + one_in size + sum_by one_in sizes) (2 ^ 64 - 1)) (min (a + sum_by one_in (size ∷ sizes)) (2 ^ 64 - 1)) (min (b + bytes_in size + sum_by bytes_in sizes) (2 ^ 64 - 1)) (min (b + sum_by bytes_in (size ∷ sizes)) (2 ^ 64 - 1))
      (omega (arith, sum_by-cons one_in size sizes)) (omega (arith, sum_by-cons bytes_in size sizes))

pub rows_are_sums : RowsAreSums
rows_are_sums classes sizes count class some most =
    sums_from classes class some sizes (replicate count no_items) 0 0 (omega (arith, most, length-replicate count no_items)) (get_or-replicate count (class - 1) no_items no_items (omega (arith, some, most)))
    ∙ same_row (min (0 + sum_by (one_in classes class) sizes) (2 ^ 64 - 1)) (min (sum_by (one_in classes class) sizes) (2 ^ 64 - 1)) (min (0 + sum_by (bytes_in classes class) sizes) (2 ^ 64 - 1)) (min (sum_by (bytes_in classes class) sizes) (2 ^ 64 - 1)) (omega arith) (omega arith)
