-- What an item has of its chunk, by the sizes of its class and of the one below.
use Rattle.std.proofs.Common.{◌≡◌, ℕ, ◌+◌, ◌-◌, ◌*◌, ◌<◌, ◌≤◌, ◌⊎◌, inl, inr, length, get_or, None, refl, sym, ap, ◌∙◌, subst, arith, ⊎_elim, eqb, ltb}
use Rattle.std.proofs.Math.Nat.{div-mul-le_self, le_refl, le_trans}
use Rattle.std.proofs.lemmas.Bool.{cases_lt, cond-true, cond-false, lt-ltb, le-ltb, ne_eqb}
use Rattle.std.proofs.lemmas.Nat.{mul-le}
use Rattle.mc_classes.specs.declared.config.Config.{Config}
use Rattle.mc_classes.specs.Classes.{Classes, IsClass, IsTableOf, size_of}
use Rattle.mc_classes.specs.Refusals.{first_size, config_refusal, rounded_up}
use Rattle.mc_classes.proofs.Accepted.{IsAccepted, accepted}
use Rattle.mc_classes.proofs.ClassOf.{class_fits, class_least}
use Rattle.mc_classes.proofs.Sizes.{at_most_max}
use Rattle.mc_waste.specs.Waste.{GoesTo, WastesLessThan, scaled_size, item_bytes, most_chunk}
use Rattle.mc_waste.proofs.Bounds.{between, within_limit, first_is, grown_more, last_of_few, multiple, rounded_more}

-- the most bytes of a chunk, case by case
most_first : (config : Config) (table : Classes) (bytes : ℕ) → most_chunk config table 1 bytes ≡ first_size config
most_first config table bytes = refl

most_between : (config : Config) (table : Classes) (class bytes : ℕ) → 1 < class → class < length table.sizes → most_chunk config table class bytes ≡ rounded_up (scaled_size config (bytes - 8))
most_between config table class bytes above less =
    cond-false (eqb class 1) _ _ (ne_eqb class 1 (omega arith)) ∙ cond-true (ltb class (length table.sizes)) _ _ (lt-ltb class (length table.sizes) less)

most_last : (config : Config) (table : Classes) (class bytes : ℕ) → 1 < class → length table.sizes ≤ class → class < 63 → most_chunk config table class bytes ≡ scaled_size config (scaled_size config (bytes - 8))
most_last config table class bytes above last less =
    cond-false (eqb class 1) _ _ (ne_eqb class 1 (omega arith)) ∙ cond-false (ltb class (length table.sizes)) _ _ (le-ltb class (length table.sizes) last) ∙ cond-true (ltb class 63) _ _ (lt-ltb class 63 less)

most_ever : (config : Config) (table : Classes) (class bytes : ℕ) → 1 < class → length table.sizes ≤ class → 63 ≤ class → most_chunk config table class bytes ≡ config.max
most_ever config table class bytes above last most =
    cond-false (eqb class 1) _ _ (ne_eqb class 1 (omega arith)) ∙ cond-false (ltb class (length table.sizes)) _ _ (le-ltb class (length table.sizes) last) ∙ cond-false (ltb class 63) _ _ (le-ltb class 63 most)

-- the sizes that an item's class and the class below it have
module _ (config : Config) (table : Classes) (acc : IsAccepted config) (of : IsTableOf config table) (words class : ℕ) where
  -- the class below is too small, by 8 bytes at least
  pub below_is_less : IsClass table class → 1 < class → size_of table (class - 1) < item_bytes words → size_of table (class - 1) + 8 ≤ item_bytes words
  below_is_less is above less =
      let even = multiple config of.raws table.sizes acc of.comes ((class - 1) - 1) (omega (arith, is.1)) in
      omega arith

  pub size_between : 1 < class → class < length table.sizes → size_of table class ≡ rounded_up (scaled_size config (size_of table (class - 1)))
  size_between above less =
      let at : ((class - 1) - 1) + 1 ≡ class - 1 = omega arith in
      subst (λ (k : ℕ). get_or table.sizes k 0 ≡ rounded_up (scaled_size config (size_of table (class - 1)))) at (between config of.raws table.sizes acc of.comes ((class - 1) - 1) (omega arith))

  pub size_last : 1 < class → class ≡ length table.sizes → class < 63 → size_of table class ≤ scaled_size config (scaled_size config (size_of table (class - 1)))
  size_last above last less =
      let at : ((class - 1) - 1) + 1 ≡ class - 1 = omega arith in
      subst (λ (k : ℕ). get_or table.sizes k 0 ≤ scaled_size config (scaled_size config (size_of table (class - 1)))) at (last_of_few config of.raws table.sizes acc of.comes ((class - 1) - 1) (omega arith) (omega arith))

  -- a class between the first and the last
  pub most_of_between : 1 < class → class < length table.sizes → size_of table (class - 1) + 8 ≤ item_bytes words → size_of table class ≤ most_chunk config table class (item_bytes words)
  most_of_between above less room =
      rw (most_between config table class (item_bytes words) above less, size_between above less)
      (rounded_more (scaled_size config (size_of table (class - 1))) (scaled_size config (item_bytes words - 8)) (grown_more config acc (size_of table (class - 1)) (item_bytes words - 8) (omega arith)))

  pub most_of_last : 1 < class → class ≡ length table.sizes → class < 63 → size_of table (class - 1) + 8 ≤ item_bytes words → size_of table class ≤ most_chunk config table class (item_bytes words)
  most_of_last above last less room =
      let once = grown_more config acc (size_of table (class - 1)) (item_bytes words - 8) (omega arith) in
      let twice = grown_more config acc (scaled_size config (size_of table (class - 1))) (scaled_size config (item_bytes words - 8)) once in
      rw (most_last config table class (item_bytes words) above (omega arith) less) (le_trans (size_last above last less) twice)

  -- the bytes of a class's item, and of its chunk, by the factor
  pub share_between : 1 < class → class < length table.sizes → size_of table (class - 1) + 8 ≤ item_bytes words → size_of table class * config.den < item_bytes words * config.num
  share_between above less room =
      let below = size_of table (class - 1) in
      let whole : scaled_size config below * config.den ≤ below * config.num = div-mul-le_self (below * config.num) config.den in
      let most : size_of table class ≤ scaled_size config below + 7 = rw (size_between above less) (omega arith) in
      let parts : size_of table class * config.den ≤ (scaled_size config below + 7) * config.den = mul-le (size_of table class) config.den (scaled_size config below + 7) config.den most (le_refl config.den) in
      let item : (below + 8) * config.num ≤ item_bytes words * config.num = mul-le (below + 8) config.num (item_bytes words) config.num room (le_refl config.num) in
      omega (arith, acc.factor)

  pub share_last : 1 < class → class ≡ length table.sizes → class < 63 → size_of table (class - 1) + 8 ≤ item_bytes words → size_of table class * config.den * config.den < item_bytes words * config.num * config.num
  share_last above last less room =
      let below = size_of table (class - 1) in
      let once : scaled_size config below * config.den ≤ below * config.num = div-mul-le_self (below * config.num) config.den in
      let twice : scaled_size config (scaled_size config below) * config.den ≤ scaled_size config below * config.num = div-mul-le_self (scaled_size config below * config.num) config.den in
      let size : size_of table class * config.den ≤ scaled_size config below * config.num = le_trans (mul-le (size_of table class) config.den (scaled_size config (scaled_size config below)) config.den (size_last above last less) (le_refl config.den)) twice in
      let size_twice : size_of table class * config.den * config.den ≤ scaled_size config below * config.num * config.den = mul-le (size_of table class * config.den) config.den (scaled_size config below * config.num) config.den size (le_refl config.den) in
      let grown_twice : scaled_size config below * config.den * config.num ≤ below * config.num * config.num = mul-le (scaled_size config below * config.den) config.num (below * config.num) config.num once (le_refl config.num) in
      let turned : scaled_size config below * config.num * config.den ≡ scaled_size config below * config.den * config.num = omega arith in
      let item : (below + 8) * (config.num * config.num) ≤ item_bytes words * (config.num * config.num) = mul-le (below + 8) (config.num * config.num) (item_bytes words) (config.num * config.num) room (le_refl (config.num * config.num)) in
      let some : 1 * 1 ≤ config.num * config.num = mul-le 1 1 config.num config.num (omega (arith, acc.factor)) (omega (arith, acc.factor)) in
      omega arith

  -- with the smaller share of a class between, twice
  pub share_twice : size_of table class * config.den < item_bytes words * config.num → size_of table class * config.den * config.den < item_bytes words * config.num * config.num
  share_twice less =
      let once : (size_of table class * config.den + 1) * config.den ≤ item_bytes words * config.num * config.den = mul-le (size_of table class * config.den + 1) config.den (item_bytes words * config.num) config.den (omega arith) (le_refl config.den) in
      let twice : item_bytes words * config.num * config.den ≤ item_bytes words * config.num * config.num = mul-le (item_bytes words * config.num) config.den (item_bytes words * config.num) config.num (le_refl (item_bytes words * config.num)) (omega (arith, acc.factor)) in
      omega (arith, acc.factor)

-- what is less when it is taken so many times is less
less_once : (a b n : ℕ) → a * n < b * n → a < b
less_once a b n less =
    ⊎_elim (λ lt. lt) (λ (le : b ≤ a). absurd (omega (arith, mul-le b n a n le (le_refl n)))) (cases_lt a b)

-- a share of more than 4/5 leaves less than 20 of 100
pub fifth : (num den bytes size : ℕ) → 0 < size → num * 4 ≡ den * 5 → size * den < bytes * num → WastesLessThan 20 bytes size
fifth num den bytes size some factor less =
    let times : bytes * (num * 4) ≡ bytes * (den * 5) = ap (λ (n : ℕ). bytes * n) factor in
    let once = less_once (size * 4) (bytes * 5) den (omega arith) in
    omega arith

-- a share of more than 16/25 leaves less than 36 of 100
pub ninth : (num den bytes size : ℕ) → 0 < size → num * 4 ≡ den * 5 → size * den * den < bytes * num * num → WastesLessThan 36 bytes size
ninth num den bytes size some factor less =
    let square : (num * 4) * (num * 4) ≡ (den * 5) * (den * 5) = ap (λ (n : ℕ). n * n) factor in
    let times : bytes * ((num * 4) * (num * 4)) ≡ bytes * ((den * 5) * (den * 5)) = ap (λ (n : ℕ). bytes * n) square in
    let once = less_once (size * 16) (bytes * 25) (den * den) (omega arith) in
    omega arith

-- the item of a class, and that the class below is too small
pub at_class : (config : Config) (table : Classes) (words class : ℕ) → GoesTo config table words class → IsClass table class × (item_bytes words ≤ size_of table class)
at_class config table words class h = class_fits table (item_bytes words) class h.goes

pub above_below : (config : Config) (table : Classes) (words class : ℕ) → GoesTo config table words class → 1 < class → size_of table (class - 1) + 8 ≤ item_bytes words
above_below config table words class h above =
    below_is_less config table (accepted config h.is_accepted) h.is_table words class (at_class config table words class h).0 above
    (class_least table (item_bytes words) class (class - 1) h.goes (omega arith) (omega arith))

pub no_63 : (config : Config) (table : Classes) → config_refusal config ≡ None → IsTableOf config table → config.num * 4 ≡ config.den * 5 → length table.sizes < 63
no_63 config table h of factor = within_limit config of.raws table.sizes (accepted config h) of.comes (omega arith)

one_or_more : (class : ℕ) → 1 ≤ class → (class ≡ 1) ⊎ (1 < class)
one_or_more class some = ⊎_elim (λ (le : class < 2). inl (omega arith)) (λ (more : 2 ≤ class). inr (omega arith)) (cases_lt class 2)

-- the laws, for an item of a class
module _ (config : Config) (table : Classes) (words class : ℕ) (h : GoesTo config table words class) where
  acc : IsAccepted config
  acc = accepted config h.is_accepted

  -- the last class, or one below it
  is_at_most : class ≤ length table.sizes
  is_at_most = (at_class config table words class h).0.1

  some_size : 0 < size_of table class
  some_size = omega (arith, (at_class config table words class h).1)

  room_above : 1 < class → size_of table (class - 1) + 8 ≤ item_bytes words
  room_above above = above_below config table words class h above

  pub share_of_between : 1 < class → class < length table.sizes → size_of table class * config.den < item_bytes words * config.num
  share_of_between above less = share_between config table acc h.is_table words class above less (room_above above)

  pub share_of_last : 1 < class → class < 63 → size_of table class * config.den * config.den < item_bytes words * config.num * config.num
  share_of_last above less =
      ⊎_elim
      (λ (before : class < length table.sizes). share_twice config table acc h.is_table words class (share_of_between above before))
      (λ (after : length table.sizes ≤ class). share_last config table acc h.is_table words class above (omega (arith, is_at_most)) less (room_above above))
      (cases_lt class (length table.sizes))

  pub fifth_of_between : config.num * 4 ≡ config.den * 5 → 1 < class → class < length table.sizes → WastesLessThan 20 (item_bytes words) (size_of table class)
  fifth_of_between factor above less = fifth config.num config.den (item_bytes words) (size_of table class) some_size factor (share_of_between above less)

  pub ninth_of_last : config.num * 4 ≡ config.den * 5 → 1 < class → WastesLessThan 36 (item_bytes words) (size_of table class)
  ninth_of_last factor above =
      let less : class < 63 = omega (arith, is_at_most, no_63 config table h.is_accepted h.is_table factor) in
      ninth config.num config.den (item_bytes words) (size_of table class) some_size factor (share_of_last above less)

  pub most_of_item : size_of table class ≤ most_chunk config table class (item_bytes words)
  most_of_item =
      ⊎_elim
      (λ (is : class ≡ 1). subst (λ (k : ℕ). size_of table k ≤ most_chunk config table k (item_bytes words)) (sym is) (rw (first_is config h.is_table.raws table.sizes acc h.is_table.comes) (le_refl (first_size config))))
      (λ (not_one : 1 < class).
      ⊎_elim
      (λ (before : class < length table.sizes). most_of_between config table acc h.is_table words class not_one before (room_above not_one))
      (λ (after : length table.sizes ≤ class).
      ⊎_elim
      (λ (less : class < 63). most_of_last config table acc h.is_table words class not_one (omega (arith, is_at_most)) less (room_above not_one))
      (λ (ever : 63 ≤ class).
      rw (most_ever config table class (item_bytes words) not_one after ever) (at_most_max config h.is_table.raws table.sizes acc h.is_table.comes (class - 1) (omega (arith, is_at_most))))
      (cases_lt class 63))
      (cases_lt class (length table.sizes)))
      (one_or_more class (at_class config table words class h).0.0)

pub first_of_item : (config : Config) (table : Classes) (words : ℕ) → GoesTo config table words 1 → size_of table 1 ≡ first_size config
first_of_item config table words h = first_is config h.is_table.raws table.sizes (accepted config h.is_accepted) h.is_table.comes

-- the smallest item of a class between has just the most that it may have
pub most_met : (config : Config) (table : Classes) (class : ℕ) → config_refusal config ≡ None → IsTableOf config table → 1 < class → class < length table.sizes → size_of table class ≡ most_chunk config table class (size_of table (class - 1) + 8)
most_met config table class h of above less =
    let below = size_of table (class - 1) in
    let same : (below + 8) - 8 ≡ below = omega arith in
    size_between config table (accepted config h) of 0 class above less
    ∙ ap (λ (b : ℕ). rounded_up (scaled_size config b)) (sym same) ∙ sym (most_between config table class (below + 8) above less)
