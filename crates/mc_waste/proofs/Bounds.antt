-- The sizes of a table step by step: each is what the factor makes of the one below, rounded up, and the last one twice that at most.
use Rattle.std.proofs.Common.{◌≡◌, ℕ, zero, suc, ◌+◌, ◌-◌, ◌*◌, ◌/◌, ◌%◌, ◌^◌, ◌<◌, ◌≤◌, true, false, List, length, get_or, sym, ap, ◌∙◌, subst, arith, ⊎_elim}
use Rattle.std.proofs.Math.Nat.{div-mul-le_self, le_refl, le_trans, pow-suc}
use Rattle.std.proofs.lemmas.Bool.{cases_lt, cond-true, cond-false, le-ltb}
use Rattle.std.proofs.lemmas.Nat.{le-div, mul-le}
use Rattle.std.proofs.lemmas.Option.{get_or_from_slice_get}
use Rattle.mc_classes.specs.declared.config.Config.{Config}
use Rattle.mc_classes.specs.Classes.{ComesFrom}
use Rattle.mc_classes.specs.Refusals.{first_size, is_below_max, rounded_up}
use Rattle.mc_classes.proofs.Accepted.{IsAccepted}
use Rattle.mc_classes.proofs.Sizes.{at_most_max, last_size, some_class, sound}
use Rattle.mc_waste.specs.Waste.{scaled_size}

-- a larger size grows to no less
pub grown_more : (config : Config) → IsAccepted config → (a b : ℕ) → a ≤ b → scaled_size config a ≤ scaled_size config b
grown_more config acc a b le =
    le-div (a * config.num / config.den) (b * config.num) config.den acc.factor.0
    (le_trans (div-mul-le_self (a * config.num) config.den) (mul-le a config.num b config.num le (le_refl config.num)))

pub rounded_more : (a b : ℕ) → a ≤ b → rounded_up a ≤ rounded_up b
rounded_more a b le = omega arith

module _ (config : Config) (raws sizes : List ℕ) (acc : IsAccepted config) (comes : ComesFrom config raws sizes) where
  -- each size is a multiple of 8
  pub multiple : (i : ℕ) → i < length sizes → get_or sizes i 0 % 8 ≡ 0
  multiple i h =
      ⊎_elim
      (λ (before : i + 1 < length sizes).
      let raised : get_or sizes i 0 ≡ rounded_up (get_or raws i 0) = (comes.steps i before).raised in
      rw raised (omega arith))
      (λ (after : length sizes ≤ i + 1).
      let at : i ≡ length sizes - 1 = omega arith in
      rw at (rw (last_size config raws sizes acc comes) acc.max_multiple))
      (cases_lt (i + 1) (length sizes))

  pub between : (i : ℕ) → (i + 1) + 1 < length sizes → get_or sizes (i + 1) 0 ≡ rounded_up (scaled_size config (get_or sizes i 0))
  between i h =
      let grown_is : get_or raws (i + 1) 0 ≡ get_or sizes i 0 * config.num / config.den = (comes.steps i (omega arith)).grown in
      (comes.steps (i + 1) h).raised ∙ ap rounded_up grown_is

  -- the last size, where it isn't the 63rd
  pub last_of_few : (i : ℕ) → (i + 1) + 1 ≡ length sizes → length sizes < 63 → get_or sizes (i + 1) 0 ≤ scaled_size config (scaled_size config (get_or sizes i 0))
  last_of_few i h within_limit =
      let grown_is : get_or raws (i + 1) 0 ≡ scaled_size config (get_or sizes i 0) = (comes.steps i (omega arith)).grown in
      let at : length raws - 1 ≡ i + 1 = omega (arith, comes.paired) in
      let raw : get_or raws (length raws - 1) 0 ≡ scaled_size config (get_or sizes i 0) = ap (λ (k : ℕ). get_or raws k 0) at ∙ grown_is in
      let ends : config.max * config.den ≤ scaled_size config (get_or sizes i 0) * config.num = subst (λ (r : ℕ). config.max * config.den ≤ r * config.num) raw (comes.ends within_limit) in
      let top : get_or sizes (i + 1) 0 ≡ config.max = ap (λ (k : ℕ). get_or sizes k 0) (omega arith) ∙ last_size config raws sizes acc comes in
      rw top (le-div config.max (scaled_size config (get_or sizes i 0) * config.num) config.den acc.factor.0 ends)

  pub first_is : get_or sizes 0 0 ≡ first_size config
  first_is =
      let some = some_class config raws sizes acc comes in
      ⊎_elim
      (λ (more : 0 + 1 < length sizes).
      let first : get_or raws 0 0 ≡ config.first = get_or_from_slice_get raws 0 config.first 0 comes.begins in
      let step = comes.steps 0 more in
      let below : is_below_max config config.first ≡ true = ap (is_below_max config) (sym first) ∙ step.below in
      let raised : get_or sizes 0 0 ≡ rounded_up config.first = step.raised ∙ ap rounded_up first in
      raised ∙ sym (cond-true (is_below_max config config.first) (rounded_up config.first) config.max below))
      (λ (one : length sizes ≤ 0 + 1).
      let first : get_or raws (length raws - 1) 0 ≡ config.first = ap (λ (k : ℕ). get_or raws k 0) (omega (arith, comes.paired)) ∙ get_or_from_slice_get raws 0 config.first 0 comes.begins in
      let ends : config.max * config.den ≤ config.first * config.num = subst (λ (r : ℕ). config.max * config.den ≤ r * config.num) first (comes.ends (omega arith)) in
      let above : is_below_max config config.first ≡ false = le-ltb (config.first * config.num) (config.max * config.den) ends in
      let top : get_or sizes 0 0 ≡ config.max = ap (λ (k : ℕ). get_or sizes k 0) (omega arith) ∙ last_size config raws sizes acc comes in
      top ∙ sym (cond-false (is_below_max config config.first) (rounded_up config.first) config.max above))
      (cases_lt (0 + 1) (length sizes))

  -- where the factor is 5/4 or more a size is 5/4 of the one below or more
  fifth_more : config.den * 5 ≤ config.num * 4 → (i : ℕ) → (i + 1) + 1 < length sizes → get_or sizes i 0 * 5 ≤ get_or sizes (i + 1) 0 * 4
  fifth_more factor i h =
      let size = get_or sizes i 0 in
      let multiple_is = multiple i (omega arith) in
      let quarters : size / 4 * 4 ≡ size = omega arith in
      let more : size / 4 * (config.den * 5) ≤ size / 4 * (config.num * 4) = mul-le (size / 4) (config.den * 5) (size / 4) (config.num * 4) (le_refl (size / 4)) factor in
      let whole : size / 4 * (config.num * 4) ≡ size * config.num = subst (λ (s : ℕ). size / 4 * (config.num * 4) ≡ s * config.num) quarters (omega arith) in
      let grows : size / 4 * 5 ≤ scaled_size config size = le-div (size / 4 * 5) (size * config.num) config.den acc.factor.0 (omega arith) in
      let next : get_or sizes (i + 1) 0 ≡ rounded_up (scaled_size config size) = between i h in
      rw next (omega arith)

  powers : config.den * 5 ≤ config.num * 4 → (i : ℕ) → i + 1 < length sizes → 24 * 5 ^ i ≤ get_or sizes i 0 * 4 ^ i
  powers factor zero h = omega (arith, ((sound config raws sizes acc comes).sizes 1 (omega arith, omega arith)).0)
  powers factor (suc i) h =
      let before = powers factor i (omega arith) in
      let step = fifth_more factor i (omega arith) in
      let five : 5 ^ suc i ≡ 5 ^ i * 5 = pow-suc 5 i in
      let four : 4 ^ suc i ≡ 4 ^ i * 4 = pow-suc 4 i in
      let next : get_or sizes (suc i) 0 ≡ get_or sizes (i + 1) 0 = ap (λ (k : ℕ). get_or sizes k 0) (omega arith) in
      let grows : get_or sizes i 0 * 5 * 4 ^ i ≤ get_or sizes (i + 1) 0 * 4 * 4 ^ i = mul-le (get_or sizes i 0 * 5) (4 ^ i) (get_or sizes (i + 1) 0 * 4) (4 ^ i) step (le_refl (4 ^ i)) in
      rw (five, four, next) (omega arith)

  -- where the factor is 5/4 or more there are never 63 classes
  pub within_limit : config.den * 5 ≤ config.num * 4 → length sizes < 63
  within_limit factor =
      ⊎_elim
      (λ lt. lt)
      (λ (le : 63 ≤ length sizes).
      let grows = powers factor 61 (omega arith) in
      let least = le_trans (at_most_max config raws sizes acc comes 61 (omega arith)) (le_trans acc.max.1 acc.page.1) in
      let most : get_or sizes 61 0 * 4 ^ 61 ≤ 16384 * 4 ^ 61 = mul-le (get_or sizes 61 0) (4 ^ 61) 16384 (4 ^ 61) least (le_refl (4 ^ 61)) in
      absurd (omega (arith, le_trans grows most)))
      (cases_lt (length sizes) 63)
