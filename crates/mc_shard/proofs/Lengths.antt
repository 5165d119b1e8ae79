-- The class of an item by the lengths of its key and its value.
use Rattle.std.proofs.Common.{◌≡◌, ◌∙◌, ◌+◌, ◌*◌, ℕ, Bool, false, List, Option, None, Some, Result, Ok, Err, ap, is_some, length, refl, sym, true, true≢false}
use Rattle.mc_classes.specs.Classes.{Classes, class_of}
use Rattle.mc_packing.specs.Packing.{packed_item}
use Rattle.mc_packing.proofs.Packs.{length_packed}
use Rattle.mc_words.specs.declared.arena.Arena.{Arena}
use Rattle.mc_words.specs.declared.hand.Hand.{Hand}
use Rattle.mc_words.specs.hand.Arenas.{setup_of, view}
use Rattle.mc_words.specs.hand.View.{Setup}
use Rattle.mc_items.specs.Setting.{class_for_words}
use Rattle.mc_items.specs.declared.comparing.CompareError.{CompareError}
use Rattle.mc_items.specs.declared.comparing.CompareError.TheVariants as compare
use Rattle.mc_items.specs.declared.setting.SetError.{SetError}
use Rattle.mc_items.specs.declared.setting.SetError.TheVariants.{TooLarge}
use Rattle.mc_items.specs.declared.within.SetWithinError.{SetWithinError}
use Rattle.mc_items.specs.declared.within.SetWithinError.TheVariants as within
use Rattle.mc_items.specs.declared.within.comparing.CompareWithinError.{CompareWithinError}
use Rattle.mc_items.specs.declared.within.comparing.CompareWithinError.TheVariants as compare_within
use Rattle.mc_shard.specs.declared.conditions.Outcome.{Outcome}
use Rattle.mc_shard.specs.Conditions.{outcome_of, outcome_within}
use Rattle.mc_shard.specs.Setting.{RefusesBytes}
use Rattle.mc_shard.specs.Hands.{IsIdleHandOf}
use Rattle.mc_shard.specs.Sizes.{has_class_for}

-- a test of a class table is one of the arena's, which is the same
pub tested_as : (classes table : Classes) (key_len value_len : ℕ) (b c : Bool) → classes ≡ table → b ≡ has_class_for classes key_len value_len → b ≡ c → has_class_for table key_len value_len ≡ c
tested_as classes table key_len value_len b c same is known = ap (λ (t : Classes). has_class_for t key_len value_len) (sym same) ∙ (sym is ∙ known)

-- what isn't there is none
none_is : {A : Type 0} (o : Option A) → is_some o ≡ false → o ≡ None
none_is None is = refl
none_is (Some x) is = absurd (cc)

module _ (arena : Arena) (hand : Hand) (idle : IsIdleHandOf arena hand) (key value : List ℕ) where
  -- whether the packing of key and value has a class is said by their lengths
  said : is_some (class_for_words (view hand) (packed_item key value)) ≡ has_class_for (setup_of arena).table (length key) (length value)
  said =
      ap (λ (n : ℕ). is_some (class_of (view hand).setup.table (24 + 8 * n))) (length_packed key value)
      ∙ ap (λ (setup : Setup). has_class_for setup.table (length key) (length value)) idle.of_arena.setup

  -- words without a class are of lengths without one
  pub lacks_class : (words : List ℕ) → words ≡ packed_item key value → class_for_words (view hand) words ≡ None → has_class_for (setup_of arena).table (length key) (length value) ≡ false
  lacks_class words packed none = sym said ∙ (sym (ap (λ (ws : List ℕ). is_some (class_for_words (view hand) ws)) packed) ∙ ap is_some none)

  -- and so the other way
  pub has_no_class : has_class_for (setup_of arena).table (length key) (length value) ≡ false → class_for_words (view hand) (packed_item key value) ≡ None
  has_no_class lacks = none_is (class_for_words (view hand) (packed_item key value)) (said ∙ lacks)

  -- a set of what has no class is refused at once
  pub refused_at_once : (number hash : ℕ) → has_class_for (setup_of arena).table (length key) (length value) ≡ false → RefusesBytes number hash (packed_item key value) TooLarge hand hand
  refused_at_once number hash lacks = (has_no_class lacks, refl)

  -- words that fit by their lengths have a class
  pub fits : (words : List ℕ) → words ≡ packed_item key value → has_class_for (setup_of arena).table (length key) (length value) ≡ true → class_for_words (view hand) words ≡ None → ⊥
  fits words packed has none = absurd (true≢false (sym has ∙ lacks_class words packed none))

-- a set on a condition is too large where its store is
pub too_large_of : (stored : Result ℕ CompareError) → ◌≡◌ {A = Result Outcome SetError} (outcome_of stored) (Err TooLarge) → ◌≡◌ {A = Result ℕ CompareError} stored (Err (compare.Refused TooLarge))
too_large_of (Ok stamp) is = absurd (cc)
too_large_of (Err (compare.Refused error)) is = let same : error ≡ TooLarge = cc in ap (λ (e : SetError). Err (compare.Refused e)) same
too_large_of (Err (compare.Differs (Some stamp))) is = absurd (cc)
too_large_of (Err (compare.Differs None)) is = absurd (cc)

pub too_large_of_within : (stored : Result ℕ CompareWithinError) → ◌≡◌ {A = Result Outcome SetWithinError} (outcome_within stored) (Err (within.Refused TooLarge)) → ◌≡◌ {A = Result ℕ CompareWithinError} stored (Err (compare_within.Refused (within.Refused TooLarge)))
too_large_of_within (Ok stamp) is = absurd (cc)
too_large_of_within (Err (compare_within.Refused error)) is = let same : error ≡ within.Refused TooLarge = cc in ap (λ (e : SetWithinError). Err (compare_within.Refused e)) same
too_large_of_within (Err (compare_within.Differs (Some stamp))) is = absurd (cc)
too_large_of_within (Err (compare_within.Differs None)) is = absurd (cc)

-- two refusals that are the same
pub same_error : {T E : Type 0} (x y : E) → ◌≡◌ {A = Result T E} (Err x) (Err y) → x ≡ y
same_error x y is = cc
