-- Which keys and values have a class.
use Rattle.std.specs.Prelude.{◌≡◌, ℕ, ◌+◌, ◌*◌, ◌≤◌, ◌↔◌, Bool, true, false, is_some}
use Rattle.mc_classes.specs.Classes.{Classes, class_of}
use Rattle.mc_packing.specs.Packing.{word_count_for}

-- some class has chunks for an item of a key and a value of these lengths
abbrev pub has_class_for : Classes → ℕ → ℕ → Bool
has_class_for classes key_len value_len = is_some (class_of classes (24 + 8 * (2 + word_count_for key_len + word_count_for value_len)))

-- beside a key of this length a value has a class just where it has at most so many bytes
abbrev pub IsMostBeside : Classes → ℕ → ℕ → Type 0
IsMostBeside classes key_len most = (len : ℕ) → (has_class_for classes key_len len ≡ true) ↔ (len ≤ most)

-- beside a key of this length no value has a class
abbrev pub LacksClassBeside : Classes → ℕ → Type 0
LacksClassBeside classes key_len = (len : ℕ) → has_class_for classes key_len len ≡ false
