-- A value has a class just where its item is no larger than the chunks of the last class.
use Rattle.std.proofs.Common.{◌≡◌, ℕ, ◌+◌, ◌-◌, ◌*◌, ◌/◌, ◌<◌, ◌≤◌, Bool, true, false, nat_le, option_map, Option, None, Some, is_some, nat_lt, get_or, length, arith, refl, cond}
use Rattle.std.specs.List.{position_or_len}
use Rattle.std.proofs.lemmas.Bool.{leb-false, leb-true, ltb-false}
use Rattle.std.proofs.lemmas.List.Sums.{fails_before_first}
use Rattle.mc_classes.specs.Classes.{Classes, IsSound, class_of, size_of}
use Rattle.mc_classes.proofs.ClassOf.{class_fits}
use Rattle.mc_packing.specs.Packing.{word_count_for}
use Rattle.mc_shard.specs.Sizes.{IsMostBeside, LacksClassBeside, has_class_for}

-- the bytes of a chunk of the last class
abbrev pub last_size : Classes → ℕ
last_size classes = size_of classes (length classes.sizes)

-- what is larger than that has no class
pub no_class : (classes : Classes) → IsSound classes → (bytes : ℕ) (found : Option ℕ) → class_of classes bytes ≡ found → last_size classes < bytes → is_some found ≡ false
no_class classes sound bytes None is more = refl
no_class classes sound bytes (Some class) is more =
    let fits = class_fits classes bytes class is in
    absurd (omega (arith, fits.1, sound.order class (length classes.sizes) fits.0 (sound.count.0, omega arith) fits.0.1))

-- what is no larger has one
pub some_class : (classes : Classes) → IsSound classes → (bytes : ℕ) → bytes ≤ last_size classes → is_some (class_of classes bytes) ≡ true
some_class classes sound bytes fits = found (nat_lt (position_or_len (λ size. nat_le bytes size) classes.sizes) (length classes.sizes)) refl
  where
    found : (b : Bool) → nat_lt (position_or_len (λ size. nat_le bytes size) classes.sizes) (length classes.sizes) ≡ b
        → is_some (option_map (λ place. place + 1) (cond b (Some (position_or_len (λ size. nat_le bytes size) classes.sizes)) None)) ≡ true
    found true is = refl
    found false is =
        let past = ltb-false (position_or_len (λ size. nat_le bytes size) classes.sizes) (length classes.sizes) is in
        let fails = fails_before_first (λ size. nat_le bytes size) classes.sizes (length classes.sizes - 1) 0 (omega (arith, past, sound.count.0)) in
        absurd (omega (arith, fits, leb-false bytes (get_or classes.sizes (length classes.sizes - 1) 0) fails))

-- a class for a value is one for its item's bytes
pub most_beside : (classes : Classes) → IsSound classes → (key_len most : ℕ) → (most ≡ 8 * (last_size classes / 8 - (5 + word_count_for key_len))) → 5 + word_count_for key_len ≤ last_size classes / 8 → IsMostBeside classes key_len most
most_beside classes sound key_len most is fits len = (below, above)
  where
    bytes : ℕ
    bytes = 24 + 8 * (2 + word_count_for key_len + word_count_for len)

    below : has_class_for classes key_len len ≡ true → len ≤ most
    below has = at_most (nat_le len most) refl
      where
        at_most : (b : Bool) → nat_le len most ≡ b → len ≤ most
        at_most true less = leb-true len most less
        at_most false more =
            let none = no_class classes sound bytes (class_of classes bytes) refl (omega (arith, leb-false len most more, is, fits)) in
            absurd (cc)

    above : len ≤ most → has_class_for classes key_len len ≡ true
    above less = some_class classes sound bytes (omega (arith, less, is, fits))

pub lacks_beside : (classes : Classes) → IsSound classes → (key_len : ℕ) → last_size classes / 8 < 5 + word_count_for key_len → LacksClassBeside classes key_len
lacks_beside classes sound key_len less len =
    no_class classes sound (24 + 8 * (2 + word_count_for key_len + word_count_for len)) (class_of classes (24 + 8 * (2 + word_count_for key_len + word_count_for len))) refl (omega (arith, less))
