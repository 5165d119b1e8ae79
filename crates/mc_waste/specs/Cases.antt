-- Worked tables: their sizes, what their chunks leave unused, and what each part of the bound is for.
use Rattle.std.specs.Prelude.{◌≡◌, ℕ, ◌-◌, [], ◌∷◌, ◌++◌, Some}
use Rattle.std.specs.List.{repeat}
use Rattle.mc_classes.specs.declared.config.Config.{Config}
use Rattle.mc_classes.specs.Classes.{class_of, size_of}
use Rattle.mc_classes.specs.Refusals.{rounded_up}
use Rattle.mc_waste.specs.Waste.{scaled_size, item_bytes, most_chunk}
use Rattle.mc_waste.specs.Tables.{table_of, wastes_of}

-- four pages of 1,024 bytes and a first size of 48, with this factor and this greatest size
abbrev pub small : ℕ → ℕ → ℕ → Config
small num den max = record { page = 1024; limit = 4096; first = 48; num = num; den = den; max = max; stripes = 4; bulk = 64 }

-- 64 pages of 16,384 bytes, a first size of 64, a factor of 5/4, and a page as the greatest size
abbrev pub large : Config
large = record { page = 16384; limit = 1048576; first = 64; num = 5; den = 4; max = 16384; stripes = 4; bulk = 64 }

-- the defaults of the program's options: a factor of 2, and a greatest size of 512
abbrev pub DefaultSizes : Type 0
DefaultSizes = (table_of (small 2 1 512)).sizes ≡ 48 ∷ 96 ∷ 192 ∷ 512 ∷ []

-- the most that an item leaves unused in each class, with the defaults of the program's options
abbrev pub DefaultWastes : Type 0
DefaultWastes = wastes_of (table_of (small 2 1 512)) ≡ Some 24 ∷ Some 40 ∷ Some 88 ∷ Some 312 ∷ []

-- the class sizes with a factor of 5/4 and a greatest size of 512
abbrev pub FinerSizes : Type 0
FinerSizes = (table_of (small 5 4 512)).sizes ≡ 48 ∷ 64 ∷ 80 ∷ 104 ∷ 136 ∷ 176 ∷ 224 ∷ 280 ∷ 352 ∷ 512 ∷ []

-- the most that an item leaves unused in each class, with a factor of 5/4 and a greatest size of 512
abbrev pub FinerWastes : Type 0
FinerWastes = wastes_of (table_of (small 5 4 512))
    ≡ Some 24 ∷ Some 8 ∷ Some 8 ∷ Some 16 ∷ Some 24 ∷ Some 32 ∷ Some 40 ∷ Some 48 ∷ Some 64 ∷ Some 152 ∷ []

-- the 25 sizes of the large pages
abbrev pub LargeSizes : Type 0
LargeSizes = (table_of large).sizes
    ≡ 64 ∷ 80 ∷ 104 ∷ 136 ∷ 176 ∷ 224 ∷ 280 ∷ 352 ∷ 440 ∷ 552 ∷ 696 ∷ 872 ∷ 1096 ∷ 1376 ∷ 1720 ∷ 2152 ∷ 2696 ∷ 3376 ∷ 4224 ∷ 5280 ∷ 6600 ∷ 8256 ∷ 10320 ∷ 12904 ∷ 16384 ∷ []

-- the most that an item leaves unused in each class of the large configuration
abbrev pub LargeWastes : Type 0
LargeWastes = wastes_of (table_of large)
    ≡ Some 40 ∷ Some 8 ∷ Some 16 ∷ Some 24 ∷ Some 32 ∷ Some 40 ∷ Some 48 ∷ Some 64 ∷ Some 80 ∷ Some 104 ∷ Some 136 ∷ Some 168 ∷ Some 216 ∷ Some 272 ∷ Some 336 ∷ Some 424 ∷ Some 536 ∷ Some 672 ∷ Some 840 ∷ Some 1048 ∷ Some 1312 ∷ Some 1648 ∷ Some 2056 ∷ Some 2576 ∷ Some 3472 ∷ []

-- with no rounding the bound would be wrong: an item of 88 bytes is above a chunk of 80, has one of 104, and 5/4 of 80 is 100
abbrev pub RoundingCounts : Type 0
RoundingCounts =
    (class_of (table_of large) (item_bytes 8) ≡ Some 3) × (size_of (table_of large) 3 ≡ 104)
    × (scaled_size large (item_bytes 8 - 8) ≡ 100) × (most_chunk large (table_of large) 3 (item_bytes 8) ≡ 104)

-- with the factor once the bound would be wrong in the last class: an item of 200 bytes doesn't fit a chunk of 192, has one of 512, and
-- twice 192 is 384
abbrev pub LastIsMore : Type 0
LastIsMore =
    (class_of (table_of (small 2 1 512)) (item_bytes 22) ≡ Some 4) × (size_of (table_of (small 2 1 512)) 4 ≡ 512)
    × (rounded_up (scaled_size (small 2 1 512) (item_bytes 22 - 8)) ≡ 384)

-- with the factor twice the bound is met in the last class: the greatest size may be four times 192
abbrev pub LastIsMet : Type 0
LastIsMet =
    (class_of (table_of (small 2 1 768)) (item_bytes 22) ≡ Some 4) × (size_of (table_of (small 2 1 768)) 4 ≡ 768)
    × (most_chunk (small 2 1 768) (table_of (small 2 1 768)) 4 (item_bytes 22) ≡ 768)

-- a factor of 101/100 leaves a size of 48 as it is. So the 63rd class is the only other one, and an item of 56 bytes goes there
abbrev pub SizesStandStill : Type 0
SizesStandStill =
    ((table_of (small 101 100 512)).sizes ≡ repeat 62 (48 ∷ []) ++ 512 ∷ [])
    × (class_of (table_of (small 101 100 512)) (item_bytes 4) ≡ Some 63)
