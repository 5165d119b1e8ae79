-- Worked cases of items counted by class, which the prover computes.
use Rattle.std.specs.Prelude.{◌≡◌, ◌-◌, ◌^◌, [], ◌∷◌, ◌++◌, List}
use Rattle.mc_classes.specs.Classes.{Classes}
use Rattle.mc_words.specs.declared.hand.Hand.{Hand}
use Rattle.mc_words.specs.hand.View.{Setup}
use Rattle.mc_shard.specs.declared.class_items.ClassItems.{ClassItems}
use Rattle.mc_shard.specs.declared.class_items.ItemSize.{ItemSize}
use Rattle.mc_shard.specs.ClassItems.{FindsSizes, FindsSizesBelow, no_items, rows_with_items}

-- two classes, of 64 and of 128 bytes
abbrev pub table_of_two : Classes
table_of_two = record { page = 1024; limit = 4096; sizes = 64 ∷ 128 ∷ [] }

-- two rows without any item
abbrev pub two_rows : List ClassItems
two_rows = no_items ∷ no_items ∷ []

-- an item of 3 and 10 bytes takes 64 with its head and its words, and 13 are of its key and its value
abbrev pub BothLengthsCount : Type 0
BothLengthsCount = rows_with_items table_of_two two_rows (record { key = 3; value = 10 } ∷ []) ≡ record { items = 1; bytes = 13 } ∷ no_items ∷ []

-- an item that takes 64 bytes is of the first class, and one that takes 72 of the second
abbrev pub EachHasItsClass : Type 0
EachHasItsClass =
    rows_with_items table_of_two two_rows (record { key = 3; value = 16 } ∷ record { key = 3; value = 17 } ∷ record { key = 8; value = 16 } ∷ []) ≡ record { items = 2; bytes = 43 } ∷ record { items = 1; bytes = 20 } ∷ []

-- an item that takes more than 128 bytes is in no row
abbrev pub TooLargeIsInNone : Type 0
TooLargeIsInNone = rows_with_items table_of_two two_rows (record { key = 9; value = 73 } ∷ []) ≡ two_rows

-- each number stays at 2^64 - 1 once there
abbrev pub RowsStay : Type 0
RowsStay = rows_with_items table_of_two (record { items = 2 ^ 64 - 1; bytes = 2 ^ 64 - 3 } ∷ []) (record { key = 1; value = 2 } ∷ []) ≡ record { items = 2 ^ 64 - 1; bytes = 2 ^ 64 - 1 } ∷ []

-- the items of two stripes are those of stripe 0, and then those of stripe 1
pub record FindsInTwo (setup : Setup) (sizes : List ItemSize) (before now : Hand) : Type 0 where
  pub first : List ItemSize
  pub second : List ItemSize
  pub between : Hand
  pub finds_first : FindsSizes setup 0 first before between
  pub finds_second : FindsSizes setup 1 second between now
  pub all : sizes ≡ first ++ second

-- no stripe is left out of two
abbrev pub EachStripeCounts : Type 0
EachStripeCounts = (setup : Setup) (sizes : List ItemSize) (before now : Hand) → FindsSizesBelow setup 2 sizes before now → FindsInTwo setup sizes before now
