-- The items of a stripe and of a shard, counted by class: which sizes of items a hand found, and the rows to which each was added.
use Rattle.std.specs.Prelude.{◌≡◌, ◌+◌, ◌-◌, ◌*◌, ◌^◌, ◌<◌, ◌≤◌, Bool, false, if◌then◌else◌, nat_eq, replicate, sum_by, ℕ, zero, suc, List, [], ◌++◌, fold, length, min, Option, Some, None, IfSome, ⊤, slice_index, slice_index_or, slice_set}
use Rattle.std.specs.Option.{option_map_or, option_to_list}
use Rattle.mc_classes.specs.Classes.{Classes, class_of}
use Rattle.mc_packing.specs.Packing.{word_count_for}
use Rattle.mc_words.specs.declared.hand.Hand.{Hand}
use Rattle.mc_words.specs.hand.Arenas.{view}
use Rattle.mc_words.specs.hand.View.{Setup}
use Rattle.mc_items.specs.Calls.{FindsStripe}
use Rattle.mc_items.specs.Listing.{HasKeysPut}
use Rattle.mc_shard.specs.declared.class_items.ClassItems.{ClassItems}
use Rattle.mc_shard.specs.declared.class_items.ItemSize.{ItemSize}
use Rattle.mc_shard.specs.Finding.{FindsWords}
use Rattle.mc_shard.specs.Recording.{RecordsGetAtMost}

-- the class whose chunks an item with a key and a value of these lengths gets
abbrev pub class_of_size : Classes → ItemSize → Option ℕ
class_of_size classes size = class_of classes (24 + 8 * (2 + word_count_for size.key + word_count_for size.value))

-- a row without any item
abbrev pub no_items : ClassItems
no_items = record { items = 0; bytes = 0 }

-- a row with an item of this size more; each number stays at 2^64 - 1 once there
abbrev pub row_with : ItemSize → ClassItems → ClassItems
row_with size row = record { items = min (row.items + 1) (2 ^ 64 - 1); bytes = min (row.bytes + (size.key + size.value)) (2 ^ 64 - 1) }

-- the rows with an item of this size more in the row of its class, that of class 1 first; an item whose class has no row is in none
abbrev pub rows_with : Classes → List ClassItems → ItemSize → List ClassItems
rows_with classes rows size = option_map_or (λ class. slice_set rows (class - 1) (row_with size (slice_index_or rows (class - 1) no_items))) (class_of_size classes size) rows

-- the rows with each of these items more
abbrev pub rows_with_items : Classes → List ClassItems → List ItemSize → List ClassItems
rows_with_items classes rows sizes = fold (rows_with classes) rows sizes

-- the item is of this class
abbrev pub is_item_of_class : Classes → ℕ → ItemSize → Bool
is_item_of_class classes class size = option_map_or (λ own. nat_eq own class) (class_of_size classes size) false

-- the row of a class that has just these items: how many are of the class, and how many bytes of keys and values they have
abbrev pub row_of_class : Classes → ℕ → List ItemSize → ClassItems
row_of_class classes class sizes = record {
  items = min (sum_by (λ size. if is_item_of_class classes class size then 1 else 0) sizes) (2 ^ 64 - 1);
  bytes = min (sum_by (λ size. if is_item_of_class classes class size then size.key + size.value else 0) sizes) (2 ^ 64 - 1);
}

-- rows that begin without any item have of each class how many of the items are of it, and their bytes
abbrev pub RowsAreSums : Type 0
RowsAreSums =
    (classes : Classes) (sizes : List ItemSize) (count class : ℕ) → 1 ≤ class → class ≤ count
    → slice_index_or (rows_with_items classes (replicate count no_items) sizes) (class - 1) no_items ≡ row_of_class classes class sizes

-- an item's first two words are the lengths of a key and a value
pub record IsSizeIn (words : List ℕ) (size : ItemSize) : Type 0 where
  pub long : 2 ≤ length words
  pub key : size.key ≡ slice_index words 0
  pub value : size.value ≡ slice_index words 1

-- no item is under the hash, or one of fewer than two words
pub record FindsNoSize (setup : Setup) (hash : ℕ) (before : Hand) : Type 0 where
  pub words : Option (List ℕ)
  pub finds : FindsWords setup hash before words
  pub none : IfSome words (λ words. length words < 2)

-- the item under the hash was of this size; or no item that has a size was there
abbrev pub ShowsSize : Setup → ℕ → Option ItemSize → Hand → Type 0
ShowsSize setup hash (Some size) before = (words : List ℕ) × FindsWords setup hash before (Some words) × IsSizeIn words size
ShowsSize setup hash None before = FindsNoSize setup hash before

-- a look at what is under the hash: the size of the item that was there, or none
pub record LooksForSize (setup : Setup) (hash : ℕ) (found : Option ItemSize) (before now : Hand) : Type 0 where
  pub shows : ShowsSize setup hash found before
  pub calls : RecordsGetAtMost setup hash before now

-- the hand looked each of the first n hashes up, in turn, and these are the sizes of the items that it found
abbrev pub FindsSizesUnder : Setup → List ℕ → ℕ → List ItemSize → Hand → Hand → Type 0
FindsSizesUnder setup hashes zero sizes before now = (sizes ≡ []) × (now ≡ before)
FindsSizesUnder setup hashes (suc place) sizes before now =
    (others : List ItemSize) × (next : Hand) × (found : Option ItemSize)
    × FindsSizesUnder setup hashes place others before next
    × LooksForSize setup (slice_index hashes place) found next now
    × (sizes ≡ others ++ option_to_list found)

-- the hashes of the stripe were listed in one hold of its lock, each once; then each was looked up, and items of these sizes were found
pub record FindsSizes (setup : Setup) (stripe : ℕ) (sizes : List ItemSize) (before now : Hand) : Type 0 where
  pub hashes : List ℕ
  pub between : Hand
  pub lists : FindsStripe (HasKeysPut [] hashes) stripe (view before) (view between)
  pub looks : FindsSizesUnder setup hashes (length hashes) sizes between now

-- the hand did this with each of the first n stripes, from 0 on, one after another, and found items of these sizes in all
abbrev pub FindsSizesBelow : Setup → ℕ → List ItemSize → Hand → Hand → Type 0
FindsSizesBelow setup zero sizes before now = (sizes ≡ []) × (now ≡ before)
FindsSizesBelow setup (suc stripe) sizes before now =
    (others : List ItemSize) × (next : Hand) × (here : List ItemSize)
    × FindsSizesBelow setup stripe others before next
    × FindsSizes setup stripe here next now
    × (sizes ≡ others ++ here)

-- the hand went over all stripes of the shard, and found items of these sizes
abbrev pub FindsSizesInAll : Setup → List ItemSize → Hand → Hand → Type 0
FindsSizesInAll setup sizes before now = FindsSizesBelow setup setup.config.stripes sizes before now

-- items of some sizes were found, and each was added to the row of its class
pub record AddsFound (Finds : List ItemSize → Type 0) (classes : Classes) (old new : List ClassItems) : Type 0 where
  pub sizes : List ItemSize
  pub finds : Finds sizes
  pub added : new ≡ rows_with_items classes old sizes

-- each item that the hand found under these hashes was added to the row of its class
abbrev pub CountsHashesByClass : Setup → List ℕ → List ClassItems → List ClassItems → Hand → Hand → Type 0
CountsHashesByClass setup hashes old new before now = AddsFound (λ sizes. FindsSizesUnder setup hashes (length hashes) sizes before now) setup.table old new

-- each item that the hand found in the stripe was added to the row of its class
abbrev pub CountsStripeByClass : Setup → ℕ → List ClassItems → List ClassItems → Hand → Hand → Type 0
CountsStripeByClass setup stripe old new before now = AddsFound (λ sizes. FindsSizes setup stripe sizes before now) setup.table old new

-- each item that the hand found in the shard was added to the row of its class
abbrev pub CountsShardByClass : Setup → List ClassItems → List ClassItems → Hand → Hand → Type 0
CountsShardByClass setup old new before now = AddsFound (λ sizes. FindsSizesInAll setup sizes before now) setup.table old new

-- some items were added to the rows of their classes
abbrev pub AddsSomeItems : Classes → List ClassItems → List ClassItems → Type 0
AddsSomeItems classes old new = AddsFound (λ sizes. ⊤) classes old new
