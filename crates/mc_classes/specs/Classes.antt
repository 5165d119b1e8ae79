-- The size classes of a slab memory.
use Rattle.std.specs.Prelude.{◌≡◌, ℕ, ◌+◌, ◌-◌, ◌*◌, ◌/◌, ◌^◌, ◌<◌, ◌≤◌, IsTrue, nat_le, List, length, slice_get, slice_index, position, Option, Some}
use Rattle.std.specs.Option.{option_map}
use Rattle.mc_classes.specs.declared.config.Config.{Config}
use Rattle.mc_classes.specs.Limits.{least_page_bytes, most_page_bytes, most_pages, most_classes, most_page_chunks}
use Rattle.mc_classes.specs.Refusals.{rounded_up, is_below_max}

-- the bytes of a page, the bytes that may be granted but for first pages of classes, and the size of each class, class 1 first
pub record Classes : Type 0 where
  pub page : ℕ
  pub limit : ℕ
  pub sizes : List ℕ

-- how many pages may be granted within the limit
abbrev pub page_limit : Classes → ℕ
page_limit classes = classes.limit / classes.page

-- how many pages there are: those within the limit, and for each class one more, which it may get as its first
abbrev pub arena_pages_of : Classes → ℕ
arena_pages_of classes = page_limit classes + length classes.sizes

-- this is the number of a class of the table: classes are numbered from 1
abbrev pub IsClass : Classes → ℕ → Type 0
IsClass classes class = (1 ≤ class) × (class ≤ length classes.sizes)

-- the bytes of a chunk of the class
abbrev pub size_of : Classes → ℕ → ℕ
size_of classes class = slice_index classes.sizes (class - 1)

-- the chunks of a page of the class
abbrev pub per_page_of : Classes → ℕ → ℕ
per_page_of classes class = classes.page / size_of classes class

-- the lowest class whose size is at least n bytes
abbrev pub class_of : Classes → ℕ → Option ℕ
class_of classes bytes = option_map (λ place. place + 1) (position (λ size. nat_le bytes size) classes.sizes)

-- one class before the last: its raw size is low enough, its size is the raw size rounded up, and the factor gives the next raw size
pub record IsStep (config : Config) (raw size next : ℕ) : Type 0 where
  pub below : IsTrue (is_below_max config raw)
  pub raised : size ≡ rounded_up raw
  pub grown : next ≡ size * config.num / config.den

-- the class sizes come from these raw sizes by the configuration's steps
pub record ComesFrom (config : Config) (raws sizes : List ℕ) : Type 0 where
  pub paired : length raws ≡ length sizes
  pub begins : slice_get raws 0 ≡ Some config.first
  pub steps : (i : ℕ) → i + 1 < length sizes → IsStep config (slice_index raws i) (slice_index sizes i) (slice_index raws (i + 1))
  pub last : slice_get sizes (length sizes - 1) ≡ Some config.max
  pub most : length sizes ≤ most_classes
  pub ends : length sizes < most_classes → config.max * config.den ≤ slice_index raws (length raws - 1) * config.num

-- some raw sizes exist from which the table's sizes come
pub record IsTableOf (config : Config) (classes : Classes) : Type 0 where
  pub page : classes.page ≡ config.page
  pub limit : classes.limit ≡ config.limit
  pub raws : List ℕ
  pub comes : ComesFrom config raws classes.sizes

-- what every table keeps: its numbers are within the limits, its classes have 24 bytes to a page, and none is smaller than a lower one
pub record IsSound (classes : Classes) : Type 0 where
  pub page : (least_page_bytes ≤ classes.page) × (classes.page ≤ most_page_bytes)
  pub limit : classes.limit < 2 ^ 64
  pub pages : (1 ≤ page_limit classes) × (page_limit classes ≤ most_pages)
  pub count : (1 ≤ length classes.sizes) × (length classes.sizes ≤ most_classes)
  pub sizes : (class : ℕ) → IsClass classes class → (24 ≤ size_of classes class) × (size_of classes class ≤ classes.page)
  pub chunks : (class : ℕ) → IsClass classes class → (1 ≤ per_page_of classes class) × (per_page_of classes class ≤ most_page_chunks)
  pub order : (low high : ℕ) → IsClass classes low → IsClass classes high → low ≤ high → size_of classes low ≤ size_of classes high
