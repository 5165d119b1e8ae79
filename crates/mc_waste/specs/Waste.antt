-- How much of a chunk its item leaves unused.
use Rattle.std.specs.Prelude.{◌≡◌, ℕ, ◌+◌, ◌-◌, ◌*◌, ◌/◌, ◌==◌, ◌<◌, ◌≤◌, nat_lt, if◌then◌else◌, length, None, Some}
use Rattle.mc_classes.specs.Limits.{most_classes}
use Rattle.mc_classes.specs.declared.config.Config.{Config}
use Rattle.mc_classes.specs.Classes.{Classes, IsTableOf, class_of, size_of}
use Rattle.mc_classes.specs.Refusals.{first_size, config_refusal, rounded_up}

-- the bytes of an item of n words: 24 for its key, stamp and length, and 8 for each word
abbrev pub item_bytes : ℕ → ℕ
item_bytes words = 24 + 8 * words

-- in the table of an accepted configuration an item of n words goes to this class
pub record GoesTo (config : Config) (table : Classes) (words class : ℕ) : Type 0 where
  pub is_accepted : config_refusal config ≡ None
  pub is_table : IsTableOf config table
  pub goes : class_of table (item_bytes words) ≡ Some class

-- n bytes times the factor, rounded down to whole bytes
abbrev pub scaled_size : Config → ℕ → ℕ
scaled_size config bytes = bytes * config.num / config.den

-- the most bytes of a chunk of the class, by the bytes of its item. The class below has no room for the item, and its size is a multiple
-- of 8, so it is 8 bytes less at most. Between the first class and the last the size is that times the factor, rounded up. The last class
-- comes where one more growth would reach it, so its size may be that times the factor twice. A 63rd is the last, however great it is
abbrev pub most_chunk : Config → Classes → ℕ → ℕ → ℕ
most_chunk config table class bytes =
    if class == 1 then first_size config
    else if nat_lt class (length table.sizes) then rounded_up (scaled_size config (bytes - 8))
    else if nat_lt class most_classes then scaled_size config (scaled_size config (bytes - 8))
    else config.max

-- an item leaves less than this percentage of its chunk unused
abbrev pub WastesLessThan : ℕ → ℕ → ℕ → Type 0
WastesLessThan percent bytes size = 100 * (size - bytes) < percent * size

-- the bytes of the smallest item that a class below, if there is one, has no room for
abbrev pub least_item : Classes → ℕ → ℕ
least_item table class = if class == 1 then item_bytes 0 else item_bytes ((size_of table (class - 1) - 24) / 8 + 1)

-- no item of the class leaves more than n bytes of its chunk unused, and one item leaves n
pub record IsWorst (table : Classes) (class waste : ℕ) : Type 0 where
  pub met : (words : ℕ) × (class_of table (item_bytes words) ≡ Some class) × (item_bytes words + waste ≡ size_of table class)
  pub most : (words : ℕ) → class_of table (item_bytes words) ≡ Some class → size_of table class ≤ item_bytes words + waste
