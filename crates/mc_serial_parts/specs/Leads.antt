-- The chunks to which keys lead, by entries in any order.
use Rattle.std.specs.Prelude.{◌≡◌, ℕ, cond, List, Option}
use Rattle.std.specs.Ordering.{nat_cmp}
use Rattle.std.specs.BTreeMap.{is_at}
use Rattle.std.specs.Map.{lookup}
use Rattle.mc_pages.specs.declared.ids.ChunkId.{ChunkId}

-- the chunk to which the key leads
abbrev pub chunk_led_to : List (ℕ × ChunkId) → ℕ → Option ChunkId
chunk_led_to index key = lookup (is_at (nat_cmp key)) index

-- the key leads here now, and any other where it led
abbrev pub IsLed : List (ℕ × ChunkId) → List (ℕ × ChunkId) → ℕ → Option ChunkId → Type 0
IsLed old new key here = (other : ℕ) → chunk_led_to new other ≡ cond (is_at (nat_cmp key) other) here (chunk_led_to old other)
