-- The keys of the items that have a value: of its root, and of each of its parts.
use Rattle.std.specs.Prelude.{◌≡◌, ◌≢◌, ◌≤◌, ◌<◌, ◌^◌, ℕ, List, ◌∷◌, ◌++◌, length}
use Rattle.std.specs.Int.{w32, to_le_bytes}
use Rattle.mc_cache.specs.Shards.{IsKey}

-- a key of this crate has 1 to 245 bytes
abbrev pub IsLargeKey : List ℕ → Type 0
IsLargeKey key = (1 ≤ length key) × (length key ≤ 245)

-- the key of the root of a key's value: a byte of 0, and the key
abbrev pub root_key : List ℕ → List ℕ
root_key key = 0 ∷ key

-- the key of a part of a key's value: a byte of 1, the number of the part in four bytes, the lowest first, and the key. Parts are numbered from 0
abbrev pub part_key : List ℕ → ℕ → List ℕ
part_key key number = 1 ∷ (to_le_bytes w32 number ++ key)

-- *no root key is a part key*
abbrev pub RootsAreNoParts : Type 0
RootsAreNoParts = (key other : List ℕ) (number : ℕ) → root_key key ≢ part_key other number

-- *a root key is that of one key*
abbrev pub RootsAreApart : Type 0
RootsAreApart = (key other : List ℕ) → root_key key ≡ root_key other → key ≡ other

-- *a part key is that of one key and of one number*
abbrev pub PartsAreApart : Type 0
PartsAreApart =
    (key other : List ℕ) (number another : ℕ) → number < 2 ^ 32 → another < 2 ^ 32 → part_key key number ≡ part_key other another → (key ≡ other) × (number ≡ another)

-- *the cache takes the root key and the part keys of a key*
abbrev pub KeysAreTaken : Type 0
KeysAreTaken = (key : List ℕ) (number : ℕ) → IsLargeKey key → IsKey (root_key key) × IsKey (part_key key number)
