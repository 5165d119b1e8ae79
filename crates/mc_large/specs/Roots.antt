-- The bytes of a root: a small value, or the length of a large one and the versions of its parts.
use Rattle.std.specs.Prelude.{◌≡◌, ◌≢◌, ◌≤◌, ℕ, List, ◌∷◌, ◌++◌, length}
use Rattle.std.specs.List.{flat_map}
use Rattle.mc_packing.specs.Packing.{AreWords, bytes_of_word}

-- the most bytes of a value
abbrev pub most_large_value : ℕ
most_large_value = 1048576

-- the bytes of versions, eight for each, the lowest first
abbrev pub bytes_of_versions : List ℕ → List ℕ
bytes_of_versions versions = flat_map bytes_of_word versions

-- the root of a small value: a byte of 0, and the value
abbrev pub small_root : List ℕ → List ℕ
small_root value = 0 ∷ value

-- the root of a value in parts: a byte of 1, the length of the value in eight bytes, and the version of each part in order
abbrev pub large_root : ℕ → List ℕ → List ℕ
large_root len versions = 1 ∷ (bytes_of_word len ++ bytes_of_versions versions)

-- the root of a value of at most 1 MiB in parts of these versions, of which each has a byte at least
pub record IsLargeRoot (root : List ℕ) (len : ℕ) (versions : List ℕ) : Type 0 where
  pub is_root : root ≡ large_root len versions
  pub within_limit : len ≤ most_large_value
  pub few : length versions ≤ len
  pub are_words : AreWords versions

-- the bytes are no root: of no small value, and of no length with versions
pub record IsNoRoot (bytes : List ℕ) : Type 0 where
  pub no_small : (value : List ℕ) → bytes ≢ small_root value
  pub no_large : (len : ℕ) (versions : List ℕ) → IsLargeRoot bytes len versions → ⊥

-- *bytes are the root of one small value, or of one length and one list of versions, and never of both*
pub record RootsAreUnique : Type 0 where
  pub small : (value other : List ℕ) → small_root value ≡ small_root other → value ≡ other
  pub large : (root : List ℕ) (len other : ℕ) (versions others : List ℕ) → IsLargeRoot root len versions → IsLargeRoot root other others → (len ≡ other) × (versions ≡ others)
  pub one : (root value : List ℕ) (len : ℕ) (versions : List ℕ) → root ≡ small_root value → IsLargeRoot root len versions → ⊥
