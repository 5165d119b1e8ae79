-- What is read of the bytes under a root key.
use Rattle.std.specs.Prelude.{◌≡◌, ◌≤◌, ◌++◌, ℕ, List, []}
use Rattle.mc_packing.specs.Packing.{AreWords, bytes_of_word}
use Rattle.mc_large.specs.Roots.{IsLargeRoot, IsNoRoot, bytes_of_versions, most_large_value, small_root}
use Rattle.mc_large.specs.declared.roots.Content.{Content}
use Rattle.mc_large.specs.declared.roots.Content.TheVariants.{Small, Large, Nothing}

-- the bytes are the root of a small value, or of a length and these versions, or no root. Only a root of the second kind has versions
abbrev pub HasContent : List ℕ → List ℕ → Content → Type 0
HasContent root versions (Small value) = (root ≡ small_root value.now) × (versions ≡ [])
HasContent root versions (Large len) = IsLargeRoot root len versions
HasContent root versions Nothing = IsNoRoot root × (versions ≡ [])

-- the bytes begin with those of a length of at most 1 MiB
pub record IsLength (bytes : List ℕ) (len : ℕ) (rest : List ℕ) : Type 0 where
  pub is_length : bytes ≡ bytes_of_word len ++ rest
  pub within_limit : len ≤ most_large_value

-- the bytes begin with no such length
abbrev pub LacksLength : List ℕ → Type 0
LacksLength bytes = (len : ℕ) (rest : List ℕ) → IsLength bytes len rest → ⊥

-- the bytes are those of these versions
pub record AreVersions (bytes versions : List ℕ) : Type 0 where
  pub are : bytes ≡ bytes_of_versions versions
  pub are_words : AreWords versions
