-- How a large value is cut into pieces, one for each part.
use Rattle.std.specs.Prelude.{◌≡◌, ℕ, ◌≤◌, List, [], ◌∷◌, length}
use Rattle.std.specs.Int.{div_ceil}
use Rattle.std.specs.List.{concat}

-- each piece fills the room of a part, but the last one, which has one byte at least
abbrev pub FillParts : ℕ → List (List ℕ) → Type 0
FillParts room [] = Unit {0}
FillParts room (last ∷ []) = (1 ≤ length last) × (length last ≤ room)
FillParts room (piece ∷ next ∷ more) = (length piece ≡ room) × FillParts room (next ∷ more)

-- the pieces put together are the value, and each fills the room of a part, but the last one
pub record IsCutInto (room : ℕ) (value : List ℕ) (pieces : List (List ℕ)) : Type 0 where
  pub together : concat pieces ≡ value
  pub fill : FillParts room pieces

-- how many parts a value of n bytes has, where a part has room for so many bytes
abbrev pub part_count : ℕ → ℕ → ℕ
part_count room len = div_ceil len room

-- *a value is cut in one way*
abbrev pub CutsAreUnique : Type 0
CutsAreUnique = (room : ℕ) (value : List ℕ) (pieces others : List (List ℕ)) → 1 ≤ room → IsCutInto room value pieces → IsCutInto room value others → pieces ≡ others

-- *a value has as many pieces as its length asks for*
abbrev pub PiecesAreCounted : Type 0
PiecesAreCounted = (room : ℕ) (value : List ℕ) (pieces : List (List ℕ)) → 1 ≤ room → IsCutInto room value pieces → length pieces ≡ part_count room (length value)
