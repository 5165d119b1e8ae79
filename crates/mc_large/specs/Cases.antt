-- Worked cases of keys, roots and pieces, which the prover computes.
use Rattle.std.specs.Prelude.{◌≡◌, ◌∷◌, []}
use Rattle.mc_large.specs.Keys.{part_key, root_key}
use Rattle.mc_large.specs.Pieces.{IsCutInto, part_count}
use Rattle.mc_large.specs.Roots.{large_root, small_root}

-- the key of one byte 7: its root, and its part 258
abbrev pub WorkedKeys : Type 0
WorkedKeys = (root_key (7 ∷ []) ≡ 0 ∷ 7 ∷ []) × (part_key (7 ∷ []) 258 ≡ 1 ∷ 2 ∷ 1 ∷ 0 ∷ 0 ∷ 7 ∷ [])

-- the root of no byte, and that of 9 bytes in two parts of versions 258 and 3
abbrev pub WorkedRoots : Type 0
WorkedRoots =
    (small_root [] ≡ 0 ∷ [])
    × (large_root 9 (258 ∷ 3 ∷ []) ≡ 1 ∷ 9 ∷ 0 ∷ 0 ∷ 0 ∷ 0 ∷ 0 ∷ 0 ∷ 0 ∷ 2 ∷ 1 ∷ 0 ∷ 0 ∷ 0 ∷ 0 ∷ 0 ∷ 0 ∷ 3 ∷ 0 ∷ 0 ∷ 0 ∷ 0 ∷ 0 ∷ 0 ∷ 0 ∷ [])

-- in parts of three bytes seven bytes are three pieces, six bytes are two, and no byte is none
abbrev pub WorkedPieces : Type 0
WorkedPieces =
    IsCutInto 3 (1 ∷ 2 ∷ 3 ∷ 4 ∷ 5 ∷ 6 ∷ 7 ∷ []) ((1 ∷ 2 ∷ 3 ∷ []) ∷ (4 ∷ 5 ∷ 6 ∷ []) ∷ (7 ∷ []) ∷ [])
    × IsCutInto 3 (1 ∷ 2 ∷ 3 ∷ 4 ∷ 5 ∷ 6 ∷ []) ((1 ∷ 2 ∷ 3 ∷ []) ∷ (4 ∷ 5 ∷ 6 ∷ []) ∷ [])
    × IsCutInto 3 [] []
    × (part_count 3 7 ≡ 3)
    × (part_count 3 6 ≡ 2)
    × (part_count 3 0 ≡ 0)

-- pieces that aren't full, but the last one, are no cut
abbrev pub NoCut : Type 0
NoCut = IsCutInto 3 (1 ∷ 2 ∷ 3 ∷ 4 ∷ []) ((1 ∷ 2 ∷ []) ∷ (3 ∷ 4 ∷ []) ∷ []) → ⊥
