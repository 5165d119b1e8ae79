-- Worked packings, which the prover computes.
use Rattle.std.specs.Prelude.{◌≡◌, [], ◌∷◌}
use Rattle.mc_packing.specs.Packing.{IsPackingOf, packed_item, value_in}

-- a key of one byte and no value: two lengths, and a word for the key
abbrev pub NoValue : Type 0
NoValue = packed_item (107 ∷ []) [] ≡ 1 ∷ 0 ∷ 107 ∷ []

-- nine bytes fill a word and begin another, and the value begins a word of its own: 0x0807060504030201, 0x09, 0x0201
abbrev pub NineBytes : Type 0
NineBytes = packed_item (1 ∷ 2 ∷ 3 ∷ 4 ∷ 5 ∷ 6 ∷ 7 ∷ 8 ∷ 9 ∷ []) (1 ∷ 2 ∷ []) ≡ 9 ∷ 2 ∷ 578437695752307201 ∷ 9 ∷ 513 ∷ []

-- a byte that is 0 counts: these two keys write the same word, and differ in their length
abbrev pub ZerosCount : Type 0
ZerosCount = (packed_item (5 ∷ []) [] ≡ 1 ∷ 0 ∷ 5 ∷ []) × (packed_item (5 ∷ 0 ∷ []) [] ≡ 2 ∷ 0 ∷ 5 ∷ [])

-- a word more, or a byte where the packing has zeros, and the words are a packing of no key
abbrev pub NoPackings : Type 0
NoPackings = (¬ IsPackingOf (5 ∷ []) (1 ∷ 0 ∷ 5 ∷ 0 ∷ [])) × (¬ IsPackingOf (5 ∷ []) (1 ∷ 1 ∷ 5 ∷ 256 ∷ []))

-- a worked case of the value that is read
abbrev pub ValueRead : Type 0
ValueRead = value_in (1 ∷ 2 ∷ 5 ∷ 513 ∷ []) ≡ 1 ∷ 2 ∷ []
