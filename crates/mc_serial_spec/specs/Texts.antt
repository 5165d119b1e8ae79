-- The replies that are one line, as functions of numbers. Those of several lines are mc_watch's.
use Rattle.std.specs.Prelude.{ℕ, List, [], ◌∷◌, ◌++◌, length, codes, decimal, flat_map}
use Rattle.mc_watch.specs.Texts.{line}
use Rattle.mc_serial_spec.specs.declared.turn.Counts.{Counts}
use Rattle.mc_serial_spec.specs.declared.turn.Ending.{Ending}
use Rattle.mc_serial_spec.specs.declared.turn.Ending.TheVariants.{Idle, Went, Finished}

-- an answer about a key
abbrev pub key_line : List ℕ → ℕ → List ℕ
key_line answer key = line (answer ++ codes " " ++ decimal key)

-- words after an answer, a space before each
abbrev pub spaced_words : List ℕ → List ℕ
spaced_words words = flat_map (λ word. codes " " ++ decimal word) words

-- an answer about a key, with the item's words
abbrev pub words_line : List ℕ → ℕ → List ℕ → List ℕ
words_line answer key words = line (answer ++ codes " " ++ decimal key ++ codes " " ++ decimal (length words) ++ spaced_words words)

-- the word for how the last turn ended
abbrev pub ending_word : Ending → List ℕ
ending_word Idle = codes "IDLE"
ending_word Went = codes "WENT"
ending_word Finished = codes "FINISHED"

-- what some turns did
abbrev pub turn_line : Ending → Counts → List ℕ
turn_line ending counts =
    line (codes "TURN " ++ ending_word ending ++ spaced_words (counts.cleared ∷ counts.rescued ∷ counts.evicted ∷ counts.busy ∷ counts.locked ∷ []))
