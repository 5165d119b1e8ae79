-- The lines of a map's text that show how pages changed hands.
use Rattle.std.specs.Prelude.{ℕ, ◌+◌, ◌==◌, Bool, false, if◌then◌else◌, List, [], ◌∷◌, ◌++◌, length, codes, decimal, flat_map, slice_index_or}
use Rattle.std.specs.List.{range_with_len}
use Rattle.mc_pages.specs.declared.ledger.Entry.{Entry}
use Rattle.mc_pages.specs.declared.ledger.Entry.TheVariants.{Granted, Taken, Began, Ended}

-- where a page goes: to a class, or to the pool, which is 0
abbrev pub goal_text : ℕ → List ℕ
goal_text class = if class == 0 then codes " to the pool" else codes " to class " ++ decimal class

-- the text that a page began to move
abbrev pub began_text : ℕ → ℕ → List ℕ
began_text page src = codes "page " ++ (decimal page ++ (codes " began to move from class " ++ decimal src))

-- the text that a page was granted beyond the limit, or none where it wasn't
abbrev pub grace_text : Bool → List ℕ
grace_text grace = if grace then codes ", its first, beyond the limit" else []

-- the text of an entry of the ledger
abbrev pub entry_text : Entry → List ℕ
entry_text (Granted page class grace) = codes "page " ++ decimal page ++ codes " was granted to class " ++ decimal class ++ grace_text grace
entry_text (Taken page class) = codes "page " ++ decimal page ++ codes " came from the pool to class " ++ decimal class
entry_text (Began page src dst) = began_text page src ++ goal_text dst
entry_text (Ended page dst) = (codes "page " ++ decimal page ++ codes " has come") ++ goal_text dst

-- the line of an entry with this number
abbrev pub entry_line : ℕ → Entry → List ℕ
entry_line number entry = (codes "  " ++ decimal number ++ codes ": ") ++ entry_text entry ++ codes "\n"

-- the lines of the first n entries, numbered from 1
abbrev pub entry_lines : List Entry → ℕ → List ℕ
entry_lines entries count = flat_map (λ place. entry_line (place + 1) (slice_index_or entries place (Granted 0 0 false))) (range_with_len 0 count)

-- the text of the ledger
abbrev pub ledger_text : List Entry → List ℕ
ledger_text [] = codes "\nledger\n  no page changed hands\n"
ledger_text (entry ∷ more) = codes "\nledger\n" ++ entry_lines (entry ∷ more) (length (entry ∷ more))
