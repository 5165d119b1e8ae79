-- The lines of a map's text that show where a page is on its move, and what holds the move up.
use Rattle.std.specs.Prelude.{ℕ, Bool, if◌then◌else◌, List, [], ◌∷◌, ◌++◌, codes, decimal, flat_map, Option, Some, None}
use Rattle.mc_pages.specs.declared.ids.Moving.{Moving}
use Rattle.mc_map.specs.declared.hang.Blocker.{Blocker}
use Rattle.mc_map.specs.declared.hang.Hang.{Hang}
use Rattle.mc_map.specs.declared.hang.Hang.TheVariants.{Idle, Found, Unknown}
use Rattle.mc_picture.specs.Lines.{goal_text}

-- the text of a chunk that holds a move up, and of the key of its item
abbrev pub chunk_and_key_text : ℕ → ℕ → List ℕ
chunk_and_key_text chunk key = codes "  chunk " ++ (decimal chunk ++ (codes " hangs: key " ++ decimal key))

-- the text that an item is held, and whether its key leads to it
abbrev pub held_text : Bool → List ℕ
held_text linked = if linked then codes " is held by worker" else codes ", which leads to it no more, is held by worker"

-- the numbers of the workers that hold the item, once for each hold
abbrev pub workers_text : List ℕ → List ℕ
workers_text workers = flat_map (λ worker. codes " " ++ decimal worker) workers

-- the line of a chunk that holds the move up
unfoldable pub blocker_line : Blocker → List ℕ
blocker_line blocker = chunk_and_key_text blocker.chunk blocker.key ++ (held_text blocker.linked ++ (workers_text blocker.workers.items ++ codes "\n"))

-- the lines of these chunks
abbrev pub blockers_text : List Blocker → List ℕ
blockers_text [] = codes "  nothing holds it up\n"
blockers_text (blocker ∷ more) = flat_map blocker_line (blocker ∷ more)

-- the text of what holds the move up
abbrev pub hang_text : Hang → List ℕ
hang_text Idle = []
hang_text (Found blockers) = blockers_text blockers.items
hang_text Unknown = codes "  what holds it up takes too many looks to find\n"

-- the text of which page moves, and from where
abbrev pub moving_page_text : Moving → List ℕ
moving_page_text moving = codes "  page " ++ (decimal moving.page ++ (codes " moves from class " ++ decimal moving.src))

-- the text of the mover's place among n chunks, and of how many were held in this pass
abbrev pub position_text : Moving → ℕ → List ℕ
position_text moving chunks =
    codes ": the mover is at chunk " ++ (decimal moving.at ++ (codes " of " ++ (decimal chunks ++ (codes ", " ++ (decimal moving.busy ++ codes " held it up in this pass\n")))))

-- the text of the move: its page, its goal, its place, and what holds it up
abbrev pub move_text : Option Moving → ℕ → Hang → List ℕ
move_text None chunks hang = codes "\nmove\n  no page moves\n"
move_text (Some moving) chunks hang = codes "\nmove\n" ++ (moving_page_text moving ++ (goal_text moving.dst ++ (position_text moving chunks ++ hang_text hang)))
