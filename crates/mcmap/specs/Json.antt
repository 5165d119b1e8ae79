-- A map as JSON.
use Rattle.std.specs.Prelude.{ℕ, List, [], ◌∷◌, ◌++◌, codes, map, Option, Some, None}
use Rattle.serde_json.specs.Data.{Data, null, boolean, number, array, object, unsigned, Members, no_members, put}
use Rattle.serde_json.specs.View.{items_of}
use Rattle.mc_pages.specs.declared.ids.Moving.{Moving}
use Rattle.mc_pages.specs.declared.ledger.Entry.{Entry}
use Rattle.mc_pages.specs.declared.ledger.Entry.TheVariants.{Granted, Taken, Began, Ended}
use Rattle.mc_pages.specs.declared.ledger.Owner.{Owner}
use Rattle.mc_pages.specs.declared.ledger.Owner.TheVariants as owner
use Rattle.mc_pages.specs.declared.numbers.Totals.{Totals}
use Rattle.mc_map.specs.declared.hang.Blocker.{Blocker}
use Rattle.mc_map.specs.declared.hang.Hang.{Hang}
use Rattle.mc_map.specs.declared.hang.Hang.TheVariants.{Idle, Found, Unknown}
use Rattle.mc_map.specs.declared.kept.ClassLine.{ClassLine}
use Rattle.mc_map.specs.declared.map.Map.{Map}

-- a number
abbrev pub number_json : ℕ → Data
number_json n = number (unsigned n)

-- the JSON array of these elements, each by this function
abbrev pub row_json : {X : Type 0} → (X → Data) → List X → Data
row_json json xs = array (items_of (map json xs))

-- the members with these added, by their names
abbrev pub with_members : Members → List (List ℕ × Data) → Members
with_members members [] = members
with_members members (pair ∷ pairs) = with_members (put pair.0 pair.1 members) pairs

-- the JSON object of these members, by their names
abbrev pub object_json : List (List ℕ × Data) → Data
object_json pairs = object (with_members no_members pairs)

-- the JSON object of these numbers, by their names
abbrev pub pairs_json : List (List ℕ × ℕ) → Data
pairs_json pairs = object_json (map (λ pair. (pair.0, number_json pair.1)) pairs)

-- who owns a page: null where nobody was given it, 0 for the pool, or a class; source and goal where it moves
abbrev pub owner_json : Owner → Data
owner_json owner.Untouched = null
owner_json owner.Pool = number_json 0
owner_json (owner.Class class) = number_json class
owner_json (owner.Moving src dst) = row_json number_json (src ∷ dst ∷ [])

-- the chunks of a class's line, by what they are
abbrev pub chunk_counts : ClassLine → List (List ℕ × ℕ)
chunk_counts line =
    (codes "linked", line.linked) ∷ (codes "held", line.held) ∷ (codes "unlinked", line.unlinked) ∷ (codes "dead", line.dead)
    ∷ (codes "free", line.free) ∷ (codes "cleared", line.cleared) ∷ (codes "asked", line.asked) ∷ (codes "bytes", line.bytes)
    ∷ (codes "evictions", line.evictions) ∷ []

-- the numbers of a class's line, by their names
abbrev pub class_counts : ClassLine → List (List ℕ × ℕ)
class_counts line = (codes "class", line.class) ∷ (codes "size", line.size) ∷ (codes "per_page", line.per_page) ∷ (codes "pages", line.pages) ∷ (codes "chunks", line.chunks) ∷ chunk_counts line

-- the line of a class
abbrev pub class_json : ClassLine → Data
class_json line = pairs_json (class_counts line)

-- the numbers of the whole, by what they count
abbrev pub total_counts : Totals → List (List ℕ × ℕ)
total_counts totals =
    (codes "granted", totals.granted) ∷ (codes "pool", totals.pool) ∷ (codes "moved", totals.moved) ∷ (codes "rescues", totals.rescues)
    ∷ (codes "evictions_nomem", totals.evictions_nomem) ∷ (codes "busy", totals.busy) ∷ []

-- the numbers of the whole
abbrev pub totals_json : Totals → Data
totals_json totals = pairs_json (total_counts totals)

-- how a page changed hands; class 0 is the pool
abbrev pub entry_json : Entry → Data
entry_json (Granted page class grace) = object_json ((codes "granted", number_json page) ∷ (codes "class", number_json class) ∷ (codes "grace", boolean grace) ∷ [])
entry_json (Taken page class) = pairs_json ((codes "taken", page) ∷ (codes "class", class) ∷ [])
entry_json (Began page src dst) = pairs_json ((codes "began", page) ∷ (codes "src", src) ∷ (codes "dst", dst) ∷ [])
entry_json (Ended page dst) = pairs_json ((codes "ended", page) ∷ (codes "dst", dst) ∷ [])

-- where a page is on its move
abbrev pub moving_counts : Moving → List (List ℕ × ℕ)
moving_counts moving = (codes "page", moving.page) ∷ (codes "src", moving.src) ∷ (codes "dst", moving.dst) ∷ (codes "at", moving.at) ∷ (codes "busy", moving.busy) ∷ []

-- the page on the move, or null
abbrev pub moving_json : Option Moving → Data
moving_json None = null
moving_json (Some moving) = pairs_json (moving_counts moving)

-- the members of a chunk that holds a move up, by their names
abbrev pub blocker_members : Blocker → List (List ℕ × Data)
blocker_members blocker =
    (codes "chunk", number_json blocker.chunk) ∷ (codes "key", number_json blocker.key) ∷ (codes "linked", boolean blocker.linked)
    ∷ (codes "workers", row_json number_json blocker.workers.items) ∷ []

-- a chunk that holds a move up
abbrev pub blocker_json : Blocker → Data
blocker_json blocker = object_json (blocker_members blocker)

-- what holds a move up; null where no page moves, or the search takes too many looks
abbrev pub hang_json : Hang → Data
hang_json Idle = null
hang_json (Found blockers) = row_json blocker_json blockers.items
hang_json Unknown = null

-- the first members of a map: the line of its mark, which is 0 at the end, how many commands are done, the bytes of a page, how many
-- pages the limit has, and the chunks of the moving page
abbrev pub front_members : ℕ → Map → List (List ℕ × Data)
front_members line map = (codes "line", number_json line) ∷ (codes "done", number_json map.done) ∷ (codes "page", number_json map.page) ∷ (codes "within", number_json map.within)
    ∷ (codes "chunks", number_json map.chunks) ∷ []

-- who owns the pages, the classes, and the numbers of the whole
abbrev pub page_members : Map → List (List ℕ × Data)
page_members map =
    (codes "owners", row_json owner_json map.owners.items) ∷ (codes "pool", row_json number_json map.pool.items)
    ∷ (codes "classes", row_json class_json map.classes.items) ∷ (codes "totals", totals_json map.totals) ∷ []

-- how pages changed hands, which one moves, and what holds it up
abbrev pub move_members : Map → List (List ℕ × Data)
move_members map = (codes "ledger", row_json entry_json map.ledger.items) ∷ (codes "moving", moving_json map.moving) ∷ (codes "blockers", hang_json map.hang) ∷ []

-- the members of a map, by their names
abbrev pub map_members : ℕ → Map → List (List ℕ × Data)
map_members line map = front_members line map ++ (page_members map ++ move_members map)

-- a map as an object
abbrev pub map_json : ℕ → Map → Data
map_json line map = object_json (map_members line map)
