-- Worked examples of what is shown, which the prover computes. An object's members are in order of their names.
use Rattle.std.specs.Prelude.{◌≡◌, ℕ, List, [], ◌∷◌, codes, map, true, None, Some, Ok, Err}
use Rattle.serde_json.specs.Data.{Data, null, boolean, number, array, object, unsigned, Members, no_members, member, no_items, item}
use Rattle.mc_script.specs.Script.{script_of}
use Rattle.mc_pages.specs.declared.ledger.Entry.TheVariants.{Granted, Taken, Began, Ended}
use Rattle.mc_pages.specs.declared.ledger.Owner.TheVariants as owner
use Rattle.mc_map.specs.declared.hang.Hang.TheVariants.{Idle, Unknown}
use Rattle.mc_map.specs.declared.map.Map.{Map}
use Rattle.mc_map.specs.declared.script.Mark.{Mark}
use Rattle.mcmap.specs.Checked.{wrong_count}
use Rattle.mcmap.specs.Json.{class_json, entry_json, hang_json, map_members, moving_json, owner_json, totals_json}
use Rattle.mc_serial_spec.specs.Machine.{Machine}
use Rattle.mc_map.specs.Books.{Book}
use Rattle.mcmap.specs.Played.{IsMapShown, ShowsMaps, done_at, place_text}
use Rattle.mcmap.specs.declared.show.Form.{Form}

-- the members in this order, of which the names rise
abbrev pub in_order : List (List ℕ × Data) → Members
in_order [] = no_members
in_order (pair ∷ pairs) = member pair.0 pair.1 (in_order pairs)

-- numbers by rising names
abbrev pub numbers_in_order : List (List ℕ × ℕ) → Data
numbers_in_order pairs = object (in_order (map (λ pair. (pair.0, number (unsigned pair.1))) pairs))

-- pages of nobody, of the pool, of class 3, and on the move from class 2 to class 1
abbrev pub OwnersShown : Type 0
OwnersShown =
    map owner_json (owner.Untouched ∷ owner.Pool ∷ owner.Class 3 ∷ owner.Moving 2 1 ∷ [])
    ≡ null ∷ number (unsigned 0) ∷ number (unsigned 3) ∷ array (item (number (unsigned 2)) (item (number (unsigned 1)) no_items)) ∷ []

-- page 4 is class 1's by grace
abbrev pub GrantShown : Type 0
GrantShown = entry_json (Granted 4 1 true) ≡ object (in_order ((codes "class", number (unsigned 1)) ∷ (codes "grace", boolean true) ∷ (codes "granted", number (unsigned 4)) ∷ []))

-- page 5 goes out of the pool to class 2, and page 6 from class 2 to the pool
abbrev pub MovesShown : Type 0
MovesShown =
    map entry_json (Taken 5 2 ∷ Began 6 2 0 ∷ Ended 6 0 ∷ [])
    ≡ numbers_in_order ((codes "class", 2) ∷ (codes "taken", 5) ∷ []) ∷ numbers_in_order ((codes "began", 6) ∷ (codes "dst", 0) ∷ (codes "src", 2) ∷ [])
    ∷ numbers_in_order ((codes "dst", 0) ∷ (codes "ended", 6) ∷ []) ∷ []

-- a class, each number of which is another
abbrev pub ClassShown : Type 0
ClassShown =
    class_json (record {
      class = 1;
      size = 96;
      per_page = 10;
      pages = 3;
      chunks = 12;
      linked = 4;
      held = 5;
      unlinked = 6;
      dead = 7;
      free = 8;
      cleared = 9;
      asked = 100;
      bytes = 200;
      evictions = 11;
    })
    ≡ numbers_in_order (
    (codes "asked", 100) ∷ (codes "bytes", 200) ∷ (codes "chunks", 12) ∷ (codes "class", 1) ∷ (codes "cleared", 9) ∷ (codes "dead", 7) ∷ (codes "evictions", 11) ∷ (codes "free", 8)
    ∷ (codes "held", 5) ∷ (codes "linked", 4) ∷ (codes "pages", 3) ∷ (codes "per_page", 10) ∷ (codes "size", 96) ∷ (codes "unlinked", 6) ∷ []
    )

-- the numbers of the whole
abbrev pub TotalsShown : Type 0
TotalsShown =
    totals_json (record { granted = 1; pool = 2; moved = 3; rescues = 4; evictions_nomem = 5; busy = 6 })
    ≡ numbers_in_order ((codes "busy", 6) ∷ (codes "evictions_nomem", 5) ∷ (codes "granted", 1) ∷ (codes "moved", 3) ∷ (codes "pool", 2) ∷ (codes "rescues", 4) ∷ [])

-- a page on the move
abbrev pub MovingShown : Type 0
MovingShown =
    moving_json (Some (record { page = 1; src = 2; dst = 3; at = 4; busy = 5 }))
    ≡ numbers_in_order ((codes "at", 4) ∷ (codes "busy", 5) ∷ (codes "dst", 3) ∷ (codes "page", 1) ∷ (codes "src", 2) ∷ [])

-- no page moves, nothing holds one up, and nobody knows
abbrev pub NothingShown : Type 0
NothingShown = moving_json None ∷ hang_json Idle ∷ hang_json Unknown ∷ [] ≡ null ∷ null ∷ null ∷ []

-- the names of what a map has
abbrev pub MapNames : Type 0
MapNames =
    (line : ℕ) (m : Map) → map (λ pair. pair.0) (map_members line m)
    ≡ codes "line" ∷ codes "done" ∷ codes "page" ∷ codes "within" ∷ codes "chunks" ∷ codes "owners" ∷ codes "pool" ∷ codes "classes" ∷ codes "totals" ∷ codes "ledger" ∷ codes "moving"
    ∷ codes "blockers" ∷ []

-- of five commands: a mark below two, one below two where four are done already, and one past the end
abbrev pub MarksReached : Type 0
MarksReached = map (λ (pair : ℕ × Mark). done_at 5 pair.0 pair.1) ((0, record { done = 2; line = 3 }) ∷ (4, record { done = 2; line = 9 }) ∷ (2, record { done = 7; line = 9 }) ∷ []) ≡ 2 ∷ 4 ∷ 5 ∷ []

-- a map at the end, and one of line 7
abbrev pub PlacesNamed : Type 0
PlacesNamed = map place_text (0 ∷ 7 ∷ []) ≡ codes "at the end" ∷ codes "at line 7" ∷ []

-- the count of two wrong lines with a right one between them
abbrev pub WrongLinesCounted : Type 0
WrongLinesCounted = (right wrong : List ℕ) → script_of right ≡ Ok [] → script_of wrong ≡ Err 1 → wrong_count (wrong ∷ right ∷ wrong ∷ []) ≡ 2

-- a script without commands and with a mark in line 3 shows that mark's map of the machine, and then the map of the end
abbrev pub OneMarkShown : Type 0
OneMarkShown =
    (form : Form) (m : Machine) (book : Book) (old new : List ℕ) → ShowsMaps form [] 0 (record { done = 0; line = 3 } ∷ []) m book old new
    → (text : List ℕ) × IsMapShown form 3 m book old text × IsMapShown form 0 m book text new
