-- A memory that is accounted for, and seven that aren't, each for one reason.
use Rattle.std.specs.Prelude.{true, false, [], ◌∷◌, Some}
use Rattle.mc_classes.specs.Classes.{Classes}
use Rattle.mc_pages.specs.declared.ledger.Owner.TheVariants.{Untouched, Pool, Class, Moving}
use Rattle.mc_pages.specs.declared.ledger.Entry.TheVariants.{Granted, Began, Ended}
use Rattle.mc_pages.specs.SlabState.{SlabState, fresh_slabs}

-- one page, and one class with one chunk a page
abbrev pub one_page : Classes
one_page = record { page = 64; limit = 64; sizes = 64 ∷ [] }

-- nothing was granted
abbrev pub nothing_granted : SlabState
nothing_granted = fresh_slabs one_page

-- the page is owned by class 5, which isn't one of the classes
abbrev pub page_of_no_class : SlabState
page_of_no_class = record nothing_granted { owners = Class 5 ∷ Untouched ∷ []; ledger = Granted 0 5 false ∷ [] }

-- the class's one page is on the move to the pool
abbrev pub last_page_moves : SlabState
last_page_moves = record nothing_granted {
  classes = record { size = 64; per_page = 1; pages = 0 ∷ []; free = record { page = 0; index = 0 } ∷ []; order = []; evictions = 0 } ∷ [];
  owners = Moving 1 0 ∷ Untouched ∷ [];
  ledger = Granted 0 1 false ∷ Began 0 1 0 ∷ [];
  moving = Some (record { page = 0; src = 1; dst = 0; at = 0; busy = 0 });
}

-- two pages were granted within a limit that has room for one
abbrev pub past_the_limit : SlabState
past_the_limit = record nothing_granted {
  classes = record { size = 64; per_page = 1; pages = 0 ∷ 1 ∷ []; free = record { page = 0; index = 0 } ∷ record { page = 1; index = 0 } ∷ []; order = []; evictions = 0 } ∷ [];
  owners = Class 1 ∷ Class 1 ∷ [];
  ledger = Granted 0 1 false ∷ Granted 1 1 false ∷ [];
}

-- the class got two pages beyond the limit
abbrev pub grace_twice : SlabState
grace_twice = record nothing_granted {
  classes = record { size = 64; per_page = 1; pages = 0 ∷ 1 ∷ []; free = record { page = 0; index = 0 } ∷ record { page = 1; index = 0 } ∷ []; order = []; evictions = 0 } ∷ [];
  owners = Class 1 ∷ Class 1 ∷ [];
  ledger = Granted 0 1 true ∷ Granted 1 1 true ∷ [];
}

-- the class gave away the page that it got beyond the limit
abbrev pub grace_given_away : SlabState
grace_given_away = record nothing_granted { pool = 0 ∷ []; owners = Pool ∷ Untouched ∷ []; ledger = Granted 0 1 true ∷ Began 0 1 0 ∷ Ended 0 0 ∷ [] }

-- the pick of a source goes on behind class 77
abbrev pub cursor_past_the_classes : SlabState
cursor_past_the_classes = record nothing_granted { cursor = 77 }

-- the automover has a mode that there is none of
abbrev pub unknown_mode : SlabState
unknown_mode = record nothing_granted { automove = 99 }
