-- What the decider remembers of the windows: of each class the last window's numbers and three marks, and three leaders.
use Rattle.std.specs.Prelude.{◌≡◌, ℕ, ◌+◌, ◌-◌, ◌*◌, ◌==◌, Bool, false, ◌&&◌, nat_lt, nat_le, if◌then◌else◌, max, List, [], ◌∷◌, length, map, take, fold, position, Option, Some, None}
use Rattle.std.specs.List.{list_all, list_any, zip}
use Rattle.std.specs.Option.{option_map}
use Rattle.mc_watch.specs.declared.watched.Watched.{Watched}
use Rattle.mc_watch.specs.Decider.{Window}

-- each class as of the last window, class 1 first, and who led the last three windows, the newest first
pub record WatchMemory : Type 0 where
  pub classes : List Watched
  pub leaders : List (Option ℕ)

-- a class before any window
abbrev pub fresh_class : ℕ → Watched
fresh_class per_page = record {
  per_page = per_page;
  evictions = 0;
  rise = 0;
  pages = 0;
  free = 0;
  quiet = false ∷ false ∷ false ∷ [];
}

-- what is remembered before any window: nothing was evicted, no class was quiet and none led
abbrev pub nothing_remembered : List ℕ → WatchMemory
nothing_remembered per_page = record { classes = map fresh_class per_page; leaders = None ∷ None ∷ None ∷ [] }

-- the class after a window with these numbers: quiet where nothing of it was evicted and it has more than 2 pages
abbrev pub class_after_window : Watched → ℕ → ℕ → ℕ → Watched
class_after_window class evictions pages free = record class {
  evictions = evictions;
  rise = evictions - class.evictions;
  pages = pages;
  free = free;
  quiet = (evictions - class.evictions == 0 && nat_lt 2 pages) ∷ take 2 class.quiet;
}

-- each class after a window
abbrev pub all_noted : List Watched → List ℕ → List ℕ → List ℕ → List Watched
all_noted (class ∷ classes) (evictions ∷ more_evictions) (pages ∷ more_pages) (free ∷ more_free) =
    class_after_window class evictions pages free ∷ all_noted classes more_evictions more_pages more_free
all_noted classes evictions pages free = []

-- the lowest class that passes a test; classes are numbered from 1
abbrev pub lowest_watched : (Watched → Bool) → List Watched → Option ℕ
lowest_watched test classes = option_map (λ place. place + 1) (position test classes)

-- the greatest rise of the window
abbrev pub remembered_greatest_rise : List Watched → ℕ
remembered_greatest_rise classes = fold max 0 (map (λ class. class.rise) classes)

-- the class that led the window: the lowest with the greatest rise, if any rose
abbrev pub leader_of : List Watched → Option ℕ
leader_of classes = lowest_watched (λ class. nat_lt 0 class.rise && class.rise == remembered_greatest_rise classes) classes

-- what is remembered after one more window
abbrev pub after_noted : WatchMemory → Window → WatchMemory
after_noted before window =
    let classes = all_noted before.classes window.evictions window.pages window.free in
    record { classes = classes; leaders = leader_of classes ∷ take 2 before.leaders }

-- what is remembered of these windows, the newest first
abbrev pub memory_of_windows : List ℕ → List Window → WatchMemory
memory_of_windows per_page [] = nothing_remembered per_page
memory_of_windows per_page (newest ∷ before) = after_noted (memory_of_windows per_page before) newest

-- each window has a number of each kind for each of n classes
abbrev pub AreWindowsOf : ℕ → List Window → Type 0
AreWindowsOf count [] = Unit {0}
AreWindowsOf count (newest ∷ before) = (length newest.evictions ≡ count) × (length newest.pages ≡ count) × (length newest.free ≡ count) × AreWindowsOf count before

-- the chunks of a page of each class
abbrev pub numbers_of_pages : List Watched → List ℕ
numbers_of_pages classes = map (λ class. class.per_page) classes

-- classes and leaders are what is remembered of these windows
pub record IsRemembered (classes : List Watched) (leaders : List (Option ℕ)) (windows : List Window) : Type 0 where
  pub same : record { classes = classes; leaders = leaders } ≡ memory_of_windows (numbers_of_pages classes) windows
  pub whole : AreWindowsOf (length (numbers_of_pages classes)) windows

-- the evictions of some class are fewer than before
abbrev pub remembered_has_fallen : List Watched → List ℕ → Bool
remembered_has_fallen classes evictions = list_any (λ pair. nat_lt pair.1 pair.0.evictions) (zip classes evictions)

-- the class was quiet in all of the last three windows
abbrev pub has_been_quiet : Watched → Bool
has_been_quiet class = list_all (λ quiet. quiet) class.quiet

-- the class that led all of the last three windows
abbrev pub steady_leader : List (Option ℕ) → Option ℕ
steady_leader (Some newest ∷ Some middle ∷ Some oldest ∷ []) = if newest == middle && middle == oldest then Some newest else None
steady_leader leaders = None

-- the class has at least 2 pages, and more free chunks than two and a half pages have
abbrev pub remembered_has_spare_page : Watched → Bool
remembered_has_spare_page class = nat_le 2 class.pages && nat_lt (5 * class.per_page) (2 * class.free)
