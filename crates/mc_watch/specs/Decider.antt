-- What the automover decides after each window, by two rules over the windows that it was fed.
use Rattle.std.specs.Prelude.{ℕ, ◌-◌, ◌*◌, ◌/◌, ◌==◌, Bool, false, not, ◌&&◌, nat_lt, nat_le, if◌then◌else◌, max, List, [], ◌∷◌, length, map, drop, find, fold, slice_index_or, Option, Some, None}
use Rattle.std.specs.List.{list_any, range_with_len}
use Rattle.std.specs.Option.{option_map, option_map_or, option_and_then, option_or}
use Rattle.mc_classes.specs.Classes.{Classes}
use Rattle.mc_watch.specs.declared.decider.Decision.{Decision}
use Rattle.mc_watch.specs.declared.refusal.Feed.{Feed}
use Rattle.mc_watch.specs.declared.refusal.Feed.TheVariants.{Length, Backwards}

-- a window: of each class, class 1 first, how many of its items were evicted so far, its pages and its free chunks
pub record Window : Type 0 where
  pub evictions : List ℕ
  pub pages : List ℕ
  pub free : List ℕ

-- the chunks that a page of each class has, and all windows that were fed, the newest first
pub record DeciderState : Type 0 where
  pub per_page : List ℕ
  pub windows : List Window

-- a decider before any window
abbrev pub fresh_decider : Classes → DeciderState
fresh_decider table = record { per_page = map (λ size. table.page / size) table.sizes; windows = [] }

-- the decider after one more window, with these numbers
abbrev pub after_window : DeciderState → List ℕ → List ℕ → List ℕ → DeciderState
after_window decider evictions pages free =
    record decider { windows = record { evictions = evictions; pages = pages; free = free } ∷ decider.windows }

-- a class's number among those of all classes: they are numbered from 1
abbrev pub class_value : List ℕ → ℕ → ℕ
class_value numbers class = slice_index_or numbers (class - 1) 0

-- how many items of the class were evicted by the newest of these windows, 0 before the first
abbrev pub evictions_of : List Window → ℕ → ℕ
evictions_of [] class = 0
evictions_of (newest ∷ before) class = class_value newest.evictions class

-- how many pages the class has in the newest of these windows, 0 before the first
abbrev pub latest_pages : List Window → ℕ → ℕ
latest_pages [] class = 0
latest_pages (newest ∷ before) class = class_value newest.pages class

-- how many free chunks the class has in the newest of these windows, 0 before the first
abbrev pub free_of : List Window → ℕ → ℕ
free_of [] class = 0
free_of (newest ∷ before) class = class_value newest.free class

-- how many items of the class were evicted in the newest window
abbrev pub rise : List Window → ℕ → ℕ
rise windows class = evictions_of windows class - evictions_of (drop 1 windows) class

-- a class is quiet in a window where nothing of it was evicted and it has more than 2 pages
abbrev pub is_quiet : List Window → ℕ → Bool
is_quiet windows class = rise windows class == 0 && nat_lt 2 (latest_pages windows class)

-- the lowest of n classes that passes a test
abbrev pub lowest : ℕ → (ℕ → Bool) → Option ℕ
lowest count test = find test (range_with_len 1 count)

-- the greatest rise of n classes in the newest window
abbrev pub greatest_rise : ℕ → List Window → ℕ
greatest_rise count windows = fold max 0 (map (rise windows) (range_with_len 1 count))

-- the class that led the newest window: the lowest with the greatest rise, if any rose
abbrev pub leader : ℕ → List Window → Option ℕ
leader count windows = lowest count (λ class. nat_lt 0 (rise windows class) && rise windows class == greatest_rise count windows)

-- the class led the newest window
abbrev pub is_led_by : ℕ → List Window → ℕ → Bool
is_led_by count windows class = option_map_or (λ led. led == class) (leader count windows) false

-- the test holds for the newest window and for the two before it
abbrev pub in_all_three : (List Window → Bool) → List Window → Bool
in_all_three test windows = test windows && (test (drop 1 windows) && test (drop 2 windows))

-- the class that gives a page by the evictions: the lowest that was quiet in the last three windows
abbrev pub quiet_class : DeciderState → Option ℕ
quiet_class decider = lowest (length decider.per_page) (λ class. in_all_three (λ windows. is_quiet windows class) decider.windows)

-- the class that gets a page by the evictions: the one that led the last three windows
abbrev pub steady_class : DeciderState → Option ℕ
steady_class decider = lowest (length decider.per_page) (λ class. in_all_three (λ windows. is_led_by (length decider.per_page) windows class) decider.windows)

-- a page goes from the quiet class to the steady one, where there are both
abbrev pub eviction_rule : DeciderState → Option Decision
eviction_rule decider = option_and_then (λ dst. option_map (λ src. record { src = src; dst = dst }) (quiet_class decider)) (steady_class decider)

-- the class has at least 2 pages in the last window, and more free chunks than two and a half pages have
abbrev pub has_spare_page : DeciderState → ℕ → Bool
has_spare_page decider class = nat_le 2 (latest_pages decider.windows class) && nat_lt (5 * class_value decider.per_page class) (2 * free_of decider.windows class)

-- the lowest class that has a page to spare gives it to the pool
abbrev pub free_page_rule : DeciderState → Option Decision
free_page_rule decider = option_map (λ src. record { src = src; dst = 0 }) (lowest (length decider.per_page) (has_spare_page decider))

-- the decision by the evictions of the last three windows, or else by the free chunks
abbrev pub decision_of : DeciderState → Option Decision
decision_of decider = option_or (eviction_rule decider) (free_page_rule decider)

-- the evictions of some class are fewer than in the window before
abbrev pub has_fallen : DeciderState → List ℕ → Bool
has_fallen decider evictions =
    list_any (λ class. nat_lt (class_value evictions class) (evictions_of decider.windows class)) (range_with_len 1 (length decider.per_page))

-- why the numbers aren't taken: a list of another length comes first
abbrev pub feed_refusal : DeciderState → List ℕ → List ℕ → List ℕ → Option Feed
feed_refusal decider evictions pages free =
    let count = length decider.per_page in
    if not (length evictions == count && length pages == count && length free == count) then Some Length
    else if has_fallen decider evictions then Some Backwards
    else None
