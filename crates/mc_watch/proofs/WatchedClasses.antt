-- What is remembered of a class is what the windows tell of it.
use Rattle.std.proofs.Common.{◌≡◌, ℕ, ◌+◌, ◌-◌, ◌<◌, List, [], ◌∷◌, zero, suc, length, map, fold, max, get_or, drop, Bool, true, false, cond, Option, Some, None, refl, ap, ap₂, sym, ◌∙◌, arith, inl, inr, ◌≤◌, eq-eqb, ne_eqb}
use Rattle.std.specs.Prelude.{◌==◌, ◌&&◌, nat_lt, find, position}
use Rattle.std.specs.List.{range_with_len}
use Rattle.std.specs.Option.{option_map}
use Rattle.std.proofs.lemmas.Bool.{cases_eq}
use Rattle.std.proofs.lemmas.Bool.Decides.{nat_tests}
use Rattle.std.proofs.lemmas.Option.{same_Some}
use Rattle.mc_watch.specs.declared.watched.Watched.{Watched}
use Rattle.mc_watch.specs.Decider.{Window, evictions_of, free_of, greatest_rise, is_quiet, leader, class_value, latest_pages, rise}
use Rattle.mc_watch.specs.Remembered.{AreWindowsOf, WatchMemory, all_noted, after_noted, fresh_class, leader_of, lowest_watched, class_after_window, memory_of_windows}
use Rattle.mc_watch.specs.Remembered as kept

-- a class of these windows
abbrev pub watched : List Window → ℕ → ℕ → Watched
watched windows class per_page = record {
  per_page = per_page;
  evictions = evictions_of windows class;
  rise = rise windows class;
  pages = latest_pages windows class;
  free = free_of windows class;
  quiet = is_quiet windows class ∷ is_quiet (drop 1 windows) class ∷ is_quiet (drop 2 windows) class ∷ [];
}

-- the classes from a number on
abbrev pub watched_from : List Window → ℕ → List ℕ → List Watched
watched_from windows class [] = []
watched_from windows class (per_page ∷ more) = watched windows class per_page ∷ watched_from windows (class + 1) more

-- before any window
fresh_from : (class : ℕ) (per_page : List ℕ) → map fresh_class per_page ≡ watched_from [] class per_page
fresh_from class [] = refl
fresh_from class (p ∷ per_page) = ap (λ (cs : List Watched). fresh_class p ∷ cs) (fresh_from (class + 1) per_page)

-- after a window whose numbers are these from the class on
module _ (newest : Window) (before : List Window) where
  abbrev all : List Window
  all = newest ∷ before

  noted_one : (class p e g f : ℕ) → e ≡ class_value newest.evictions class → g ≡ class_value newest.pages class → f ≡ class_value newest.free class
      → class_after_window (watched before class p) e g f ≡ watched all class p
  noted_one class p e g f se sg sf = rw (se, sg, sf) refl

  noted_from : (class : ℕ) (per_page evictions pages free : List ℕ) → length evictions ≡ length per_page → length pages ≡ length per_page → length free ≡ length per_page
      → ((i : ℕ) → get_or evictions i 0 ≡ class_value newest.evictions (class + i)) → ((i : ℕ) → get_or pages i 0 ≡ class_value newest.pages (class + i))
      → ((i : ℕ) → get_or free i 0 ≡ class_value newest.free (class + i))
      → all_noted (watched_from before class per_page) evictions pages free ≡ watched_from all class per_page
  noted_from class [] evictions pages free le lg lf se sg sf = refl
  noted_from class (p ∷ per_page) [] pages free le lg lf se sg sf = absurd (omega (arith, le))
  noted_from class (p ∷ per_page) (e ∷ evictions) [] free le lg lf se sg sf = absurd (omega (arith, lg))
  noted_from class (p ∷ per_page) (e ∷ evictions) (g ∷ pages) [] le lg lf se sg sf = absurd (omega (arith, lf))
  noted_from class (p ∷ per_page) (e ∷ evictions) (g ∷ pages) (f ∷ free) le lg lf se sg sf =
      let here : class + 0 ≡ class = omega arith in
      let next : (i : ℕ) → class + suc i ≡ class + 1 + i = λ i. omega arith in
      let first : class_after_window (watched before class p) e g f ≡ watched all class p
      = noted_one class p e g f (se 0 ∙ ap (class_value newest.evictions) here) (sg 0 ∙ ap (class_value newest.pages) here) (sf 0 ∙ ap (class_value newest.free) here) in
      let rest : all_noted (watched_from before (class + 1) per_page) evictions pages free ≡ watched_from all (class + 1) per_page
      = noted_from (class + 1) per_page evictions pages free (omega (arith, le)) (omega (arith, lg)) (omega (arith, lf))
      (λ i. se (suc i) ∙ ap (class_value newest.evictions) (next i)) (λ i. sg (suc i) ∙ ap (class_value newest.pages) (next i)) (λ i. sf (suc i) ∙ ap (class_value newest.free) (next i)) in
      ap (λ (c : Watched). c ∷ all_noted (watched_from before (class + 1) per_page) evictions pages free) first
      ∙ ap (λ (cs : List Watched). watched all class p ∷ cs) rest

-- what is remembered of the classes after one more window
pub noted_all : (newest : Window) (before : List Window) (per_page : List ℕ) → length newest.evictions ≡ length per_page → length newest.pages ≡ length per_page
    → length newest.free ≡ length per_page
    → all_noted (watched_from before 1 per_page) newest.evictions newest.pages newest.free ≡ watched_from (newest ∷ before) 1 per_page
noted_all newest before per_page le lg lf =
    let place : (i : ℕ) → i ≡ 1 + i - 1 = λ i. omega arith in
    noted_from newest before 1 per_page newest.evictions newest.pages newest.free le lg lf
    (λ i. ap (λ (n : ℕ). get_or newest.evictions n 0) (place i)) (λ i. ap (λ (n : ℕ). get_or newest.pages n 0) (place i)) (λ i. ap (λ (n : ℕ). get_or newest.free n 0) (place i))

-- ---- searches

-- nothing passes
pub none_found : (test : ℕ → Bool) (class count : ℕ) → ((c : ℕ) → test c ≡ false) → find test (range_with_len class count) ≡ None
none_found test class zero fails = refl
none_found test class (suc count) fails = rw (fails class) (none_found test (class + 1) count fails)

-- what is found is one of the classes
pub found_within : (test : ℕ → Bool) (class count found : ℕ) → find test (range_with_len class count) ≡ Some found → (class ≤ found) × (found < class + count)
found_within test class zero found is = cc
found_within test class (suc count) found is = within_step (test class) refl (found_within test (class + 1) count found)
  where
    within_step : (b : Bool) → test class ≡ b
        → (find test (range_with_len (class + 1) count) ≡ Some found → (class + 1 ≤ found) × (found < class + 1 + count))
        → (class ≤ found) × (found < class + suc count)
    within_step true passes more =
        let first : Some class ≡ Some found = rw passes at is in
        let same : class ≡ found = same_Some class found first in
        (omega (arith, same), omega (arith, same))
    within_step false fails more =
        let rest : find test (range_with_len (class + 1) count) ≡ Some found = rw fails at is in
        let bounds = more rest in
        (omega (arith, bounds.0), omega (arith, bounds.1))

-- the one class that passes is found
pub own_found : (test : ℕ → Bool) (own class count : ℕ) → ((c : ℕ) → test c ≡ (own == c)) → class ≤ own → own < class + count
    → find test (range_with_len class count) ≡ Some own
own_found test own class zero tells first last = absurd (omega (arith, first, last))
own_found test own class (suc count) tells first last = elim (cases_eq own class) [
  | inl same ↦ rw (tells class, eq-eqb own class same) (ap (λ (n : ℕ). Some n) (sym same))
  | inr apart ↦
      rw (tells class, ne_eqb own class apart) (own_found test own (class + 1) count tells (omega (arith, first, apart)) (omega (arith, last)))
]

-- the first that passes, as a place and as a class
place_step : (test : Watched → Bool) (x : Watched) (xs : List Watched) (class : ℕ) (b : Bool) (rest : Option ℕ) → test x ≡ b
    → option_map (λ place. place + (class + 1)) (position test xs) ≡ rest → option_map (λ place. place + class) (position test (x ∷ xs)) ≡ cond b (Some class) rest
place_step test x xs class true rest is more = grind (arith, nat_tests, is)
place_step test x xs class false rest is more = grind (arith, nat_tests, is, more)

pub place_found : (test : Watched → Bool) (told : ℕ → Bool) (windows : List Window) (class : ℕ) (per_page : List ℕ)
    → ((i : ℕ) → test (watched windows (class + i) (get_or per_page i 0)) ≡ told (class + i))
    → option_map (λ place. place + class) (position test (watched_from windows class per_page)) ≡ find told (range_with_len class (length per_page))
place_found test told windows class [] same = refl
place_found test told windows class (p ∷ per_page) same =
    let next : (i : ℕ) → class + suc i ≡ class + 1 + i = λ i. omega arith in
    let none_more : class + 0 ≡ class = omega arith in
    let here : test (watched windows class p) ≡ told class
    = ap (λ (n : ℕ). test (watched windows n p)) (sym none_more) ∙ same 0 ∙ ap told none_more in
    let rest : option_map (λ place. place + (class + 1)) (position test (watched_from windows (class + 1) per_page)) ≡ find told (range_with_len (class + 1) (length per_page))
    = place_found test told windows (class + 1) per_page
    (λ i. ap (λ (n : ℕ). test (watched windows n (get_or per_page i 0))) (sym (next i)) ∙ same (suc i) ∙ ap told (next i)) in
    place_step test (watched windows class p) (watched_from windows (class + 1) per_page) class (told class) (find told (range_with_len (class + 1) (length per_page))) here rest

rises_from : (windows : List Window) (class : ℕ) (per_page : List ℕ)
    → map (λ (c : Watched). c.rise) (watched_from windows class per_page) ≡ map (rise windows) (range_with_len class (length per_page))
rises_from windows class [] = refl
rises_from windows class (p ∷ per_page) = ap (λ (rises : List ℕ). rise windows class ∷ rises) (rises_from windows (class + 1) per_page)

-- who led the newest window
pub leader_found : (windows : List Window) (per_page : List ℕ) → leader_of (watched_from windows 1 per_page) ≡ leader (length per_page) windows
leader_found windows per_page =
    let greatest : ℕ = kept.remembered_greatest_rise (watched_from windows 1 per_page) in
    let same : greatest ≡ greatest_rise (length per_page) windows = ap (λ (rises : List ℕ). fold max 0 rises) (rises_from windows 1 per_page) in
    place_found (λ c. nat_lt 0 c.rise && c.rise == greatest) (λ class. nat_lt 0 (rise windows class) && rise windows class == greatest) windows 1 per_page (λ i. refl)
    ∙ ap (λ (g : ℕ). find (λ class. nat_lt 0 (rise windows class) && rise windows class == g) (range_with_len 1 (length per_page))) same

-- nobody led before the first window
no_leader : (count : ℕ) → leader count [] ≡ None
no_leader count = none_found (λ class. nat_lt 0 (rise [] class) && rise [] class == greatest_rise count []) 1 count (λ c. refl)

-- ---- all that is remembered

pub remembered_is : (per_page : List ℕ) (windows : List Window) → AreWindowsOf (length per_page) windows
    → memory_of_windows per_page windows ≡ record {
      classes = watched_from windows 1 per_page;
      leaders = leader (length per_page) windows ∷ leader (length per_page) (drop 1 windows) ∷ leader (length per_page) (drop 2 windows) ∷ [];
    }
remembered_is per_page [] whole =
    ap₂ (λ (classes : List Watched) (led : Option ℕ). record { classes = classes; leaders = led ∷ led ∷ led ∷ [] }) (fresh_from 1 per_page) (sym (no_leader (length per_page)))
remembered_is per_page (newest ∷ before) whole =
    let all : List Window = newest ∷ before in
    let count : ℕ = length per_page in
    let class_after_window : all_noted (watched_from before 1 per_page) newest.evictions newest.pages newest.free ≡ watched_from all 1 per_page
    = noted_all newest before per_page whole.0 whole.1 whole.2 in
    ap (λ (r : WatchMemory). after_noted r newest) (remembered_is per_page before whole.3)
    ∙ ap (λ (classes : List Watched). record { classes = classes; leaders = leader_of classes ∷ leader count before ∷ leader count (drop 1 before) ∷ [] }) class_after_window
    ∙ ap (λ (led : Option ℕ). record { classes = watched_from all 1 per_page; leaders = led ∷ leader count before ∷ leader count (drop 1 before) ∷ [] }) (leader_found all per_page)
