-- What the decider remembers gives what the windows say: both rules, and the test for evictions that become fewer.
use Rattle.std.proofs.Common.{◌≡◌, ℕ, ◌+◌, ◌-◌, ◌*◌, ◌/◌, ◌<◌, ◌≤◌, List, [], ◌∷◌, suc, length, map, get_or, drop, take, not, Bool, true, false, Option, Some, None, refl, ap, ap₂, sym, ◌∙◌, subst, arith}
use Rattle.std.specs.Prelude.{◌==◌, ◌&&◌, ◌||◌, nat_lt, nat_le, if◌then◌else◌, find, slice_index_or}
use Rattle.std.specs.List.{list_all, list_any, range_with_len}
use Rattle.std.specs.Option.{option_and_then, option_map, option_map_or}
use Rattle.std.proofs.lemmas.Bool.Decides.{nat_tests}
use Rattle.std.proofs.lemmas.List.{length-map}
use Rattle.mc_watch.specs.declared.watched.Watched.{Watched}
use Rattle.mc_watch.specs.Decider.{DeciderState, Window, after_window, eviction_rule, evictions_of, free_of, free_page_rule, has_fallen, has_spare_page, is_quiet, leader, lowest, class_value, latest_pages, quiet_class, feed_refusal, steady_class}
use Rattle.mc_watch.specs.declared.refusal.Feed.TheVariants.{Length, Backwards}
use Rattle.mc_watch.specs.Remembered.{AreWindowsOf, IsRemembered, WatchMemory, after_noted, all_noted, fresh_class, has_been_quiet, leader_of, lowest_watched, numbers_of_pages, memory_of_windows, steady_leader}
use Rattle.mc_watch.specs.Remembered as kept
use Rattle.mc_watch.proofs.WatchedClasses.{found_within, none_found, own_found, place_found, remembered_is, watched_from}

-- three marks
all_three : (a b c : Bool) → list_all (λ (m : Bool). m) (a ∷ b ∷ c ∷ []) ≡ (a && (b && c))
all_three true true true = refl
all_three true true false = refl
all_three true false c = refl
all_three false b c = refl

-- three leaders
abbrev led : Option ℕ → ℕ → Bool
led leader class = option_map_or (λ l. l == class) leader false

three_alike : (a b c : ℕ) (one : Bool) (count : ℕ) → (a == b && b == c) ≡ one → 1 ≤ a → a < 1 + count
    → (if one then Some a else None) ≡ find (λ class. (a == class) && ((b == class) && (c == class))) (range_with_len 1 count)
three_alike a b c true count is first last =
    sym (own_found (λ class. (a == class) && ((b == class) && (c == class))) a 1 count (λ class. grind (arith, nat_tests, is)) first last)
three_alike a b c false count is first last =
    sym (none_found (λ class. (a == class) && ((b == class) && (c == class))) 1 count (λ class. grind (arith, nat_tests, is)))

never : (a : Bool) → (a && false) ≡ false
never true = refl
never false = refl

steady_found : (l1 l2 l3 : Option ℕ) (count : ℕ) → ((a : ℕ) → l1 ≡ Some a → (1 ≤ a) × (a < 1 + count))
    → steady_leader (l1 ∷ l2 ∷ l3 ∷ []) ≡ find (λ class. led l1 class && (led l2 class && led l3 class)) (range_with_len 1 count)
steady_found None l2 l3 count within = sym (none_found (λ class. false) 1 count (λ c. refl))
steady_found (Some a) None l3 count within = sym (none_found (λ class. (a == class) && false) 1 count (λ c. never (a == c)))
steady_found (Some a) (Some b) None count within =
    sym (none_found (λ class. (a == class) && ((b == class) && false)) 1 count (λ c. ap (λ (d : Bool). (a == c) && d) (never (b == c)) ∙ never (a == c)))
steady_found (Some a) (Some b) (Some c) count within =
    three_alike a b c (a == b && b == c) count refl (within a refl).0 (within a refl).1

-- the classes of these windows, from a number on: whether one's evictions are fewer
fallen_from : (windows : List Window) (evictions : List ℕ) (class : ℕ) (per_page numbers : List ℕ) → length numbers ≡ length per_page
    → ((i : ℕ) → get_or numbers i 0 ≡ class_value evictions (class + i))
    → kept.remembered_has_fallen (watched_from windows class per_page) numbers
    ≡ list_any (λ c. nat_lt (class_value evictions c) (evictions_of windows c)) (range_with_len class (length per_page))
fallen_from windows evictions class [] numbers same told = refl
fallen_from windows evictions class (p ∷ per_page) [] same told = absurd (omega (arith, same))
fallen_from windows evictions class (p ∷ per_page) (e ∷ numbers) same told =
    let none_more : class + 0 ≡ class = omega arith in
    let next : (i : ℕ) → class + suc i ≡ class + 1 + i = λ i. omega arith in
    let here : e ≡ class_value evictions class = told 0 ∙ ap (class_value evictions) none_more in
    ap₂ (λ (b rest : Bool). b || rest) (ap (λ (n : ℕ). nat_lt n (evictions_of windows class)) here)
    (fallen_from windows evictions (class + 1) per_page numbers (omega (arith, same)) (λ i. told (suc i) ∙ ap (class_value evictions) (next i)))

-- the chunks of a page stay as they are through a window
pages_noted : (classes : List Watched) (evictions pages free : List ℕ) → length evictions ≡ length classes → length pages ≡ length classes → length free ≡ length classes
    → numbers_of_pages (all_noted classes evictions pages free) ≡ numbers_of_pages classes
pages_noted [] evictions pages free le lg lf = refl
pages_noted (class ∷ classes) [] pages free le lg lf = absurd (omega (arith, le))
pages_noted (class ∷ classes) (e ∷ evictions) [] free le lg lf = absurd (omega (arith, lg))
pages_noted (class ∷ classes) (e ∷ evictions) (g ∷ pages) [] le lg lf = absurd (omega (arith, lf))
pages_noted (class ∷ classes) (e ∷ evictions) (g ∷ pages) (f ∷ free) le lg lf =
    ap (λ (ns : List ℕ). class.per_page ∷ ns) (pages_noted classes evictions pages free (omega (arith, le)) (omega (arith, lg)) (omega (arith, lf)))

-- ---- what a decider remembers
module _ (classes : List Watched) (leaders : List (Option ℕ)) (windows : List Window) (is : IsRemembered classes leaders windows) where
  abbrev per_page : List ℕ
  per_page = numbers_of_pages classes

  abbrev state : DeciderState
  state = record { per_page = numbers_of_pages classes; windows = windows }

  abbrev count : ℕ
  count = length (numbers_of_pages classes)

  abbrev told : WatchMemory
  told = record {
    classes = watched_from windows 1 (numbers_of_pages classes);
    leaders = leader count windows ∷ leader count (drop 1 windows) ∷ leader count (drop 2 windows) ∷ [];
  }

  abbrev here : WatchMemory
  here = record { classes = classes; leaders = leaders }

  all : here ≡ told
  all = is.same ∙ remembered_is per_page windows is.whole

  classes_are : classes ≡ watched_from windows 1 per_page
  classes_are = ap (λ (r : WatchMemory). r.classes) all

  leaders_are : leaders ≡ leader count windows ∷ leader count (drop 1 windows) ∷ leader count (drop 2 windows) ∷ []
  leaders_are = ap (λ (r : WatchMemory). r.leaders) all

  -- the two that stay when one more leader comes
  pub leaders_two : take 2 leaders ≡ slice_index_or leaders 0 None ∷ slice_index_or leaders 1 None ∷ []
  leaders_two = rw leaders_are refl

  pub quiet_is : lowest_watched has_been_quiet classes ≡ quiet_class state
  quiet_is =
      ap (lowest_watched has_been_quiet) classes_are
      ∙ place_found has_been_quiet (λ class. is_quiet windows class && (is_quiet (drop 1 windows) class && is_quiet (drop 2 windows) class)) windows 1 per_page
      (λ i. all_three (is_quiet windows (1 + i)) (is_quiet (drop 1 windows) (1 + i)) (is_quiet (drop 2 windows) (1 + i)))

  pub steady_is : steady_leader leaders ≡ steady_class state
  steady_is =
      ap steady_leader leaders_are
      ∙ steady_found (leader count windows) (leader count (drop 1 windows)) (leader count (drop 2 windows)) count (λ a led_by. found_within _ 1 count a led_by)

  pub spare_is : lowest_watched kept.remembered_has_spare_page classes ≡ lowest count (has_spare_page state)
  spare_is =
      let place : (i : ℕ) → i ≡ 1 + i - 1 = λ i. omega arith in
      ap (lowest_watched kept.remembered_has_spare_page) classes_are
      ∙ place_found kept.remembered_has_spare_page (has_spare_page state) windows 1 per_page
      (λ i. ap (λ (n : ℕ). nat_le 2 (latest_pages windows (1 + i)) && nat_lt (5 * get_or per_page n 0) (2 * free_of windows (1 + i))) (place i))

  pub fallen_is : (evictions : List ℕ) → length evictions ≡ length classes → kept.remembered_has_fallen classes evictions ≡ has_fallen state evictions
  fallen_is evictions same =
      let place : (i : ℕ) → i ≡ 1 + i - 1 = λ i. omega arith in
      ap (λ (cs : List Watched). kept.remembered_has_fallen cs evictions) classes_are
      ∙ fallen_from windows evictions 1 per_page evictions (same ∙ sym (length-map classes (λ (c : Watched). c.per_page)))
      (λ i. ap (λ (n : ℕ). get_or evictions n 0) (place i))

  -- the rules, from what is found among what is lent
  pub free_rule : (lent : List Watched) (now : DeciderState) (found : Option ℕ) → found ≡ lowest_watched kept.remembered_has_spare_page lent → lent ≡ classes → state ≡ now
      → option_map (λ src. record { src = src; dst = 0 }) found ≡ free_page_rule now
  free_rule lent now found is_found same view =
      ap (option_map (λ src. record { src = src; dst = 0 })) (is_found ∙ ap (lowest_watched kept.remembered_has_spare_page) same ∙ spare_is) ∙ ap free_page_rule view

  pub evictions_rule : (lent : List Watched) (now : DeciderState) (src dst : Option ℕ) → src ≡ lowest_watched has_been_quiet lent → dst ≡ steady_leader leaders
      → lent ≡ classes → state ≡ now → option_and_then (λ d. option_map (λ s. record { src = s; dst = d }) src) dst ≡ eviction_rule now
  evictions_rule lent now src dst is_src is_dst same view =
      ap₂ (λ (s d : Option ℕ). option_and_then (λ e. option_map (λ t. record { src = t; dst = e }) s) d)
      (is_src ∙ ap (lowest_watched has_been_quiet) same ∙ quiet_is) (is_dst ∙ steady_is)
      ∙ ap eviction_rule view

-- fresh classes, by the chunks of their pages
pages_fresh : (page : ℕ) (sizes : List ℕ) → numbers_of_pages (map (λ size. fresh_class (page / size)) sizes) ≡ map (λ size. page / size) sizes
pages_fresh page [] = refl
pages_fresh page (size ∷ sizes) = ap (λ (ns : List ℕ). page / size ∷ ns) (pages_fresh page sizes)

fresh_again : (page : ℕ) (sizes : List ℕ)
    → map fresh_class (numbers_of_pages (map (λ size. fresh_class (page / size)) sizes)) ≡ map (λ size. fresh_class (page / size)) sizes
fresh_again page [] = refl
fresh_again page (size ∷ sizes) = ap (λ (cs : List Watched). fresh_class (page / size) ∷ cs) (fresh_again page sizes)

-- what is remembered after one more window
module _ (classes : List Watched) (leaders : List (Option ℕ)) (windows : List Window) (evictions pages free : List ℕ) (is : IsRemembered classes leaders windows)
    (le : length evictions ≡ length classes) (lg : length pages ≡ length classes) (lf : length free ≡ length classes) where
  abbrev newest : Window
  newest = record { evictions = evictions; pages = pages; free = free }

  abbrev noted : List Watched
  noted = all_noted classes evictions pages free

  same_pages : numbers_of_pages noted ≡ numbers_of_pages classes
  same_pages = pages_noted classes evictions pages free le lg lf

  pub length_noted : length noted ≡ length classes
  length_noted =
      sym (length-map noted (λ (c : Watched). c.per_page)) ∙ ap (λ (ns : List ℕ). length ns) same_pages ∙ length-map classes (λ (c : Watched). c.per_page)

  pub remembered_more : (new : List Watched) (led : Option ℕ) (more : List Window) → new ≡ noted → led ≡ leader_of new → more ≡ newest ∷ windows
      → IsRemembered new (led ∷ take 2 leaders) more
  remembered_more new led more is_new is_led is_more =
      let before : WatchMemory = record { classes = classes; leaders = leaders } in
      let counted : length (numbers_of_pages noted) ≡ length classes = ap (λ (ns : List ℕ). length ns) same_pages ∙ length-map classes (λ (c : Watched). c.per_page) in
      let now : after_noted before newest ≡ memory_of_windows (numbers_of_pages noted) (newest ∷ windows)
      = ap (λ (r : WatchMemory). after_noted r newest) (is.same ∙ ap (λ (ns : List ℕ). memory_of_windows ns windows) (sym same_pages)) in
      let all : IsRemembered noted (leader_of noted ∷ take 2 leaders) (newest ∷ windows)
      = record {
        same = now;
        whole = (
          le ∙ sym counted,
          lg ∙ sym counted,
          lf ∙ sym counted,
          subst (λ (n : ℕ). AreWindowsOf n windows) (length-map classes (λ (c : Watched). c.per_page) ∙ sym counted) is.whole,
        );
      } in
      rw (is_led, is_new, is_more) all

  pub state_more : (new : List Watched) (more : List Window) (now : DeciderState) → new ≡ noted → more ≡ newest ∷ windows
      → record { per_page = numbers_of_pages classes; windows = windows } ≡ now
      → record { per_page = numbers_of_pages new; windows = more } ≡ after_window now evictions pages free
  state_more new more now is_new is_more view =
      ap₂ (λ (ns : List ℕ) (ws : List Window). record { per_page = ns; windows = ws }) (ap numbers_of_pages is_new ∙ same_pages) is_more
      ∙ ap (λ (d : DeciderState). after_window d evictions pages free) view

  -- no list is of another length, so the numbers are refused where evictions fall
  pub refused_by : (fallen : Bool) (lent : List Watched) (now : DeciderState) → fallen ≡ kept.remembered_has_fallen lent evictions → lent ≡ classes
      → record { per_page = numbers_of_pages classes; windows = windows } ≡ now
      → feed_refusal now evictions pages free ≡ (if fallen then Some Backwards else None)
  refused_by fallen lent now tells same view =
      let state : DeciderState = record { per_page = numbers_of_pages classes; windows = windows } in
      let count : length (numbers_of_pages classes) ≡ length classes = length-map classes (λ (c : Watched). c.per_page) in
      let falls : fallen ≡ has_fallen state evictions
      = tells ∙ ap (λ (cs : List Watched). kept.remembered_has_fallen cs evictions) same ∙ fallen_is classes leaders windows is evictions le in
      let passes : (length evictions == length (numbers_of_pages classes) && length pages == length (numbers_of_pages classes) && length free == length (numbers_of_pages classes)) ≡ true
      = grind (arith, nat_tests, le, lg, lf, count) in
      ap (λ (d : DeciderState). feed_refusal d evictions pages free) (sym view)
      ∙ ap (λ (b : Bool). if not b then Some Length else if has_fallen state evictions then Some Backwards else None) passes
      ∙ ap (λ (b : Bool). if b then Some Backwards else None) (sym falls)

-- before any window
pub remembered_fresh : (page : ℕ) (sizes : List ℕ) (classes : List Watched) (leaders : List (Option ℕ)) (windows : List Window)
    → classes ≡ map (λ size. fresh_class (page / size)) sizes → leaders ≡ None ∷ None ∷ None ∷ [] → windows ≡ []
    → IsRemembered classes leaders windows × (numbers_of_pages classes ≡ map (λ size. page / size) sizes)
remembered_fresh page sizes classes leaders windows is_classes is_leaders is_windows = rw (is_classes, is_leaders, is_windows) (
  record {
    same = ap (λ (cs : List Watched). record { classes = cs; leaders = None ∷ None ∷ None ∷ [] }) (sym (fresh_again page sizes));
    whole = tt;
  },
  pages_fresh page sizes,
)
