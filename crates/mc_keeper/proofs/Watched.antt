-- The decider refuses no window: what each change of the pages and chunks does to the counters of evictions.
use Rattle.std.proofs.Common.{◌≡◌, ℕ, ◌+◌, ◌-◌, ◌/◌, ◌^◌, ◌<◌, ◌≤◌, List, [], ◌∷◌, length, get_or, set, map, suc, zero, Bool, true, false, Option, None, refl, ap, sym, ◌∙◌, arith, le-ltb}
use Rattle.std.specs.Prelude.{◌==◌, nat_lt, fold, Result, Ok, Err, IfOk, OnOk, OnErr}
use Rattle.std.specs.List.{list_any, range_with_len}
use Rattle.std.proofs.Math.Seq.{map-set_same}
use Rattle.std.proofs.lemmas.Bool.Decides.{nat_tests}
use Rattle.std.proofs.lemmas.List.{get_or-map, length-map, length-set, map-set}
use Rattle.mc_classes.specs.Classes.{Classes}
use Rattle.mc_pages.specs.declared.ids.ChunkId.{ChunkId}
use Rattle.mc_pages.specs.declared.ids.Moving.{Moving}
use Rattle.mc_pages.specs.ClassState.{ClassState, new_class, class_after_hand_out, class_after_pop, put_back, class_after_touch, class_after_replacement, class_after_clear, counter_after, class_after_eviction, with_page, without_page}
use Rattle.mc_pages.specs.SlabState.{SlabState, HasClass, class_at, class_of_page, class_of_chunk, fresh_slabs}
use Rattle.mc_pages.specs.Changes.{with_class, with_given, after_back, after_clear, after_cut, after_evicted, after_grow, after_pop, after_replace, after_touch}
use Rattle.mc_pages.specs.declared.moves.Reassign.{Reassign}
use Rattle.mc_pages.specs.Answer.{answer_of, MayAnswer}
use Rattle.mc_pages.specs.Moves.{after_begin, after_page_release, after_move_end}
use Rattle.mc_watch.specs.Decider.{DeciderState, Window, after_window, evictions_of, fresh_decider, has_fallen, class_value, feed_refusal}
use Rattle.mc_serial_spec.specs.Automove.{eviction_counts, free_counts, class_page_counts}
use Rattle.mc_serial_spec.specs.Machine.{with_mode}
use Rattle.mc_keeper.specs.Kept.{IsWatched}
use Rattle.mc_pages.proofs.NextPage.{classes-grown}

-- ---- the counters through each change

evictions-with_class : (slabs : SlabState) (class : ℕ) (state : ClassState) → state.evictions ≡ (class_at slabs class).evictions
    → eviction_counts (with_class slabs class state) ≡ eviction_counts slabs
evictions-with_class slabs class state same = map-set_same (λ (c : ClassState). c.evictions) slabs.classes (class - 1) state (new_class 0 0) same

evictions-handed : (class : ClassState) (free : List ChunkId) → (class_after_hand_out class free).evictions ≡ class.evictions
evictions-handed class [] = refl
evictions-handed class (c ∷ free) = refl

evictions-pop : (slabs : SlabState) (class : ℕ) → eviction_counts (after_pop slabs class) ≡ eviction_counts slabs
evictions-pop slabs class = evictions-with_class slabs class (class_after_pop (class_at slabs class)) (evictions-handed (class_at slabs class) (class_at slabs class).free)

evictions-cuts : (slabs : SlabState) (chunks : List ChunkId) → eviction_counts (fold after_cut slabs chunks) ≡ eviction_counts slabs
evictions-cuts slabs [] = refl
evictions-cuts slabs (c ∷ chunks) = evictions-cuts (after_cut slabs c) chunks ∙ evictions-with_class slabs (class_of_page slabs c.page) _ refl

evictions-grown : (slabs : SlabState) (class page : ℕ) (chunks : List ChunkId) → eviction_counts (fold after_cut (after_grow slabs class page) chunks) ≡ eviction_counts slabs
evictions-grown slabs class page chunks =
    evictions-cuts (after_grow slabs class page) chunks
    ∙ ap (λ cs. map (λ (c : ClassState). c.evictions) cs) (classes-grown slabs class page)
    ∙ evictions-with_class slabs class (with_page (class_at slabs class) page) refl

evictions-released : (slabs : SlabState) (page src : ℕ) → eviction_counts (after_page_release slabs page src) ≡ eviction_counts slabs
evictions-released slabs page src = evictions-with_class slabs src (without_page (class_at slabs src) page) refl

evictions-given : (slabs : SlabState) (page src dst : ℕ) → eviction_counts (with_given (after_page_release slabs page src) dst page) ≡ eviction_counts slabs
evictions-given slabs page src dst =
    let pool : SlabState = after_page_release slabs page src in
    evictions-with_class pool dst (with_page (class_at pool dst) page) refl ∙ evictions-released slabs page src

finished_way : (b : Bool) (slabs : SlabState) (move : Moving) → (move.dst == 0) ≡ b → eviction_counts (after_move_end slabs move) ≡ eviction_counts slabs
finished_way true slabs move pool = rw pool (evictions-released slabs move.page move.src)
finished_way false slabs move class = rw class (evictions-given slabs move.page move.src move.dst)

evictions-finished : (slabs : SlabState) (move : Moving) → eviction_counts (after_move_end slabs move) ≡ eviction_counts slabs
evictions-finished slabs move = finished_way (move.dst == 0) slabs move refl

-- ---- what is kept

-- the counters are as before
pub watched-same : (old new : SlabState) (decider : DeciderState) → eviction_counts new ≡ eviction_counts old → IsWatched old decider → IsWatched new decider
watched-same old new decider same was = record {
  of_each = was.of_each ∙ sym (length-map old.classes (λ (c : ClassState). c.evictions)) ∙ sym (ap (λ (l : List ℕ). length l) same)
      ∙ length-map new.classes (λ (c : ClassState). c.evictions);
  risen = λ class. rw same (was.risen class);
  small = λ place. rw same (was.small place);
}

module _ (slabs : SlabState) (decider : DeciderState) (was : IsWatched slabs decider) where
  pub watched-back : (chunk : ChunkId) → IsWatched (after_back slabs chunk) decider
  watched-back chunk =
      watched-same slabs _ decider (evictions-with_class slabs (class_of_page slabs chunk.page) (put_back (class_of_chunk slabs chunk) chunk) refl) was

  pub watched-touch : (chunk : ChunkId) → IsWatched (after_touch slabs chunk) decider
  watched-touch chunk =
      watched-same slabs _ decider (evictions-with_class slabs (class_of_page slabs chunk.page) (class_after_touch (class_of_chunk slabs chunk) chunk) refl) was

  pub watched-replace : (new old : ChunkId) → IsWatched (after_replace slabs new old) decider
  watched-replace new old =
      watched-same slabs _ decider (evictions-with_class slabs (class_of_page slabs old.page) (class_after_replacement (class_of_chunk slabs old) new old) refl) was

  pub watched-clear : (chunk : ChunkId) → IsWatched (after_clear slabs chunk) decider
  watched-clear chunk =
      watched-same slabs _ decider (evictions-with_class slabs (class_of_page slabs chunk.page) (class_after_clear (class_of_chunk slabs chunk) chunk) refl) was

  pub watched-pop : (class : ℕ) → IsWatched (after_pop slabs class) decider
  watched-pop class = watched-same slabs _ decider (evictions-pop slabs class) was

  pub watched-grown : (class page : ℕ) (chunks : List ChunkId) → IsWatched (fold after_cut (after_grow slabs class page) chunks) decider
  watched-grown class page chunks = watched-same slabs _ decider (evictions-grown slabs class page chunks) was

  pub watched-finished : (move : Moving) → IsWatched (after_move_end slabs move) decider
  watched-finished move = watched-same slabs _ decider (evictions-finished slabs move) was

  pub watched-recut : (move : Moving) (chunks : List ChunkId) → IsWatched (fold after_cut (after_move_end slabs move) chunks) decider
  watched-recut move chunks = watched-same slabs _ decider (evictions-cuts (after_move_end slabs move) chunks ∙ evictions-finished slabs move) was

-- a page begins to move, or doesn't
module _ (slabs new : SlabState) (decider : DeciderState) (src : Option ℕ) (dst : ℕ) (was : IsWatched slabs decider) where
  begun_as : (answer : Result ℕ Reassign) (result : Result (Unit {0}) Reassign) → MayAnswer answer result
      → OnOk result (IfOk answer (λ source. new ≡ after_begin slabs src source dst)) → OnErr result (new ≡ slabs) → IsWatched new decider
  begun_as answer (Err refusal) may began same = rw same was
  begun_as (Ok source) (Ok unit) may began same = rw began (watched-same slabs _ decider refl was)
  begun_as (Err refusal) (Ok unit) may began same = cc

  pub watched_begun : (result : Result (Unit {0}) Reassign) → MayAnswer (answer_of slabs src dst) result
      → OnOk result (IfOk (answer_of slabs src dst) (λ source. new ≡ after_begin slabs src source dst)) → OnErr result (new ≡ slabs)
      → IsWatched new decider
  watched_begun result may began same = begun_as (answer_of slabs src dst) result may began same

-- one counter is not lower than before
risen-set : (counts : List ℕ) (place count other least : ℕ) → get_or counts place 0 ≤ count → least ≤ get_or counts other 0 → least ≤ get_or (set counts place count) other 0
risen-set [] place count other least above risen = risen
risen-set (c ∷ counts) zero count zero least above risen = omega (arith, above, risen)
risen-set (c ∷ counts) zero count (suc other) least above risen = risen
risen-set (c ∷ counts) (suc place) count zero least above risen = risen
risen-set (c ∷ counts) (suc place) count (suc other) least above risen = risen-set counts place count other least above risen

small-set : (counts : List ℕ) (place count other : ℕ) → count < 2 ^ 64 → get_or counts other 0 < 2 ^ 64 → get_or (set counts place count) other 0 < 2 ^ 64
small-set [] place count other within_limit small = small
small-set (c ∷ counts) zero count zero within_limit small = within_limit
small-set (c ∷ counts) zero count (suc other) within_limit small = small
small-set (c ∷ counts) (suc place) count zero within_limit small = small
small-set (c ∷ counts) (suc place) count (suc other) within_limit small = small-set counts place count other within_limit small

-- one more item of a class was evicted
pub watched-evicted : (slabs : SlabState) (class : ℕ) (decider : DeciderState) → HasClass slabs class → IsWatched slabs decider → IsWatched (after_evicted slabs class) decider
watched-evicted slabs class decider valid was =
    let count : ℕ = (class_at slabs class).evictions in
    let inside : class - 1 < length slabs.classes = omega (arith, valid.0, valid.1) in
    let here : get_or (eviction_counts slabs) (class - 1) 0 ≡ count = get_or-map (λ (c : ClassState). c.evictions) slabs.classes (class - 1) (new_class 0 0) 0 inside in
    let within_limit : count < 2 ^ 64 = rw here at (was.small (class - 1)) in
    let above : get_or (eviction_counts slabs) (class - 1) 0 ≤ counter_after count 1 = rw here (grind (arith, nat_tests)) in
    let less : counter_after count 1 < 2 ^ 64 = grind (arith, nat_tests) in
    let now : eviction_counts (after_evicted slabs class) ≡ set (eviction_counts slabs) (class - 1) (counter_after count 1)
    = map-set (λ (c : ClassState). c.evictions) slabs.classes (class - 1) (class_after_eviction (class_at slabs class)) in
    record {
      of_each = was.of_each ∙ sym (length-set slabs.classes (class - 1) (class_after_eviction (class_at slabs class)));
      risen = λ other. rw now (risen-set (eviction_counts slabs) (class - 1) (counter_after count 1) (other - 1) (evictions_of decider.windows other) above (was.risen other));
      small = λ place. rw now (small-set (eviction_counts slabs) (class - 1) (counter_after count 1) place less (was.small place));
    }

-- no counter of a table is too large
small-fresh : (page : ℕ) (sizes : List ℕ) (place : ℕ)
    → get_or (map (λ (c : ClassState). c.evictions) (map (λ size. new_class size (page / size)) sizes)) place 0 < 2 ^ 64
small-fresh page [] place = omega arith
small-fresh page (size ∷ sizes) zero = omega arith
small-fresh page (size ∷ sizes) (suc place) = small-fresh page sizes place

-- nothing is stored yet
pub watched_fresh : (table : Classes) (mode : ℕ) (slabs : SlabState) (decider : DeciderState)
    → slabs ≡ with_mode (fresh_slabs table) mode → decider ≡ fresh_decider table → IsWatched slabs decider
watched_fresh table mode slabs decider slabs_is decider_is = rw (slabs_is, decider_is) (record {
  of_each = length-map table.sizes (λ size. table.page / size) ∙ sym (length-map table.sizes (λ size. new_class size (table.page / size)));
  risen = λ class. omega arith;
  small = small-fresh table.page table.sizes;
})

-- ---- a window

-- where no class has fewer evictions, none has fallen
none_fallen : (evictions : List ℕ) (windows : List Window) (class count : ℕ) → ((c : ℕ) → evictions_of windows c ≤ class_value evictions c)
    → list_any (λ c. nat_lt (class_value evictions c) (evictions_of windows c)) (range_with_len class count) ≡ false
none_fallen evictions windows class zero risen = refl
none_fallen evictions windows class (suc count) risen =
    rw (le-ltb (class_value evictions class) (evictions_of windows class) (risen class)) (none_fallen evictions windows (class + 1) count risen)

-- the numbers are taken
pub taken : (slabs : SlabState) (decider : DeciderState) → IsWatched slabs decider
    → feed_refusal decider (eviction_counts slabs) (class_page_counts slabs) (free_counts slabs) ≡ None
taken slabs decider was =
    let evictions : length (eviction_counts slabs) ≡ length decider.per_page = length-map slabs.classes (λ (c : ClassState). c.evictions) ∙ sym was.of_each in
    let pages : length (class_page_counts slabs) ≡ length decider.per_page = length-map slabs.classes (λ (c : ClassState). length c.pages) ∙ sym was.of_each in
    let free : length (free_counts slabs) ≡ length decider.per_page = length-map slabs.classes (λ (c : ClassState). length c.free) ∙ sym was.of_each in
    let risen : has_fallen decider (eviction_counts slabs) ≡ false = none_fallen (eviction_counts slabs) decider.windows 1 (length decider.per_page) was.risen in
    grind (arith, nat_tests, evictions, pages, free, risen)

-- and none has fallen since
pub watched-window : (slabs : SlabState) (decider : DeciderState) → IsWatched slabs decider
    → IsWatched slabs (after_window decider (eviction_counts slabs) (class_page_counts slabs) (free_counts slabs))
watched-window slabs decider was = record { of_each = was.of_each; risen = λ class. omega arith; small = was.small }

-- the decider has learned the numbers of a window, as the counts tell them
pub watched_fed : (slabs seen : SlabState) (decider fed : DeciderState) (evictions pages free : List ℕ) → IsWatched slabs decider → seen ≡ slabs
    → evictions ≡ eviction_counts seen → pages ≡ class_page_counts seen → free ≡ free_counts seen
    → fed ≡ after_window decider evictions pages free → IsWatched slabs fed
watched_fed slabs seen decider fed evictions pages free was same e p f is =
    rw (is, e, p, f, same) (watched-window slabs decider was)

-- and doesn't refuse them
pub taken_fed : (slabs seen : SlabState) (decider : DeciderState) (evictions pages free : List ℕ) → IsWatched slabs decider → seen ≡ slabs
    → evictions ≡ eviction_counts seen → pages ≡ class_page_counts seen → free ≡ free_counts seen → feed_refusal decider evictions pages free ≡ None
taken_fed slabs seen decider evictions pages free was same e p f = rw (e, p, f, same) (taken slabs decider was)
