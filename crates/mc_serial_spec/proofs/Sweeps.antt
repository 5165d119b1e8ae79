-- A sweep, one dead chunk after another.
use Rattle.std.proofs.Common.{◌≡◌, ℕ, ◌+◌, ◌≤◌, ◌<◌, List, [], ◌∷◌, ◌++◌, length, take, drop, get_or, zero, suc, Bool, true, false, Some, None, refl, ap, sym, ◌∙◌, arith}
use Rattle.std.specs.Prelude.{fold, filter, slice_get}
use Rattle.std.proofs.lemmas.Bool.Decides.{nat_tests}
use Rattle.std.proofs.lemmas.List.{length-set, take-append-drop, take_more, take_all, length-append, length-take}
use Rattle.std.proofs.lemmas.Option.{get_or_from_slice_get, slice_get_within}
use Rattle.std.proofs.Math.Seq.{drop-cons, take-append_seam, take-nil}
use Rattle.std.proofs.lemmas.List.Elements.{filter-append}
use Rattle.mc_pages.specs.declared.ids.ChunkId.{ChunkId}
use Rattle.mc_pages.specs.ClassState.{ClassState, is_chunk, times_in, without, put_back}
use Rattle.mc_pages.specs.SlabState.{HasClass, class_at, class_of_page}
use Rattle.mc_serial_spec.specs.Items.{Items, item_in_chunk, without_item}
use Rattle.mc_serial_spec.specs.Machine.{Machine, is_dead_in, after_reclaim, machine_after_sweep}
use Rattle.mc_pages.proofs.Chunks.{same_from_is_chunk, is_chunk-same, times-cons, times-append}
use Rattle.mc_pages.proofs.OneClass.{class_at-with_class_same}

-- another chunk's item stays
pub item_at-without_item : (items : Items) (x y : ChunkId) → is_chunk x y ≡ false → item_in_chunk (without_item items x) y ≡ item_in_chunk items y
item_at-without_item [] x y apart = refl
item_at-without_item (e ∷ items) x y apart = grind (arith, nat_tests, item_at-without_item items x y apart)

-- where none before it passes and the chunk does, the chunk's first place is there
without-append : (p : ChunkId → Bool) (x : ChunkId) (before after : List ChunkId) → filter p before ≡ [] → p x ≡ true
    → without x (before ++ x ∷ after) ≡ before ++ after
without-append p x [] after none pass = rw (is_chunk-same x) refl
without-append p x (c ∷ before) after none pass = without_step (p c) (is_chunk c x) refl refl (without-append p x before after)
  where
    without_step : (b s : Bool) → p c ≡ b → is_chunk c x ≡ s
        → (filter p before ≡ [] → p x ≡ true → without x (before ++ x ∷ after) ≡ before ++ after)
        → without x ((c ∷ before) ++ x ∷ after) ≡ (c ∷ before) ++ after
    without_step true s is same more = let bad : c ∷ filter p before ≡ [] = rw is at none in cc
    without_step false true is same more =
        let one : c ≡ x = same_from_is_chunk c x same in
        let bad : p c ≡ true = rw one pass in cc
    without_step false false is same more =
        let rest : filter p before ≡ [] = rw is at none in
        rw same (ap (λ cs. c ∷ cs) (more rest pass))

-- the tests of the other chunks stay as they were
pub is_dead-reclaimed : (m : Machine) (x y : ChunkId) → is_chunk x y ≡ false → is_dead_in (after_reclaim m x) y ≡ is_dead_in m y
is_dead-reclaimed m x y apart = rw (item_at-without_item m.items x y apart) refl

filter-reclaimed : (m : Machine) (x : ChunkId) (chunks : List ChunkId) → times_in x chunks ≡ 0
    → filter (is_dead_in (after_reclaim m x)) chunks ≡ filter (is_dead_in m) chunks
filter-reclaimed m x [] none = refl
filter-reclaimed m x (c ∷ chunks) none =
    let apart : is_chunk c x ≡ false = grind (arith, nat_tests, times-cons x c chunks) in
    let apart_too : is_chunk x c ≡ false = grind (arith, nat_tests) in
    let rest : times_in x chunks ≡ 0 = omega (arith, times-cons x c chunks) in
    keeps_one (is_dead_in m) (is_dead_in (after_reclaim m x)) c chunks (is_dead-reclaimed m x c apart_too) (filter-reclaimed m x chunks rest)
  where
    keeps_one : (p q : ChunkId → Bool) (c : ChunkId) (chunks : List ChunkId) → q c ≡ p c → filter q chunks ≡ filter p chunks → filter q (c ∷ chunks) ≡ filter p (c ∷ chunks)
    keeps_one p q c chunks same rest = rw (same, rest) refl

-- a list at one of its places
pub split_at : (chunks : List ChunkId) (place : ℕ) (x : ChunkId) → slice_get chunks place ≡ Some x
    → chunks ≡ take place chunks ++ x ∷ drop (suc place) chunks
split_at chunks place x at =
    let inside : place < length chunks = slice_get_within chunks place x at in
    let here : get_or chunks place x ≡ x = get_or_from_slice_get chunks place x x at in
    sym (take-append-drop place chunks) ∙ ap (λ cs. take place chunks ++ cs) (rw (drop-cons chunks place x inside, here) refl)

-- a dead chunk in a hand-out order, with no other before it
pub record FindsDead (m : Machine) (before : List ChunkId) (x : ChunkId) (after : List ChunkId) : Type 0 where
  -- the dead: this chunk first
  pub dead : filter (is_dead_in m) (before ++ x ∷ after) ≡ x ∷ filter (is_dead_in m) after
  -- without it
  pub taken : without x (before ++ x ∷ after) ≡ before ++ after
  -- the dead then
  pub left : filter (is_dead_in (after_reclaim m x)) (before ++ after) ≡ filter (is_dead_in m) after
  -- still none before
  pub none : filter (is_dead_in (after_reclaim m x)) before ≡ []

-- what passes in a list at one of its places, where none before it does
filter-at : (p : ChunkId → Bool) (before : List ChunkId) (x : ChunkId) (after : List ChunkId) → filter p before ≡ [] → p x ≡ true
    → filter p (before ++ x ∷ after) ≡ x ∷ filter p after
filter-at p before x after none passes = filter-append p before (x ∷ after) ∙ rw (none, passes) refl

filter-behind : (p : ChunkId → Bool) (before after found : List ChunkId) → filter p before ≡ [] → filter p after ≡ found → filter p (before ++ after) ≡ found
filter-behind p before after found none is = filter-append p before after ∙ rw (none, is) refl

pub finds_dead : (m : Machine) (before : List ChunkId) (x : ChunkId) (after : List ChunkId) → times_in x (before ++ x ∷ after) ≤ 1
    → filter (is_dead_in m) before ≡ [] → is_dead_in m x ≡ true → FindsDead m before x after
finds_dead m before x after once none dead =
    let here : times_in x (x ∷ after) ≡ 1 + times_in x after = rw (times-cons x x after, is_chunk-same x) refl in
    let none_before : times_in x before ≡ 0 = omega (arith, here, times-append x before (x ∷ after)) in
    let none_after : times_in x after ≡ 0 = omega (arith, here, times-append x before (x ∷ after)) in
    let none_then : filter (is_dead_in (after_reclaim m x)) before ≡ [] = filter-reclaimed m x before none_before ∙ none in
    record {
      dead = filter-at (is_dead_in m) before x after none dead;
      taken = without-append (is_dead_in m) x before after none dead;
      left = filter-behind (is_dead_in (after_reclaim m x)) before after (filter (is_dead_in m) after) none_then (filter-reclaimed m x after none_after);
      none = none_then;
    }

-- where a chunk is left out, the one behind it comes to its place
skipped : (chunks : List ChunkId) (place : ℕ) → slice_get (take place chunks ++ drop (suc place) chunks) place ≡ slice_get chunks (place + 1)
skipped [] place = rw (take-nil place) refl
skipped (c ∷ chunks) zero = refl
skipped (c ∷ chunks) (suc place) =
    let next : suc place + 1 ≡ suc (place + 1) = omega arith in
    rw next (skipped chunks place)

-- one turn of a sweep: the first dead chunk is put back, and the rest of the sweep is what it was
pub record SweepsOn (m : Machine) (class : ℕ) (place : ℕ) (x : ChunkId) : Type 0 where
  pub same : machine_after_sweep (after_reclaim m x) class ≡ machine_after_sweep m class
  pub none : filter (is_dead_in (after_reclaim m x)) (take place (class_at (after_reclaim m x).slabs class).order) ≡ []
  pub shorter : length (class_at (after_reclaim m x).slabs class).order + 1 ≡ length (class_at m.slabs class).order
  pub within : place ≤ length (class_at (after_reclaim m x).slabs class).order
  -- the chunk behind it comes to its place
  pub behind : slice_get (class_at (after_reclaim m x).slabs class).order place ≡ slice_get (class_at m.slabs class).order (place + 1)
  pub once : (y : ChunkId) → times_in y (class_at m.slabs class).order ≤ 1 → times_in y (class_at (after_reclaim m x).slabs class).order ≤ 1

pub sweeps_on : (m : Machine) (class place : ℕ) (x : ChunkId) → HasClass m.slabs class → class_of_page m.slabs x.page ≡ class
    → times_in x (class_at m.slabs class).order ≤ 1 → slice_get (class_at m.slabs class).order place ≡ Some x
    → filter (is_dead_in m) (take place (class_at m.slabs class).order) ≡ [] → is_dead_in m x ≡ true → SweepsOn m class place x
sweeps_on m class place x valid own once at none dead =
    let order : List ChunkId = (class_at m.slabs class).order in
    let before : List ChunkId = take place order in
    let after : List ChunkId = drop (suc place) order in
    let split : order ≡ before ++ x ∷ after = split_at order place x at in
    let once_there : times_in x (before ++ x ∷ after) ≤ 1 = rw split at once in
    let found : FindsDead m before x after = finds_dead m before x after once_there none dead in
    let inside : place < length order = slice_get_within order place x at in
    let long : length before ≡ place = omega (arith, length-take place order) in
    let new_class : class_at (after_reclaim m x).slabs class ≡ put_back (class_at m.slabs class) x
    = rw own (class_at-with_class_same m.slabs class (put_back (class_at m.slabs class) x) valid) in
    let new_order : (class_at (after_reclaim m x).slabs class).order ≡ before ++ after
    = ap (λ (c : ClassState). c.order) new_class ∙ ap (λ cs. without x cs) split ∙ found.taken in
    let kept_before : take place (before ++ after) ≡ before
    = ap (λ n. take n (before ++ after)) (sym long) ∙ take-append_seam before after in
    let lengths : length order ≡ length before + suc (length after) = ap length split ∙ length-append before (x ∷ after) in
    let new_length : length (class_at (after_reclaim m x).slabs class).order ≡ length before + length after
    = ap length new_order ∙ length-append before after in
    record {
      same = ap (λ cs. fold after_reclaim (after_reclaim m x) cs) (ap (λ cs. filter (is_dead_in (after_reclaim m x)) cs) new_order ∙ found.left)
          ∙ sym (ap (λ cs. fold after_reclaim m cs) (ap (λ cs. filter (is_dead_in m) cs) split ∙ found.dead));
      none = ap (λ cs. filter (is_dead_in (after_reclaim m x)) cs) (ap (λ cs. take place cs) new_order ∙ kept_before) ∙ found.none;
      shorter = omega (arith, lengths, new_length);
      within = omega (arith, long, new_length);
      behind = ap (λ cs. slice_get cs place) new_order ∙ skipped order place;
      once = λ y one.
          omega (arith, one, ap (λ cs. times_in y cs) split, ap (λ cs. times_in y cs) new_order, times-append y before (x ∷ after), times-append y before after, times-cons y x after);
    }

-- where no chunk up to a place is dead and the chunk there isn't, none up to the next place is
pub none_more : (m : Machine) (order : List ChunkId) (place : ℕ) (x : ChunkId) → slice_get order place ≡ Some x
    → filter (is_dead_in m) (take place order) ≡ [] → is_dead_in m x ≡ false → filter (is_dead_in m) (take (place + 1) order) ≡ []
none_more m order place x at none alive =
    let inside : place < length order = slice_get_within order place x at in
    let here : get_or order place x ≡ x = get_or_from_slice_get order place x x at in
    ap (λ cs. filter (is_dead_in m) cs) (rw (take_more order place x inside, here) refl) ∙ none_behind (is_dead_in m) (take place order) none alive
  where
    none_behind : (p : ChunkId → Bool) (before : List ChunkId) → filter p before ≡ [] → p x ≡ false → filter p (before ++ x ∷ []) ≡ []
    none_behind p before none fails = filter-append p before (x ∷ []) ∙ rw (none, fails) refl

-- where no chunk is dead a sweep changes nothing
pub swept_none : (m : Machine) (class place : ℕ) → filter (is_dead_in m) (take place (class_at m.slabs class).order) ≡ []
    → length (class_at m.slabs class).order ≤ place → machine_after_sweep m class ≡ m
swept_none m class place none all =
    ap (λ cs. fold after_reclaim m cs) (ap (λ cs. filter (is_dead_in m) cs) (sym (take_all place (class_at m.slabs class).order all)) ∙ none)

-- a sweep leaves the table and the number of classes
pub classes-reclaims : (m : Machine) (chunks : List ChunkId) → length (fold after_reclaim m chunks).slabs.classes ≡ length m.slabs.classes
classes-reclaims m [] = refl
classes-reclaims m (c ∷ chunks) = classes-reclaims (after_reclaim m c) chunks ∙ length-set m.slabs.classes _ _

pub table-reclaims : (m : Machine) (chunks : List ChunkId) → (fold after_reclaim m chunks).table ≡ m.table
table-reclaims m [] = refl
table-reclaims m (c ∷ chunks) = table-reclaims (after_reclaim m c) chunks

-- a place with nothing there is past the end
pub past_none : (order : List ChunkId) (place : ℕ) → slice_get order place ≡ None → length order ≤ place
past_none [] place none = omega arith
past_none (c ∷ order) zero none = cc
past_none (c ∷ order) (suc place) none = omega (arith, past_none order place none)
