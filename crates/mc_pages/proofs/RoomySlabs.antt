-- The classes with their room, as the code reads and writes them.
use Rattle.std.proofs.Common.{◌≡◌, ◌≢◌, ℕ, ◌+◌, ◌-◌, ◌*◌, ◌<◌, ◌≤◌, Bool, false, ◌&&◌, nat_lt, if◌then◌else◌, Option, Some, eq-eqb, le-ltb, List, [], ◌∷◌, length, set, slice_index_or, vec_len, refl, sym, ap, ◌∙◌, subst, inl, inr, arith, get_or-set_same, get_or-set_other, length-set}
use Rattle.std.specs.Vec.{with_item}
use Rattle.std.proofs.Math.Bool.{and-false}
use Rattle.std.proofs.Math.Nat.{mul-le-mul, mul-le-mul_right}
use Rattle.std.proofs.lemmas.Bool.{cases_eq, cases_lt}
use Rattle.std.proofs.lemmas.List.{get_or_read, get_or_past}
use Rattle.mc_classes.specs.Limits.{most_arena_pages, most_page_chunks}
use Rattle.mc_pages.specs.declared.ids.ChunkId.{ChunkId}
use Rattle.mc_pages.specs.declared.rows.ListName.TheVariants.{Free, HandedOut}
use Rattle.mc_pages.specs.declared.rows.Field.TheVariants.{Next, Head}
use Rattle.mc_pages.specs.declared.slabs.Slabs.TheInside.{Inside}
use Rattle.mc_pages.specs.Ledger.{owner_at}
use Rattle.mc_pages.specs.ClassState.{ClassState, new_class, times_in, class_after_pop, class_after_hand_out}
use Rattle.mc_pages.specs.Rows.{RowsState, IsRow, field_of, list_length}
use Rattle.mc_pages.specs.Linked.{Sizes, sizes_of, walk, AreLinked, list_chunks, IsUnlisted}
use Rattle.mc_pages.specs.ClassRows.{IsPlace, HasBecome, with_lists}
use Rattle.mc_pages.specs.Ages.{AgesState, HasAges}
use Rattle.mc_pages.specs.Room.{RoomyClass, in_state, empty_class, class_states}
use Rattle.mc_pages.specs.SlabState.{SlabState, HasClass, class_at, class_of_page, class_of_chunk}
use Rattle.mc_pages.specs.Changes.{with_class}
use Rattle.mc_pages.specs.Accounted.{truth, is_of_class, cut_count, is_cut}
use Rattle.mc_pages.specs.InOrder.{AreSlabsInOrder, HasRows, IsStoredInOrder, slabs_of, page_room, is_awaited}
use Rattle.mc_pages.proofs.Owners.{within_from_class_of_owner}
use Rattle.mc_pages.proofs.OneClass.{class_at-with_class_kept, length-with_class}
use Rattle.mc_pages.proofs.Kept.{pages_below}
use Rattle.mc_pages.proofs.States.{length-states, state_at, pages_at, states-set, states-became}

-- a class with its room, by its number
abbrev pub roomy_at : List RoomyClass → ℕ → RoomyClass
roomy_at classes class = slice_index_or classes (class - 1) empty_class

-- there is room for so many pages more than the class has
abbrev pub Fits : RowsState → List RoomyClass → ℕ → ℕ → Type 0
Fits rows classes more class = length (slice_index_or (class_states rows classes) (class - 1) (new_class 0 0)).pages + more ≤ page_room classes class

-- after a change of one class there is room in each, if the changed class has it
pub Fits-set : (rows : RowsState) (classes : List RoomyClass) (class other more : ℕ) (new : RoomyClass) → 1 ≤ class → class ≤ length classes → 1 ≤ other → (other ≡ class → length new.state.pages + more ≤ new.room) → (other ≢ class → Fits rows classes more other) → Fits rows (set classes (class - 1) new) more other
Fits-set rows classes class other more new first within first_other here there =
    let after = set classes (class - 1) new in
    let now = ap length (pages_at rows after (other - 1)) in
    let before = ap length (pages_at rows classes (other - 1)) in
    elim (cases_eq other class) [
      | inl same ↦
          let is : roomy_at after other ≡ new = ap (λ (n : ℕ). roomy_at after n) same ∙ get_or-set_same classes (class - 1) new _ (omega arith) in
          omega (arith, now, ap (λ (c : RoomyClass). length c.state.pages) is, ap (λ (c : RoomyClass). c.room) is, here same)
      | inr differs ↦
          let is : roomy_at after other ≡ roomy_at classes other = get_or-set_other classes (class - 1) (other - 1) new _ (λ e. differs (omega arith)) in
          omega (arith, now, before, ap (λ (c : RoomyClass). length c.state.pages) is, ap (λ (c : RoomyClass). c.room) is, there differs)
    ]

-- what indexing reads is the class with its room
pub roomy_at_read : (classes : List RoomyClass) (class place : ℕ) (read : RoomyClass) → 1 ≤ class → class ≤ length classes → place ≡ class - 1 → read ≡ slice_index_or classes place read → read ≡ roomy_at classes class
roomy_at_read classes class place read first within at h =
    get_or_read classes (class - 1) read (omega arith) (h ∙ ap (λ (n : ℕ). slice_index_or classes n read) at) _

-- there are as many classes with their room as without
pub length-classes : (slabs : Inside) (class : ℕ) → HasClass (slabs_of slabs) class → class ≤ length slabs.classes.items
length-classes slabs class is = omega (arith, is.1, length-states slabs.rows slabs.classes.items)

-- a class of the changed whole is one of the whole before
pub IsClass-set : (rows : RowsState) (classes : List RoomyClass) (place other : ℕ) (new : RoomyClass) → other ≤ length (class_states rows (set classes place new)) → other ≤ length (class_states rows classes)
IsClass-set rows classes place other new h = omega (arith, length-states rows (set classes place new), length-states rows classes, length-set classes place new)

-- one class with its room is now this
abbrev pub with_roomy : Inside → ℕ → RoomyClass → Inside
with_roomy slabs place new = record slabs { classes = with_item slabs.classes place new }

-- what was read is the class, but for its lists
pub read_state : (slabs : Inside) (class place : ℕ) (read : RoomyClass) → HasClass (slabs_of slabs) class → place ≡ class - 1 → read ≡ slice_index_or slabs.classes.items place read → with_lists read.state slabs.rows (class - 1) ≡ class_at (slabs_of slabs) class
read_state slabs class place read is at h =
    let within = length-classes slabs class is in
    ap (λ (c : RoomyClass). with_lists c.state slabs.rows (class - 1)) (roomy_at_read slabs.classes.items class place read is.0 within at h)
    ∙ sym (state_at slabs.rows slabs.classes.items (class - 1) (new_class 0 0) (omega (arith, is.0, within)))

-- the pages of what was read at any place
pub read_pages : (slabs : Inside) (place : ℕ) (read : RoomyClass) → place < length slabs.classes.items → read ≡ slice_index_or slabs.classes.items place read → read.state.pages ≡ (slice_index_or (slabs_of slabs).classes place (new_class 0 0)).pages
read_pages slabs place read within h =
    ap (λ (c : RoomyClass). c.state.pages) (get_or_read slabs.classes.items place read within h empty_class) ∙ sym (pages_at slabs.rows slabs.classes.items place)

-- and has its room
pub read_room : (slabs : Inside) (class place : ℕ) (read : RoomyClass) → HasClass (slabs_of slabs) class → place ≡ class - 1 → read ≡ slice_index_or slabs.classes.items place read → read.room ≡ page_room slabs.classes.items class
read_room slabs class place read is at h =
    ap (λ (c : RoomyClass). c.room) (roomy_at_read slabs.classes.items class place read is.0 (length-classes slabs class is) at h)

-- a changed class keeps its room where it has as many pages as before
pub fits-changed : (slabs : Inside) (class place : ℕ) (new : RoomyClass) → IsStoredInOrder slabs → HasClass (slabs_of slabs) class → place ≡ class - 1 → length new.state.pages ≡ length (class_at (slabs_of slabs) class).pages → page_room slabs.classes.items class ≤ new.room → (other : ℕ) → HasClass (slabs_of (with_roomy slabs place new)) other → Fits slabs.rows (set slabs.classes.items place new) (truth (is_awaited slabs.moving other)) other
fits-changed slabs class place new kept is at pages room other here =
    let before : HasClass (slabs_of slabs) other = (here.0, IsClass-set slabs.rows slabs.classes.items place other new here.1) in
    let more = truth (is_awaited slabs.moving other) in
    subst (λ (n : ℕ). Fits slabs.rows (set slabs.classes.items n new) more other) (sym at)
    (Fits-set slabs.rows slabs.classes.items class other more new is.0 (length-classes slabs class is) here.0
    (λ same. let e = ap (λ (n : ℕ). truth (is_awaited slabs.moving n)) same in omega (arith, kept.classes class is, e, pages, room))
    (λ differs. kept.classes other before))

-- the classes as callers see them, after a change of one class
pub states-changed : (slabs : Inside) (class place : ℕ) (new : RoomyClass) → HasClass (slabs_of slabs) class → place ≡ class - 1 → class_states slabs.rows (set slabs.classes.items place new) ≡ set (slabs_of slabs).classes (class - 1) (with_lists new.state slabs.rows (class - 1))
states-changed slabs class place new is at =
    let within = length-classes slabs class is in
    ap (λ (n : ℕ). class_states slabs.rows (set slabs.classes.items n new)) at ∙ states-set slabs.rows slabs.classes.items (class - 1) new (omega (arith, is.0, within))

-- the whole as its callers see it, after a change of one class that leaves its lists
pub slabs_of-changed : (slabs : Inside) (class place : ℕ) (read new : RoomyClass) (f : ClassState → ClassState) → HasClass (slabs_of slabs) class → place ≡ class - 1 → read ≡ slice_index_or slabs.classes.items place read → new ≡ in_state read (f read.state) → with_lists (f read.state) slabs.rows (class - 1) ≡ f (with_lists read.state slabs.rows (class - 1)) → slabs_of (with_roomy slabs place new) ≡ with_class (slabs_of slabs) class (f (class_at (slabs_of slabs) class))
slabs_of-changed slabs class place read new f is at h changed apart =
    let state : with_lists new.state slabs.rows (class - 1) ≡ f (class_at (slabs_of slabs) class) = ap (λ (c : RoomyClass). with_lists c.state slabs.rows (class - 1)) changed ∙ (apart ∙ ap f (read_state slabs class place read is at h)) in
    ap (λ (cs : List ClassState). record (slabs_of slabs) { classes = cs }) (states-changed slabs class place new is at)
    ∙ ap (λ (c : ClassState). record (slabs_of slabs) { classes = set (slabs_of slabs).classes (class - 1) c }) state

-- rows stay where a class keeps the size of its chunks
pub HasRows-with_class : (slabs : SlabState) (class pages : ℕ) (sizes : Sizes) (state : ClassState) → HasRows slabs.classes pages sizes → HasClass slabs class → state.per_page ≡ (class_at slabs class).per_page → HasRows (with_class slabs class state).classes pages sizes
HasRows-with_class slabs class pages sizes state has is size =
    let long = length-with_class slabs class state in
    record {
      rows = has.rows;
      most = λ other first. omega (arith, has.most other first, class_at-with_class_kept (λ c. c.per_page) slabs class other state is first size);
      free = omega (arith, has.free, long);
      handed_out = omega (arith, has.handed_out, long);
      free_lengths = omega (arith, has.free_lengths, long);
      handed_out_lengths = omega (arith, has.handed_out_lengths, long);
    }

-- and so they do after a change of one class that leaves its lists
pub HasRows-changed : (slabs : Inside) (class pages : ℕ) (sizes : Sizes) (read new : RoomyClass) (f : ClassState → ClassState) → HasRows (slabs_of slabs).classes pages sizes → HasClass (slabs_of slabs) class → read ≡ slice_index_or slabs.classes.items (class - 1) read → new ≡ in_state read (f read.state) → with_lists (f read.state) slabs.rows (class - 1) ≡ f (with_lists read.state slabs.rows (class - 1)) → (f (class_at (slabs_of slabs) class)).per_page ≡ (class_at (slabs_of slabs) class).per_page → HasRows (slabs_of (with_roomy slabs (class - 1) new)).classes pages sizes
HasRows-changed slabs class pages sizes read new f has is h changed apart size =
    subst (λ (s : SlabState). HasRows s.classes pages sizes) (sym (slabs_of-changed slabs class (class - 1) read new f is refl h changed apart))
    (HasRows-with_class (slabs_of slabs) class pages sizes (f (class_at (slabs_of slabs) class)) has is size)

-- all is kept after a change of one class that leaves its lists and its pages
pub AreKept-changed : (slabs : Inside) (class place : ℕ) (read new : RoomyClass) (f : ClassState → ClassState) → IsStoredInOrder slabs → HasClass (slabs_of slabs) class → place ≡ class - 1 → read ≡ slice_index_or slabs.classes.items place read → new ≡ in_state read (f read.state) → with_lists (f read.state) slabs.rows (class - 1) ≡ f (with_lists read.state slabs.rows (class - 1)) → length (f read.state).pages ≡ length read.state.pages → (f (class_at (slabs_of slabs) class)).per_page ≡ (class_at (slabs_of slabs) class).per_page → AreSlabsInOrder (with_class (slabs_of slabs) class (f (class_at (slabs_of slabs) class))) slabs.granted → IsStoredInOrder (with_roomy slabs place new)
AreKept-changed slabs class place read new f kept is at h changed apart pages size order =
    let now = slabs_of-changed slabs class place read new f is at h changed apart in
    let before = ap (λ (c : ClassState). length c.pages) (read_state slabs class place read is at h) in
    let more = ap (λ (c : RoomyClass). length c.state.pages) changed in
    record {
      order = subst (λ (s : SlabState). AreSlabsInOrder s slabs.granted) (sym now) order;
      ledger = kept.ledger;
      base = kept.base;
      pool = kept.pool;
      classes = fits-changed slabs class place new kept is at (omega (arith, more, pages, before)) (omega (arith, ap (λ (c : RoomyClass). c.room) changed, read_room slabs class place read is at h));
      linked = kept.linked;
      ordinary = kept.ordinary;
      aged = kept.aged;
      rows = subst (λ (s : SlabState). HasRows s.classes (vec_len slabs.owners) (sizes_of slabs.rows)) (sym now)
          (HasRows-with_class (slabs_of slabs) class (vec_len slabs.owners) (sizes_of slabs.rows) (f (class_at (slabs_of slabs) class)) kept.rows is size);
    }

-- other rows
abbrev pub with_rows : Inside → RowsState → Inside
with_rows slabs rows = record slabs { rows = rows }

-- the whole as its callers see it, after a change of the lists of one class
pub slabs_of-became : (slabs : Inside) (after : RowsState) (class place : ℕ) (change : ClassState → ClassState) → HasClass (slabs_of slabs) class → place ≡ class - 1 → HasBecome slabs.rows after place change → slabs_of (with_rows slabs after) ≡ with_class (slabs_of slabs) class (change (class_at (slabs_of slabs) class))
slabs_of-became slabs after class place change is at became =
    let within = length-classes slabs class is in
    let here = subst (λ (n : ℕ). HasBecome slabs.rows after n change) at became in
    ap (λ (cs : List ClassState). record (slabs_of slabs) { classes = cs }) (states-became slabs.rows after slabs.classes.items (class - 1) change (omega (arith, is.0, within)) here)

-- and other ages
abbrev pub with_ages : Inside → RowsState → AgesState → Inside
with_ages slabs rows ages = record slabs { rows = rows; ages = ages }

-- what is kept beside the order, after a change of the lists of one class
pub record AreListed (slabs : Inside) : Type 0 where
  pub classes : (class : ℕ) → HasClass (slabs_of slabs) class → Fits slabs.rows slabs.classes.items (truth (is_awaited slabs.moving class)) class
  pub linked : AreLinked slabs.rows
  pub rows : HasRows (slabs_of slabs).classes (vec_len slabs.owners) (sizes_of slabs.rows)

pub AreKept-lists : (slabs : Inside) (after : RowsState) (class place : ℕ) (change : ClassState → ClassState) → IsStoredInOrder slabs → HasClass (slabs_of slabs) class → place ≡ class - 1 → HasBecome slabs.rows after place change → (change (class_at (slabs_of slabs) class)).per_page ≡ (class_at (slabs_of slabs) class).per_page → AreListed (with_rows slabs after)
AreKept-lists slabs after class place change kept is at became size =
    let now = slabs_of-became slabs after class place change is at became in
    record {
      classes = λ other here.
          let before : HasClass (slabs_of slabs) other = (here.0, omega (arith, here.1, length-states slabs.rows slabs.classes.items, length-states after slabs.classes.items)) in
          omega (arith, kept.classes other before, ap length (pages_at slabs.rows slabs.classes.items (other - 1)), ap length (pages_at after slabs.classes.items (other - 1)));
      linked = became.linked;
      rows = subst (λ (sizes : Sizes). HasRows (slabs_of (with_rows slabs after)).classes (vec_len slabs.owners) sizes) (sym became.sizes)
          (subst (λ (s : SlabState). HasRows s.classes (vec_len slabs.owners) (sizes_of slabs.rows)) (sym now)
          (HasRows-with_class (slabs_of slabs) class (vec_len slabs.owners) (sizes_of slabs.rows) (change (class_at (slabs_of slabs) class)) kept.rows is size));
    }

-- all is kept after a change of the lists of one class, with these ages
pub AreKept-became : (slabs : Inside) (after : RowsState) (ages : AgesState) (class place : ℕ) (change : ClassState → ClassState) → IsStoredInOrder slabs → HasClass (slabs_of slabs) class → place ≡ class - 1 → HasBecome slabs.rows after place change → (change (class_at (slabs_of slabs) class)).per_page ≡ (class_at (slabs_of slabs) class).per_page → AreSlabsInOrder (with_class (slabs_of slabs) class (change (class_at (slabs_of slabs) class))) slabs.granted → HasAges after ages → IsStoredInOrder (with_ages slabs after ages)
AreKept-became slabs after ages class place change kept is at became size order aged =
    let listed = AreKept-lists slabs after class place change kept is at became size in
    record {
      order = subst (λ (s : SlabState). AreSlabsInOrder s slabs.granted) (sym (slabs_of-became slabs after class place change is at became)) order;
      ledger = kept.ledger;
      base = kept.base;
      pool = kept.pool;
      classes = listed.classes;
      linked = listed.linked;
      ordinary = kept.ordinary;
      aged = aged;
      rows = listed.rows;
    }

-- the lists of a class are in the rows
pub IsPlace-class : (slabs : Inside) (class place : ℕ) → IsStoredInOrder slabs → HasClass (slabs_of slabs) class → place ≡ class - 1 → IsPlace slabs.rows place
IsPlace-class slabs class place kept is at =
    let has = kept.rows in
    ((omega (arith, is.0, is.1, at, has.free), omega (arith, is.0, is.1, at, has.free_lengths)), (omega (arith, is.0, is.1, at, has.handed_out), omega (arith, is.0, is.1, at, has.handed_out_lengths)))

-- the lists of a class as the rows have them
pub lists_at : (slabs : Inside) (class place : ℕ) → HasClass (slabs_of slabs) class → place ≡ class - 1 → (list_chunks slabs.rows (Free place) ≡ (class_at (slabs_of slabs) class).free) × (list_chunks slabs.rows (HandedOut place) ≡ (class_at (slabs_of slabs) class).order)
lists_at slabs class place is at =
    let within = length-classes slabs class is in
    let state = sym (state_at slabs.rows slabs.classes.items (class - 1) (new_class 0 0) (omega (arith, is.0, within))) in
    (ap (λ (n : ℕ). list_chunks slabs.rows (Free n)) at ∙ ap (λ (c : ClassState). c.free) state, ap (λ (n : ℕ). list_chunks slabs.rows (HandedOut n)) at ∙ ap (λ (c : ClassState). c.order) state)

-- their lengths are below a bound
pub lengths_below : (slabs : Inside) (class place : ℕ) → IsStoredInOrder slabs → HasClass (slabs_of slabs) class → place ≡ class - 1 → (list_length slabs.rows (Free place) < 65536) × (list_length slabs.rows (HandedOut place) < 65536)
lengths_below slabs class place kept is at =
    let s = slabs_of slabs in
    let state = class_at s class in
    let lists = lists_at slabs class place is at in
    let most : length state.pages * state.per_page ≤ most_arena_pages * most_page_chunks = mul-le-mul (pages_below s slabs.granted class kept.order is) (kept.order.at_most class is) in
    let all = kept.order.accounted.total class is in
    (omega (arith, all, most, kept.linked.long (Free place), ap length lists.0), omega (arith, all, most, kept.linked.long (HandedOut place), ap length lists.1))

-- a chunk that is handed out leaves the size of the chunks
size-handed_out : (class : ClassState) (free : List ChunkId) → (class_after_hand_out class free).per_page ≡ class.per_page
size-handed_out class [] = refl
size-handed_out class (chunk ∷ free) = refl

pub size-popped : (class : ClassState) → (class_after_pop class).per_page ≡ class.per_page
size-popped class = size-handed_out class class.free

-- the lowest uncut chunk of all was cut for no class
not_cut : (slabs : SlabState) (class : ℕ) (chunk : ChunkId) → slabs.uncut ≡ Some chunk → is_cut slabs class chunk ≡ false
not_cut slabs class chunk h =
    let size = (class_at slabs class).per_page in
    let mine = is_of_class class (owner_at slabs.owners chunk.page) in
    let tested : Option ChunkId → Bool = λ uncut. mine && nat_lt chunk.index (cut_count uncut chunk.page size) in
    let here : nat_lt chunk.index (cut_count (Some chunk) chunk.page size) ≡ false =
    ap (λ b. nat_lt chunk.index (if b then chunk.index else size)) (eq-eqb chunk.page chunk.page refl) ∙ le-ltb chunk.index chunk.index (omega arith) in
    ap tested h ∙ (ap (λ b. mine && b) here ∙ and-false mine)

-- so it is in no list
pub unlisted_uncut : (slabs : Inside) (chunk : ChunkId) → IsStoredInOrder slabs → slabs.uncut ≡ Some chunk → IsUnlisted slabs.rows chunk
unlisted_uncut slabs chunk kept h (Free place) =
    let s = slabs_of slabs in
    elim (cases_lt place (length s.classes)) [
      | inl within ↦
          let is : HasClass s (place + 1) = (omega arith, omega (arith, within)) in
          let none = kept.order.accounted.chunks (place + 1) chunk is in
          omega (arith, none, ap truth (not_cut s (place + 1) chunk h), ap (times_in chunk) (lists_at slabs (place + 1) place is (omega arith)).0)
      | inr past ↦ ap (λ (n : ℕ). times_in chunk (walk (λ c. field_of slabs.rows (Next c)) n (field_of slabs.rows (Head (Free place))))) (get_or_past slabs.rows.free_lengths place 0 (omega (arith, past, kept.rows.free_lengths)))
    ]
unlisted_uncut slabs chunk kept h (HandedOut place) =
    let s = slabs_of slabs in
    elim (cases_lt place (length s.classes)) [
      | inl within ↦
          let is : HasClass s (place + 1) = (omega arith, omega (arith, within)) in
          let none = kept.order.accounted.chunks (place + 1) chunk is in
          omega (arith, none, ap truth (not_cut s (place + 1) chunk h), ap (times_in chunk) (lists_at slabs (place + 1) place is (omega arith)).1)
      | inr past ↦ ap (λ (n : ℕ). times_in chunk (walk (λ c. field_of slabs.rows (Next c)) n (field_of slabs.rows (Head (HandedOut place))))) (get_or_past slabs.rows.handed_out_lengths place 0 (omega (arith, past, kept.rows.handed_out_lengths)))
    ]

-- a chunk of a class's page has a row
pub IsRow-page : (slabs : Inside) (chunk : ChunkId) → IsStoredInOrder slabs → HasClass (slabs_of slabs) (class_of_page (slabs_of slabs) chunk.page) → chunk.index < (class_of_chunk (slabs_of slabs) chunk).per_page → IsRow slabs.rows chunk
IsRow-page slabs chunk kept is below =
    let most = slabs.rows.most in
    let within : chunk.index < most = omega (arith, below, kept.rows.most (class_of_page (slabs_of slabs) chunk.page) is.0) in
    let page : chunk.page < length slabs.owners.items = within_from_class_of_owner chunk.page slabs.owners.items is.0 in
    let below : (chunk.page + 1) * most ≤ vec_len slabs.owners * most = mul-le-mul_right most (omega (arith, page)) in
    (within, omega (arith, within, below, kept.rows.rows))

-- and so has the lowest uncut one
pub IsRow-uncut : (slabs : Inside) (chunk : ChunkId) → IsStoredInOrder slabs → slabs.uncut ≡ Some chunk → IsRow slabs.rows chunk
IsRow-uncut slabs chunk kept h =
    let on = kept.order.uncut chunk h in
    IsRow-page slabs chunk kept on.owned on.within
