use Rattle.std.proofs.Common.{◌≡◌, ℕ, ◌+◌, ◌-◌, ◌<◌, ◌≤◌, Bool, not, List, length, vec_len, set, take_all, take, is_some, Some, None, refl, sym, ap, ap₂, ◌∙◌, subst, arith}
use mir.Val.{bool_byte}
use Rattle.std.specs.Vec.{with_item}
use Rattle.mc_pages.specs.declared.ledger.Owner.TheVariants.{Class}
use Rattle.mc_pages.specs.declared.ledger.Entry.{Entry}
use Rattle.mc_pages.specs.declared.ledger.Entry.TheVariants.{Granted, Taken}
use Rattle.mc_pages.specs.declared.slabs.Slabs.TheInside.{Inside}
use Rattle.mc_pages.specs.ClassState.{ClassState, with_page}
use Rattle.mc_pages.specs.SlabState.{SlabState, HasClass, class_at}
use Rattle.mc_pages.specs.Base.{Entries}
use Rattle.mc_pages.specs.Ledger.{ordinary_count}
use Rattle.mc_pages.specs.Changes.{HasNoPageFor, has_ordinary_page, next_page, after_grow, after_take, after_grant}
use Rattle.mc_pages.specs.Accounted.{truth}
use Rattle.mc_pages.specs.Linked.{sizes_of}
use Rattle.mc_pages.specs.Room.{class_states}
use Rattle.mc_pages.specs.InOrder.{AreSlabsInOrder, HasRows, IsStoredInOrder, slabs_of, is_awaited}
use Rattle.mc_pages.proofs.Grace.{add_zero, ordinary_count-push}
use Rattle.mc_pages.proofs.Kept.{pages_below}
use Rattle.mc_pages.proofs.KeptPages.{IsInOrder-after_take, IsInOrder-after_grant}
use Rattle.mc_pages.proofs.Trimmed.{told_entries}
use Rattle.mc_pages.proofs.RoomySlabs.{Fits, length-classes, read_state, with_roomy, HasRows-with_class}
use Rattle.mc_pages.proofs.RoomyGrow.{on_err, truth_le, truth_byte, grow_takes, grow_grants, take_is, grant_is, next_pooled, next_granted, next_none, fits-given, next_within, states_roomier, fits-roomier}
use Rattle.mc_pages.proofs.Roomy.{same_state}
use Rattle.mc_pages.proofs.slabs.Slabs.grow.Goals as goal
use Rattle.mc_pages.proofs.slabs.Slabs.grow.Goals.{After-page_count, in-Some, in-None}

-- the class that gets a page is one of the classes
is_class : (c : After-page_count) → HasClass (slabs_of c.self.inside) c.args.class
is_class c = subst (λ (s : SlabState). HasClass s c.args.class) (sym (same_state c.self.view_is)) c.requires.class

-- 1 where a page is on the move to it
awaited : (c : After-page_count) → c.from-awaited.result ≡ truth (is_awaited c.self.inside.moving c.args.class)
awaited c = c.from-awaited.ensures ∙ (truth_byte c.awaits.result ∙ ap truth c.awaits.ensures)

-- how many pages it has
page_count : (c : After-page_count) → c.page_count.result ≡ length (class_at (slabs_of c.self.inside) c.args.class).pages
page_count c = c.page_count.ensures ∙ ap (λ (class : ClassState). length class.pages) (read_state c.self.inside c.args.class _ _ (is_class c) refl c.index_mut-slab.ensures.value)

within_limit : (c : After-page_count) → c.page_count.result + 1 + c.from-awaited.result ≤ 129
within_limit c =
    omega (arith, page_count c, awaited c, truth_le (is_awaited c.self.inside.moving c.args.class), pages_below (slabs_of c.self.inside) c.self.inside.granted c.args.class c.self.invariant.order (is_class c))

pub overflow_add-page_count : goal.overflow_add-page_count
overflow_add-page_count c = omega (arith, within_limit (goal.at.overflow_add-page_count c).After-page_count)

pub overflow_add-page_count-2 : goal.overflow_add-page_count-2
overflow_add-page_count-2 c = omega (arith, within_limit (goal.at.overflow_add-page_count-2 c).After-page_count)

pub make_room-requires : goal.make_room-requires
make_room-requires c = omega (arith, within_limit (goal.at.make_room-requires c).After-page_count)

-- and one more where a page is on the move at all
entries : (c : After-page_count) → c.from-ends.result ≡ truth (is_some c.self.inside.moving)
entries c = c.from-ends.ensures ∙ (truth_byte c.is_some.result ∙ ap truth c.is_some.ensures)

-- the page is the next one
is_next : (c : After-page_count) → next_page (slabs_of c.self.inside) c.args.class ≡ Some c.in_ok-page.page
is_next c = ap (λ (s : SlabState). next_page s c.args.class) (same_state c.self.view_is) ∙ (sym c.next_page.ensures.page ∙ c.in_ok-page.ensures.ok_part)

-- it is granted beyond the limit where none is left within it
is_grace : (c : After-page_count) → not c.has_ordinary_page-grace.result ≡ not (has_ordinary_page (slabs_of c.self.inside))
is_grace c = ap not (c.has_ordinary_page-grace.ensures ∙ ap has_ordinary_page (sym (same_state c.self.view_is)))

-- what was reserved changes nothing that callers see
refused_is : (c : goal.After-from_residual-in_err-make_room) → record (slabs_of c.self.inside) { classes = class_states c.self.inside.rows (set c.self.inside.classes.items (c.args.class - 1) c.make_room.new.self); ledger = c.reserve.new.self.all; trimmed = c.reserve.new.self.trimmed } ≡ slabs_of c.self.inside
refused_is c =
    let is = is_class (goal.at.invariant_of-self-in_err-make_room c).After-page_count in
    ap₂ (λ (classes : List ClassState) (entries : Entries). record (slabs_of c.self.inside) { classes = classes; ledger = entries.all; trimmed = entries.trimmed })
    (states_roomier c.self.inside c.args.class _ c.make_room.new.self is c.index_mut-slab.ensures.value c.in_err-make_room.ensures.state)
    c.in_ok-reserve.ensures.same

pub invariant_of-self-in_err-make_room : goal.invariant_of-self-in_err-make_room
invariant_of-self-in_err-make_room c =
    let is = is_class (goal.at.invariant_of-self-in_err-make_room c).After-page_count in
    record {
      order = subst (λ (s : SlabState). AreSlabsInOrder s c.self.inside.granted) (sym (refused_is c)) c.self.invariant.order;
      ledger = omega (arith, c.self.invariant.ledger, c.in_ok-reserve.ensures.kept);
      base = ap (λ (entries : Entries). entries.pages) c.in_ok-reserve.ensures.same ∙ c.self.invariant.base;
      pool = c.self.invariant.pool;
      classes = fits-roomier c.self.inside c.args.class _ c.make_room.new.self c.self.invariant is c.index_mut-slab.ensures.value c.in_err-make_room.ensures.state c.in_err-make_room.ensures.kept;
      linked = c.self.invariant.linked;
      ordinary = c.self.invariant.ordinary ∙ sym (ap (λ (entries : Entries). ordinary_count entries.all) c.in_ok-reserve.ensures.same);
      aged = c.self.invariant.aged;
      rows = subst (λ (s : SlabState). HasRows s.classes (vec_len c.self.inside.owners) (sizes_of c.self.inside.rows)) (sym (refused_is c)) c.self.invariant.rows;
    }

pub returns-in_err-make_room-clause-refused : goal.returns-in_err-make_room-clause-refused
returns-in_err-make_room-clause-refused c = on_err c.from_residual-in_err-make_room.result (refused_is c ∙ (same_state c.self.view_is))

pub returns-in_err-make_room-clause-accounted : goal.returns-in_err-make_room-clause-accounted
returns-in_err-make_room-clause-accounted c = (invariant_of-self-in_err-make_room c).order.accounted

pub index_mut-requires : goal.index_mut-requires
index_mut-requires c =
    let here = (goal.at.index_mut-requires c).After-page_count in
    let within = next_within (slabs_of c.self.inside) c.self.inside.granted c.args.class c.in_ok-page.page c.self.invariant.order (is_class here) (is_next here) in
    elim c.match-pop.branch [
      | in-Some w ↦ omega (arith, within, ap (λ (i : Inside). vec_len i.owners) w.self-inside-is)
      | in-None w ↦ omega (arith, within, ap (λ (i : Inside). vec_len i.owners) w.self-inside-is)
    ]

-- the page and its entry are given to what stands open
abbrev given : (c : goal.After-self-4-1) → Inside → Inside
given c inside = record inside {
  owners = with_item inside.owners c.in_ok-page.page (Class c.args.class);
  ledger = c.tell.new.self;
  uncut = Some (record { page = c.in_ok-page.page; index = 0 });
}

-- what stands open where the page came out of the pool
abbrev taken_inside : (c : goal.After-self-4-1) → Inside
taken_inside c = record c.self.inside {
  classes = with_item c.self.inside.classes (c.args.class - 1) c.add_page.new.self;
  pool = c.pop.new.self;
  ledger = c.reserve.new.self;
}

-- and where it was untouched
abbrev counted_inside : (c : goal.After-self-4-1) → ℕ → Inside
counted_inside c more = record (taken_inside c) { granted = c.self.inside.granted + 1; ordinary = c.self.inside.ordinary + more }

-- of which it is one more within the limit
abbrev granted_inside : (c : goal.After-self-4-1) → Inside
granted_inside c = counted_inside c (bool_byte (not (not c.has_ordinary_page-grace.result)))

-- the ledger has the entry at its end
told : (c : goal.After-self-4-1) (inside : Inside) (entry : Entry) → c.match-pop.self-inside ≡ inside → c.match-pop.entry ≡ entry → inside.ledger ≡ record c.self.inside.ledger { room = c.reserve.new.self.room } → c.tell.new.self ≡ told_entries c.self.inside.ledger entry c.tell.new.self.room
told c inside entry is entry_is before =
    c.tell.ensures.records
    ∙ (ap₂ (λ (i : Inside) (e : Entry). told_entries i.ledger e c.tell.new.self.room) is entry_is ∙ ap (λ (entries : Entries). told_entries entries entry c.tell.new.self.room) before)

-- and room for one more where a page is on the move
ledger_fits : (c : goal.After-self-4-1) (inside : Inside) → c.match-pop.self-inside ≡ inside → inside.ledger ≡ record c.self.inside.ledger { room = c.reserve.new.self.room } → truth (is_some c.self.inside.moving) ≤ c.tell.new.self.room
ledger_fits c inside is before =
    omega (arith, c.tell.ensures.room, ap (λ (i : Inside). i.ledger.room) is, ap (λ (entries : Entries). entries.room) before, c.in_ok-reserve.ensures.room, entries (goal.at.invariant_of-self-3 c).After-page_count)

-- it tells of as many pages
pages_told : (c : goal.After-self-4-1) (entry : Entry) → c.tell.new.self ≡ told_entries c.self.inside.ledger entry c.tell.new.self.room → c.tell.new.self.pages ≡ vec_len c.self.inside.owners
pages_told c entry is = ap (λ (all : Entries). all.pages) is ∙ c.self.invariant.base

-- each class keeps its room
all_fit : (c : goal.After-self-4-1) (other : ℕ) → HasClass (slabs_of (with_roomy c.self.inside (c.args.class - 1) c.add_page.new.self)) other → Fits c.self.inside.rows (set c.self.inside.classes.items (c.args.class - 1) c.add_page.new.self) (truth (is_awaited c.self.inside.moving other)) other
all_fit c =
    let here = (goal.at.invariant_of-self-3 c).After-page_count in
    fits-given c.self.inside c.args.class c.in_ok-page.page _ c.make_room.new.self _ c.self.invariant (is_class here) c.index_mut-slab.ensures.value c.in_ok-make_room.ensures.state c.add_page.ensures
    (omega (arith, page_count here, awaited here, c.in_ok-make_room.ensures.ok))

-- the rows are as many as before
has_rows : (c : goal.After-self-4-1) → HasRows (set (slabs_of c.self.inside).classes (c.args.class - 1) (with_page (class_at (slabs_of c.self.inside) c.args.class) c.in_ok-page.page)) (vec_len c.self.inside.owners) (sizes_of c.self.inside.rows)
has_rows c =
    HasRows-with_class (slabs_of c.self.inside) c.args.class (vec_len c.self.inside.owners) (sizes_of c.self.inside.rows) (with_page (class_at (slabs_of c.self.inside) c.args.class) c.in_ok-page.page) c.self.invariant.rows (is_class (goal.at.invariant_of-self-3 c).After-page_count) refl

-- the whole where the page came out of the pool
taken_is : (c : goal.After-self-4-1) → c.match-pop.self-inside ≡ taken_inside c → c.match-pop.entry ≡ Taken c.in_ok-page.page c.args.class → slabs_of (given c (taken_inside c)) ≡ after_take (slabs_of c.self.inside) c.args.class c.in_ok-page.page
taken_is c is entry =
    let pool = c.pop.ensures.rest ∙ ap (λ (n : ℕ). take (n - 1) c.self.inside.pool.items) c.self.inside.pool.ok.0 in
    take_is c.self.inside c.args.class c.in_ok-page.page _ c.make_room.new.self _ _ _ _ (is_class (goal.at.invariant_of-self-3 c).After-page_count) c.index_mut-slab.ensures.value c.in_ok-make_room.ensures.state c.add_page.ensures
    pool (told c (taken_inside c) _ is entry c.in_ok-reserve.ensures.same)

taken_kept : (c : goal.After-self-4-1) → c.match-pop.self-inside ≡ taken_inside c → c.match-pop.entry ≡ Taken c.in_ok-page.page c.args.class → 0 < length c.self.inside.pool.items → IsStoredInOrder (given c (taken_inside c))
taken_kept c is entry some =
    let slabs = slabs_of c.self.inside in
    let here = (goal.at.invariant_of-self-3 c).After-page_count in
    let whole = subst (λ (s : SlabState). s.uncut ≡ None) (sym (same_state c.self.view_is)) c.requires.whole in
    record {
      order = subst (λ (s : SlabState). AreSlabsInOrder s c.self.inside.granted) (sym (taken_is c is entry))
          (IsInOrder-after_take slabs c.self.inside.granted c.args.class c.in_ok-page.page c.self.invariant.order (is_class here) whole (next_pooled slabs c.args.class c.in_ok-page.page some (is_next here)));
      ledger = ledger_fits c _ is c.in_ok-reserve.ensures.same;
      base = pages_told c _ (told c _ _ is entry c.in_ok-reserve.ensures.same);
      pool = omega (arith, c.self.invariant.pool, c.pop.ensures.len, c.pop.ensures.capacity);
      classes = all_fit c;
      linked = c.self.invariant.linked;
      ordinary = c.self.invariant.ordinary ∙ sym (ap (λ (all : Entries). ordinary_count all.all) (told c _ _ is entry c.in_ok-reserve.ensures.same) ∙ (ordinary_count-push c.self.inside.ledger.all (Taken c.in_ok-page.page c.args.class) ∙ add_zero (ordinary_count c.self.inside.ledger.all)));
      aged = c.self.invariant.aged;
      rows = subst (λ (s : SlabState). HasRows s.classes (vec_len c.self.inside.owners) (sizes_of c.self.inside.rows)) (sym (taken_is c is entry)) (has_rows c);
    }

-- the ledger where the page was untouched
granted_told : (c : goal.After-self-4-1) → c.match-pop.self-inside ≡ granted_inside c → c.match-pop.entry ≡ Granted c.in_ok-page.page c.args.class (not c.has_ordinary_page-grace.result) → c.tell.new.self ≡ told_entries c.self.inside.ledger (Granted c.in_ok-page.page c.args.class (not (has_ordinary_page (slabs_of c.self.inside)))) c.tell.new.self.room
granted_told c is entry =
    told c (granted_inside c) _ is entry c.in_ok-reserve.ensures.same
    ∙ ap (λ (grace : Bool). told_entries c.self.inside.ledger (Granted c.in_ok-page.page c.args.class grace) c.tell.new.self.room) (is_grace (goal.at.invariant_of-self-3 c).After-page_count)

-- the whole where the page was untouched
granted_is : (c : goal.After-self-4-1) → c.match-pop.self-inside ≡ granted_inside c → c.match-pop.entry ≡ Granted c.in_ok-page.page c.args.class (not c.has_ordinary_page-grace.result) → length c.self.inside.pool.items ≡ 0 → slabs_of (given c (granted_inside c)) ≡ after_grant (slabs_of c.self.inside) c.args.class c.in_ok-page.page
granted_is c is entry none =
    let pool = c.pop.ensures.rest ∙ take_all _ c.self.inside.pool.items (omega arith) in
    grant_is c.self.inside c.args.class c.in_ok-page.page _ c.make_room.new.self _ _ _ _ (is_class (goal.at.invariant_of-self-3 c).After-page_count) c.index_mut-slab.ensures.value c.in_ok-make_room.ensures.state c.add_page.ensures
    pool (granted_told c is entry)

granted_kept : (c : goal.After-self-4-1) → c.match-pop.self-inside ≡ granted_inside c → c.match-pop.entry ≡ Granted c.in_ok-page.page c.args.class (not c.has_ordinary_page-grace.result) → length c.self.inside.pool.items ≡ 0 → IsStoredInOrder (given c (granted_inside c))
granted_kept c is entry none =
    let slabs = slabs_of c.self.inside in
    let here = (goal.at.invariant_of-self-3 c).After-page_count in
    let whole = subst (λ (s : SlabState). s.uncut ≡ None) (sym (same_state c.self.view_is)) c.requires.whole in
    let next = next_granted slabs c.self.inside.granted c.args.class c.in_ok-page.page c.self.invariant.order (is_class here) none (is_next here) in
    let ordinary = ap (λ (b : Bool). bool_byte (not b)) (is_grace here) ∙ truth_byte (not (not (has_ordinary_page slabs))) in
    let granted = granted_is c is entry none ∙ ap (after_grant slabs c.args.class) next.0 in
    record {
      order = subst (λ (s : SlabState). AreSlabsInOrder s (c.self.inside.granted + 1)) (sym granted)
          (IsInOrder-after_grant slabs c.self.inside.granted c.args.class c.self.invariant.order (is_class here) whole next.1 next.2);
      ledger = ledger_fits c _ is c.in_ok-reserve.ensures.same;
      base = pages_told c _ (granted_told c is entry);
      pool = omega (arith, c.self.invariant.pool, c.pop.ensures.len, c.pop.ensures.capacity);
      classes = all_fit c;
      linked = c.self.invariant.linked;
      ordinary = omega (arith, c.self.invariant.ordinary, ordinary, ap (λ (all : Entries). ordinary_count all.all) (granted_told c is entry), ordinary_count-push c.self.inside.ledger.all (Granted c.in_ok-page.page c.args.class (not (has_ordinary_page slabs))));
      aged = c.self.invariant.aged;
      rows = subst (λ (s : SlabState). HasRows s.classes (vec_len c.self.inside.owners) (sizes_of c.self.inside.rows)) (sym (granted_is c is entry none)) (has_rows c);
    }

pub invariant_of-self-3 : goal.invariant_of-self-3
invariant_of-self-3 c =
    let kept : Inside → Type 0 = λ i. IsStoredInOrder (given c i) in
    elim c.match-pop.branch [
      | in-Some w ↦ subst kept (sym w.self-inside-is) (taken_kept c w.self-inside-is w.entry-is (omega (arith, w.in-Some.ensures.cases)))
      | in-None w ↦ subst kept (sym (w.self-inside-is ∙ ap (counted_inside c) w.from.ensures)) (granted_kept c (w.self-inside-is ∙ ap (counted_inside c) w.from.ensures) w.entry-is (omega (arith, w.in-None.ensures.cases)))
    ]

pub returns-clause-given : goal.returns-clause-given
returns-clause-given c =
    let slabs = slabs_of c.self.inside in
    let next = sym (ap (λ (s : SlabState). next_page s c.args.class) (same_state c.self.view_is)) ∙ is_next (goal.at.invariant_of-self-3 c).After-page_count in
    let seen : Inside → SlabState = λ i. slabs_of (given c i) in
    let grown = ap (λ (s : SlabState). after_grow s c.args.class c.in_ok-page.page) (same_state c.self.view_is) in
    elim c.match-pop.branch [
      | in-Some w ↦ (
        next,
        ap seen w.self-inside-is ∙ (taken_is c w.self-inside-is w.entry-is
            ∙ (sym (grow_takes slabs c.args.class c.in_ok-page.page (omega (arith, w.in-Some.ensures.cases))) ∙ grown)),
      )
      | in-None w ↦ (
        next,
        ap seen (w.self-inside-is ∙ ap (counted_inside c) w.from.ensures) ∙ (granted_is c (w.self-inside-is ∙ ap (counted_inside c) w.from.ensures) w.entry-is (omega (arith, w.in-None.ensures.cases))
            ∙ (sym (grow_grants slabs c.args.class c.in_ok-page.page (omega (arith, w.in-None.ensures.cases))) ∙ grown)),
      )
    ]

pub returns-clause-accounted : goal.returns-clause-accounted
returns-clause-accounted c = (invariant_of-self-3 c).order.accounted

pub index_mut-slab-requires : goal.index_mut-slab-requires
index_mut-slab-requires c =
    let is = subst (λ (s : SlabState). HasClass s c.args.class) (sym (same_state c.self.view_is)) c.requires.class in
    omega (arith, is.0, length-classes c.self.inside c.args.class is)

-- where there is no page, the limit is used up and the class has one
pub returns-in_err-page-clause-full : goal.returns-in_err-page-clause-full
returns-in_err-page-clause-full c refused =
    let is = subst (λ (s : SlabState). HasClass s c.args.class) (sym (same_state c.self.view_is)) c.requires.class in
    let none = ap (λ (s : SlabState). next_page s c.args.class) (same_state c.self.view_is) ∙ (sym c.next_page.ensures.page ∙ c.in_err-page.ensures.ok_part) in
    let full = next_none (slabs_of c.self.inside) c.self.inside.granted c.args.class c.self.invariant.order is none in
    subst (λ (s : SlabState). HasNoPageFor s c.args.class) (same_state c.self.view_is) (record { pool = full.0; limit = full.1; page = full.2 })
