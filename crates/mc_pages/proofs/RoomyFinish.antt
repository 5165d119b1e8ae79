-- The end of a move, for which room was kept.
use Rattle.std.proofs.Common.{◌≡◌, ◌≢◌, ℕ, ◌-◌, ◌<◌, ◌≤◌, ◌==◌, not, List, [], ◌∷◌, ◌++◌, length, set, slice_index_or, Option, Some, None, if◌then◌else◌, refl, sym, ap, ap₂, ◌∙◌, subst, arith, eq-eqb, ne_eqb, length-append, length-set, get_or-set_other, Bool}
use Rattle.std.proofs.lemmas.List.{set-set}
use Rattle.std.proofs.lemmas.List.Sums.{length-filter, count_by-le-length}
use Rattle.mc_pages.specs.declared.ids.Moving.{Moving}
use Rattle.mc_pages.specs.declared.ledger.Owner.{Owner}
use Rattle.mc_pages.specs.declared.ledger.Owner.TheVariants.{Pool, Class}
use Rattle.mc_pages.specs.declared.ledger.Owner.TheVariants as owner
use Rattle.mc_pages.specs.declared.ledger.Entry.TheVariants.{Ended}
use Rattle.mc_pages.specs.declared.slabs.Slabs.TheInside.{Inside}
use Rattle.mc_pages.specs.ClassState.{ClassState, counter_after, with_page, without_page}
use Rattle.mc_pages.specs.Base.{Entries}
use Rattle.mc_pages.specs.Rows.{RowsState}
use Rattle.mc_pages.specs.Room.{RoomyClass, in_state, class_states}
use Rattle.mc_pages.specs.SlabState.{SlabState, HasClass, class_at}
use Rattle.mc_pages.specs.Changes.{with_class, with_given}
use Rattle.mc_pages.specs.Moves.{after_page_release, after_move_end}
use Rattle.mc_pages.specs.Accounted.{truth, IsMove}
use Rattle.mc_pages.specs.Linked.{Sizes}
use Rattle.mc_pages.specs.InOrder.{HasRows, IsStoredInOrder, slabs_of, is_awaited}
use Rattle.mc_pages.proofs.Owners.{within_from_owned}
use Rattle.mc_pages.proofs.States.{pages_at}
use Rattle.mc_pages.proofs.Trimmed.{told_entries}
use Rattle.mc_pages.proofs.RoomySlabs.{roomy_at, roomy_at_read, Fits, Fits-set, IsClass-set, length-classes, read_state, read_room, with_roomy, slabs_of-changed, HasRows-changed}

-- what a moving page's owner is says that it is one of the pages
pub moving_within : (slabs : SlabState) (move : Moving) → IsMove slabs move → move.page < length slabs.owners
moving_within slabs move is = within_from_owned move.page slabs.owners (λ untouched. absurd (let clash : owner.Moving move.src move.dst ≡ owner.Untouched = sym is.owner ∙ untouched in cc))

-- a class has no more pages without one
pub length-without_page : (class : ClassState) (page : ℕ) → length (without_page class page).pages ≤ length class.pages
length-without_page class page =
    omega (arith, length-filter (λ (p : ℕ). not (p == page)) class.pages, count_by-le-length (λ (p : ℕ). not (p == page)) class.pages)

-- the whole after the end of a move, with these classes, owners and entries
abbrev pub ended_with : SlabState → List ClassState → List Owner → List ℕ → Entries → ℕ → SlabState
ended_with slabs classes owners pool entries moved = record slabs {
  classes = classes;
  owners = owners;
  pool = pool;
  ledger = entries.all;
  trimmed = entries.trimmed;
  moving = None;
  moved = moved;
}

-- the whole where the page has arrived, in the pool or else in a class
abbrev arrives : SlabState → Moving → Bool → SlabState
arrives slabs move pooled = record (if pooled then after_page_release slabs move.page move.src else record (with_given (after_page_release slabs move.page move.src) move.dst move.page) { pool = slabs.pool }) {
  ledger = slabs.ledger ++ Ended move.page move.dst ∷ [];
  moved = counter_after slabs.moved 1;
}

-- the page goes into the pool
pub pooled_is : (slabs : Inside) (move : Moving) (read removed : RoomyClass) (pool : List ℕ) (entries : Entries) (room moved : ℕ) → HasClass (slabs_of slabs) move.src → read ≡ slice_index_or slabs.classes.items (move.src - 1) read → removed ≡ in_state read (without_page read.state move.page) → pool ≡ slabs.pool.items ++ move.page ∷ [] → entries ≡ told_entries slabs.ledger (Ended move.page move.dst) room → moved ≡ counter_after slabs.moved 1 → move.dst ≡ 0 → ended_with (slabs_of slabs) (class_states slabs.rows (set slabs.classes.items (move.src - 1) removed)) (set slabs.owners.items move.page Pool) pool entries moved ≡ after_move_end (slabs_of slabs) move
pooled_is slabs move read removed pool entries room moved is h changed pool_is entries_is moved_is to_pool =
    let s = slabs_of slabs in
    let owners : List Owner = set slabs.owners.items move.page Pool in
    let left = slabs_of-changed slabs move.src (move.src - 1) read removed (λ class. without_page class move.page) is refl h changed refl in
    let classes = (with_class s move.src (without_page (class_at s move.src) move.page)).classes in
    ap (λ (t : SlabState). ended_with s t.classes owners pool entries moved) left
    ∙ (ap₂ (λ (ps : List ℕ) (es : Entries). ended_with s classes owners ps es moved) pool_is entries_is
    ∙ (ap (λ (n : ℕ). ended_with s classes owners (s.pool ++ move.page ∷ []) (told_entries slabs.ledger (Ended move.page move.dst) room) n) moved_is
    ∙ sym (ap (arrives s move) (eq-eqb move.dst 0 to_pool))))

-- the page joins its destination
abbrev pub joined_with : SlabState → Moving → List ClassState → List Owner → Entries → ℕ → SlabState
joined_with slabs move classes owners entries moved = record (ended_with slabs classes owners slabs.pool entries moved) { uncut = Some (record { page = move.page; index = 0 }) }

pub joined_is : (slabs : Inside) (move : Moving) (read removed read-2 added : RoomyClass) (entries : Entries) (room moved : ℕ) → HasClass (slabs_of slabs) move.src → HasClass (slabs_of slabs) move.dst → read ≡ slice_index_or slabs.classes.items (move.src - 1) read → removed ≡ in_state read (without_page read.state move.page) → read-2 ≡ slice_index_or (set slabs.classes.items (move.src - 1) removed) (move.dst - 1) read-2 → added ≡ in_state read-2 (with_page read-2.state move.page) → entries ≡ told_entries slabs.ledger (Ended move.page move.dst) room → moved ≡ counter_after slabs.moved 1 → move.dst ≢ 0 → joined_with (slabs_of slabs) move (class_states slabs.rows (set (set slabs.classes.items (move.src - 1) removed) (move.dst - 1) added)) (set slabs.owners.items move.page (Class move.dst)) entries moved ≡ after_move_end (slabs_of slabs) move
joined_is slabs move read removed read-2 added entries room moved is is-2 h changed h-2 changed-2 entries_is moved_is to_class =
    let s = slabs_of slabs in
    let shorter = without_page (class_at s move.src) move.page in
    let between : Inside = with_roomy slabs (move.src - 1) removed in
    let released_from : SlabState = with_class s move.src shorter in
    let left : slabs_of between ≡ released_from = slabs_of-changed slabs move.src (move.src - 1) read removed (λ class. without_page class move.page) is refl h changed refl in
    let there : HasClass released_from move.dst = (is-2.0, omega (arith, is-2.1, length-set s.classes (move.src - 1) shorter)) in
    let joins = λ (t : SlabState). with_class t move.dst (with_page (class_at t move.dst) move.page) in
    let both : slabs_of (with_roomy between (move.dst - 1) added) ≡ joins released_from =
    slabs_of-changed between move.dst (move.dst - 1) read-2 added (λ class. with_page class move.page) (subst (λ (t : SlabState). HasClass t move.dst) (sym left) there) refl h-2 changed-2 refl ∙ ap joins left in
    let classes = (joins released_from).classes in
    let owners : List Owner = set slabs.owners.items move.page (Class move.dst) in
    let twice : List Owner = set (set slabs.owners.items move.page Pool) move.page (Class move.dst) in
    ap (λ (t : SlabState). joined_with s move t.classes owners entries moved) both
    ∙ (ap₂ (λ (os : List Owner) (es : Entries). joined_with s move classes os es moved) (sym (set-set slabs.owners.items move.page Pool (Class move.dst))) entries_is
    ∙ (ap (λ (n : ℕ). joined_with s move classes twice (told_entries slabs.ledger (Ended move.page move.dst) room) n) moved_is
    ∙ sym (ap (arrives s move) (ne_eqb move.dst 0 to_class))))

-- there is still room in each class that gives a page up
pub fits-pooled : (slabs : Inside) (move : Moving) (read removed : RoomyClass) → IsStoredInOrder slabs → HasClass (slabs_of slabs) move.src → read ≡ slice_index_or slabs.classes.items (move.src - 1) read → removed ≡ in_state read (without_page read.state move.page) → (other : ℕ) → 1 ≤ other → other ≤ length (class_states slabs.rows slabs.classes.items) → Fits slabs.rows (set slabs.classes.items (move.src - 1) removed) 0 other
fits-pooled slabs move read removed kept is h changed other first within =
    let state = read_state slabs move.src (move.src - 1) read is refl h in
    let room = read_room slabs move.src (move.src - 1) read is refl h in
    Fits-set slabs.rows slabs.classes.items move.src other 0 removed is.0 (length-classes slabs move.src is) first
    (λ e. omega (arith, ap (λ (c : RoomyClass). length c.state.pages) changed, ap (λ (c : RoomyClass). c.room) changed, length-without_page read.state move.page, ap (λ (c : ClassState). length c.pages) state, room, kept.classes move.src is))
    (λ differs. omega (arith, kept.classes other (first, within)))

-- what is read of the destination is as it was before the source gave its page up
dst_read : (slabs : Inside) (move : Moving) (removed read-2 : RoomyClass) → HasClass (slabs_of slabs) move.src → HasClass (slabs_of slabs) move.dst → move.src ≢ move.dst → read-2 ≡ slice_index_or (set slabs.classes.items (move.src - 1) removed) (move.dst - 1) read-2 → read-2 ≡ roomy_at slabs.classes.items move.dst
dst_read slabs move removed read-2 is is-2 apart h-2 =
    roomy_at_read (set slabs.classes.items (move.src - 1) removed) move.dst (move.dst - 1) read-2 is-2.0 (omega (arith, length-classes slabs move.dst is-2, length-set slabs.classes.items (move.src - 1) removed)) refl h-2
    ∙ get_or-set_other slabs.classes.items (move.src - 1) (move.dst - 1) removed _ (λ e. apart (omega (arith, is.0, is-2.0)))

-- the destination has room for the page
pub dst_has_room : (slabs : Inside) (move : Moving) (removed read-2 : RoomyClass) → IsStoredInOrder slabs → slabs.moving ≡ Some move → HasClass (slabs_of slabs) move.src → HasClass (slabs_of slabs) move.dst → move.src ≢ move.dst → read-2 ≡ slice_index_or (set slabs.classes.items (move.src - 1) removed) (move.dst - 1) read-2 → length read-2.state.pages < read-2.room
dst_has_room slabs move removed read-2 kept runs is is-2 apart h-2 =
    let read = dst_read slabs move removed read-2 is is-2 apart h-2 in
    let awaited = ap (λ (o : Option Moving). truth (is_awaited o move.dst)) runs in
    let one : truth (move.dst == move.dst) ≡ 1 = ap truth (eq-eqb move.dst move.dst refl) in
    omega (arith, ap (λ (c : RoomyClass). length c.state.pages) read, ap (λ (c : RoomyClass). c.room) read, ap length (pages_at slabs.rows slabs.classes.items (move.dst - 1)), kept.classes move.dst is-2, awaited, one)

-- and there is still room in each class when the page has come to it
pub fits-joined : (slabs : Inside) (move : Moving) (read removed read-2 added : RoomyClass) → IsStoredInOrder slabs → slabs.moving ≡ Some move → HasClass (slabs_of slabs) move.src → HasClass (slabs_of slabs) move.dst → move.src ≢ move.dst → read ≡ slice_index_or slabs.classes.items (move.src - 1) read → removed ≡ in_state read (without_page read.state move.page) → read-2 ≡ slice_index_or (set slabs.classes.items (move.src - 1) removed) (move.dst - 1) read-2 → added ≡ in_state read-2 (with_page read-2.state move.page) → (other : ℕ) → 1 ≤ other → other ≤ length (class_states slabs.rows slabs.classes.items) → Fits slabs.rows (set (set slabs.classes.items (move.src - 1) removed) (move.dst - 1) added) 0 other
fits-joined slabs move read removed read-2 added kept runs is is-2 apart h changed h-2 changed-2 other first within =
    let between = set slabs.classes.items (move.src - 1) removed in
    let room = dst_has_room slabs move removed read-2 kept runs is is-2 apart h-2 in
    Fits-set slabs.rows between move.dst other 0 added is-2.0 (omega (arith, length-classes slabs move.dst is-2, length-set slabs.classes.items (move.src - 1) removed)) first
    (λ e. omega (arith, ap (λ (c : RoomyClass). length c.state.pages) changed-2, ap (λ (c : RoomyClass). c.room) changed-2, length-append read-2.state.pages (move.page ∷ []), room))
    (λ differs. fits-pooled slabs move read removed kept is h changed other first within)

-- a class of the whole where two classes have changed
pub within-both : (rows : RowsState) (classes : List RoomyClass) (place place-2 other : ℕ) (new new-2 : RoomyClass) → other ≤ length (class_states rows (set (set classes place new) place-2 new-2)) → other ≤ length (class_states rows classes)
within-both rows classes place place-2 other new new-2 h = IsClass-set rows classes place other new (IsClass-set rows (set classes place new) place-2 other new-2 h)

-- the rows are as many as before, for the page that goes into the pool
pub rows-pooled : (slabs : Inside) (move : Moving) (pages : ℕ) (sizes : Sizes) (read removed : RoomyClass) → HasRows (slabs_of slabs).classes pages sizes → HasClass (slabs_of slabs) move.src → read ≡ slice_index_or slabs.classes.items (move.src - 1) read → removed ≡ in_state read (without_page read.state move.page) → HasRows (class_states slabs.rows (set slabs.classes.items (move.src - 1) removed)) pages sizes
rows-pooled slabs move pages sizes read removed has is h changed = HasRows-changed slabs move.src pages sizes read removed (λ class. without_page class move.page) has is h changed refl refl

-- and for the one that joins its destination
pub rows-joined : (slabs : Inside) (move : Moving) (pages : ℕ) (sizes : Sizes) (read removed read-2 added : RoomyClass) → HasRows (slabs_of slabs).classes pages sizes → HasClass (slabs_of slabs) move.src → HasClass (slabs_of slabs) move.dst → read ≡ slice_index_or slabs.classes.items (move.src - 1) read → removed ≡ in_state read (without_page read.state move.page) → read-2 ≡ slice_index_or (set slabs.classes.items (move.src - 1) removed) (move.dst - 1) read-2 → added ≡ in_state read-2 (with_page read-2.state move.page) → HasRows (class_states slabs.rows (set (set slabs.classes.items (move.src - 1) removed) (move.dst - 1) added)) pages sizes
rows-joined slabs move pages sizes read removed read-2 added has is is-2 h changed h-2 changed-2 =
    let s = slabs_of slabs in
    let between : Inside = with_roomy slabs (move.src - 1) removed in
    let shorter = without_page (class_at s move.src) move.page in
    let left : slabs_of between ≡ with_class s move.src shorter = slabs_of-changed slabs move.src (move.src - 1) read removed (λ class. without_page class move.page) is refl h changed refl in
    let there : HasClass (with_class s move.src shorter) move.dst = (is-2.0, omega (arith, is-2.1, length-set s.classes (move.src - 1) shorter)) in
    HasRows-changed between move.dst pages sizes read-2 added (λ class. with_page class move.page) (rows-pooled slabs move pages sizes read removed has is h changed) (subst (λ (t : SlabState). HasClass t move.dst) (sym left) there) h-2 changed-2 refl refl
