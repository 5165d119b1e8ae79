-- The steps of a move, with the room that is kept for its end.
use Rattle.std.proofs.Common.{◌≡◌, ◌≢◌, ℕ, ◌+◌, ◌-◌, ◌<◌, ◌≤◌, ◌==◌, List, length, set, slice_index_or, Result, Ok, IfOk, ne_eqb, Bool, true, false, Option, Some, is_some, if◌then◌else◌, refl, sym, ap, ap₂, ◌∙◌, subst, arith}
use Rattle.std.specs.Option.{option_map}
use Rattle.mc_classes.specs.Limits.{most_page_chunks}
use Rattle.mc_pages.specs.declared.ids.Moving.{Moving}
use Rattle.mc_pages.specs.declared.ledger.Owner.TheVariants as owner
use Rattle.mc_pages.specs.Base.{Entries}
use Rattle.mc_pages.specs.declared.ledger.Entry.TheVariants.{Began}
use Rattle.mc_pages.specs.declared.moves.Found.{Found}
use Rattle.mc_pages.specs.declared.slabs.Slabs.TheInside.{Inside}
use Rattle.mc_pages.specs.ClassState.{ClassState, counter_after}
use Rattle.mc_pages.specs.ClassRows.{with_lists}
use Rattle.mc_pages.specs.Room.{RoomyClass}
use Rattle.mc_pages.specs.SlabState.{SlabState, HasClass, class_at}
use Rattle.mc_pages.specs.Answer.{cursor_after}
use Rattle.mc_pages.specs.Accounted.{truth}
use Rattle.mc_pages.specs.Moves.{is_held_up, rescued_of, evicted_of, moved_on, first_page, with_move, after_begin, after_passed, after_wrap, begun_anew, busy_of, CanPass}
use Rattle.mc_pages.specs.InOrder.{AreSlabsInOrder, IsStoredInOrder, slabs_of, is_awaited}
use Rattle.mc_pages.proofs.Trimmed.{told_entries}
use Rattle.mc_pages.proofs.RoomySlabs.{Fits, Fits-set, IsClass-set, length-classes, read_state, with_roomy}
use Rattle.mc_pages.proofs.RoomyGrow.{truth_le}

-- two equal options hold the same move
pub Some-same : (a b : Moving) → Some a ≡ Some b → a ≡ b
Some-same a b h = cc

-- one chunk at most is held up
pub held_up_le : (b : Bool) → (if b then 1 else 0) ≤ 1
held_up_le true = omega arith
held_up_le false = omega arith

-- the position of a move that goes on is below the most chunks that a page has, and so is the number of busy chunks
pub position_below : (slabs : Inside) (found : Found) (move moving : Moving) → IsStoredInOrder slabs → CanPass (slabs_of slabs) found move → slabs.moving ≡ Some moving → (moving.at < most_page_chunks) × (moving.busy < most_page_chunks)
position_below slabs found move moving kept can runs =
    let is = kept.order.accounted.move move can.runs in
    let same : move ≡ moving = Some-same move moving (sym can.runs ∙ runs) in
    let size = kept.order.at_most move.src is.src in
    (omega (arith, can.within, size, ap (λ (m : Moving). m.at) same), omega (arith, can.within, size, is.busy, ap (λ (m : Moving). m.busy) same))

-- the whole after a chunk was passed, as the code leaves it
abbrev pub with_passed : Inside → Moving → ℕ → ℕ → ℕ → Inside
with_passed slabs m held rescues nomem = record slabs {
  rescues = rescues;
  evictions_nomem = nomem;
  moving = Some (record m { at = m.at + 1; busy = m.busy + held });
}

-- and as its callers see it
pub passed_is : (slabs : Inside) (found : Found) (m : Moving) (held rescues nomem : ℕ) → slabs.moving ≡ Some m → held ≡ (if is_held_up found then 1 else 0) → rescues ≡ counter_after slabs.rescues (rescued_of found) → nomem ≡ counter_after slabs.evictions_nomem (evicted_of found) → slabs_of (with_passed slabs m held rescues nomem) ≡ after_passed (slabs_of slabs) found
passed_is slabs found m held rescues nomem runs held_is rescues_is nomem_is =
    let next = λ (h : ℕ). Some (record m { at = m.at + 1; busy = m.busy + h }) in
    let moving : next held ≡ option_map (λ move. moved_on move found) slabs.moving =
    ap next held_is ∙ ap (λ (o : Option Moving). option_map (λ move. moved_on move found) o) (sym runs) in
    ap (λ (o : Option Moving). record (slabs_of slabs) { rescues = rescues; evictions_nomem = nomem; moving = o }) moving
    ∙ ap₂ (λ (r n : ℕ). record (slabs_of slabs) { rescues = r; evictions_nomem = n; moving = option_map (λ move. moved_on move found) slabs.moving }) rescues_is nomem_is

-- the room for the end of the move is kept
pub AreKept-passed : (slabs : Inside) (found : Found) (m : Moving) (held rescues nomem : ℕ) → slabs.moving ≡ Some m → held ≡ (if is_held_up found then 1 else 0) → rescues ≡ counter_after slabs.rescues (rescued_of found) → nomem ≡ counter_after slabs.evictions_nomem (evicted_of found) → IsStoredInOrder slabs → AreSlabsInOrder (after_passed (slabs_of slabs) found) slabs.granted → IsStoredInOrder (with_passed slabs m held rescues nomem)
AreKept-passed slabs found m held rescues nomem runs held_is rescues_is nomem_is kept order =
    let awaited = λ (class : ℕ). ap (λ (o : Option Moving). truth (is_awaited o class)) runs in
    record {
      order = subst (λ (s : SlabState). AreSlabsInOrder s slabs.granted) (sym (passed_is slabs found m held rescues nomem runs held_is rescues_is nomem_is)) order;
      ledger = omega (arith, kept.ledger, ap (λ (o : Option Moving). truth (is_some o)) runs);
      base = kept.base;
      pool = omega (arith, kept.pool, awaited 0);
      classes = λ class is. omega (arith, kept.classes class is, awaited class);
      linked = kept.linked;
      ordinary = kept.ordinary;
      aged = kept.aged;
      rows = kept.rows;
    }

-- the whole after the pass began anew, as the code leaves it
abbrev pub with_wrapped : Inside → Moving → ℕ → Inside
with_wrapped slabs m busy = record slabs { busy = busy; moving = Some (record m { at = 0; busy = 0 }) }

-- and as its callers see it
pub wrapped_is : (slabs : Inside) (m : Moving) (busy : ℕ) → slabs.moving ≡ Some m → busy ≡ counter_after slabs.busy m.busy → slabs_of (with_wrapped slabs m busy) ≡ after_wrap (slabs_of slabs)
wrapped_is slabs m busy runs busy_is =
    let anew = λ (o : Option Moving). record (slabs_of slabs) { busy = counter_after slabs.busy (busy_of o); moving = option_map begun_anew o } in
    ap (λ (n : ℕ). record (slabs_of slabs) { busy = n; moving = Some (begun_anew m) }) busy_is ∙ ap anew (sym runs)

-- the room for the end of the move is kept
pub AreKept-wrapped : (slabs : Inside) (m : Moving) (busy : ℕ) → slabs.moving ≡ Some m → busy ≡ counter_after slabs.busy m.busy → IsStoredInOrder slabs → AreSlabsInOrder (after_wrap (slabs_of slabs)) slabs.granted → IsStoredInOrder (with_wrapped slabs m busy)
AreKept-wrapped slabs m busy runs busy_is kept order =
    let awaited = λ (class : ℕ). ap (λ (o : Option Moving). truth (is_awaited o class)) runs in
    record {
      order = subst (λ (s : SlabState). AreSlabsInOrder s slabs.granted) (sym (wrapped_is slabs m busy runs busy_is)) order;
      ledger = omega (arith, kept.ledger, ap (λ (o : Option Moving). truth (is_some o)) runs);
      base = kept.base;
      pool = omega (arith, kept.pool, awaited 0);
      classes = λ class is. omega (arith, kept.classes class is, awaited class);
      linked = kept.linked;
      ordinary = kept.ordinary;
      aged = kept.aged;
      rows = kept.rows;
    }

-- a fact of the value of a result that is known
pub if_ok_at : {T E : Type 0} (result : Result T E) (P : T → Type 0) (x : T) → result ≡ Ok x → P x → IfOk result P
if_ok_at {T} {E} result P x h p = subst (λ (r : Result T E). IfOk r P) (sym h) p

-- a page begins to move, with these classes, this pool, these entries and this cursor
abbrev pub begun_with : SlabState → ℕ → ℕ → ℕ → ℕ → List ClassState → List ℕ → Entries → SlabState
begun_with slabs page source dst cursor classes pool entries = record slabs {
  classes = classes;
  owners = set slabs.owners page (owner.Moving source dst);
  pool = pool;
  ledger = entries.all;
  trimmed = entries.trimmed;
  moving = Some (record { page = page; src = source; dst = dst; at = 0; busy = 0 });
  cursor = cursor;
}

-- the whole after it
pub begun_is : (slabs : Inside) (src : Option ℕ) (page source dst cursor : ℕ) (classes : List ClassState) (pool : List ℕ) (entries : Entries) (room : ℕ) → classes ≡ (slabs_of slabs).classes → pool ≡ slabs.pool.items → entries ≡ told_entries slabs.ledger (Began page source dst) room → page ≡ first_page (slabs_of slabs) source → cursor ≡ cursor_after (slabs_of slabs) src source → begun_with (slabs_of slabs) page source dst cursor classes pool entries ≡ after_begin (slabs_of slabs) src source dst
begun_is slabs src page source dst cursor classes pool entries room classes_is pool_is entries_is page_is cursor_is =
    let s = slabs_of slabs in
    ap₂ (λ (cs : List ClassState) (ps : List ℕ). begun_with s page source dst cursor cs ps entries) classes_is pool_is
    ∙ (ap₂ (λ (n : ℕ) (es : Entries). begun_with s page source dst n s.classes s.pool es) cursor_is entries_is
    ∙ ap (λ (p : ℕ). record (with_move s p source dst) { cursor = cursor_after s src source }) page_is)

-- no page is awaited by a class that isn't the destination
pub not_awaited : (dst class : ℕ) → dst ≢ class → truth (dst == class) ≡ 0
not_awaited dst class differs = ap truth (ne_eqb dst class differs)

-- where the page moves to the pool, each class has the room that it needs
pub fits-to_pool : (slabs : Inside) (dst : ℕ) → IsStoredInOrder slabs → dst ≡ 0 → (other : ℕ) → HasClass (slabs_of slabs) other → Fits slabs.rows slabs.classes.items (truth (dst == other)) other
fits-to_pool slabs dst kept pool other is = omega (arith, kept.classes other is, not_awaited dst other (λ e. absurd (omega (arith, is.0))))

-- where it moves to a class, that one has room for it
pub fits-to_class : (slabs : Inside) (dst : ℕ) (read roomy : RoomyClass) → IsStoredInOrder slabs → HasClass (slabs_of slabs) dst → read ≡ slice_index_or slabs.classes.items (dst - 1) read → roomy.state ≡ read.state → length (class_at (slabs_of slabs) dst).pages + 1 ≤ roomy.room → (other : ℕ) → HasClass (slabs_of (with_roomy slabs (dst - 1) roomy)) other → Fits slabs.rows (set slabs.classes.items (dst - 1) roomy) (truth (dst == other)) other
fits-to_class slabs dst read roomy kept is h same room other here =
    let before : HasClass (slabs_of slabs) other = (here.0, IsClass-set slabs.rows slabs.classes.items (dst - 1) other roomy here.1) in
    let state = ap (λ (c : ClassState). with_lists c slabs.rows (dst - 1)) same ∙ read_state slabs dst (dst - 1) read is refl h in
    Fits-set slabs.rows slabs.classes.items dst other (truth (dst == other)) roomy is.0 (length-classes slabs dst is) here.0
    (λ e. omega (arith, ap (λ (c : ClassState). length c.pages) state, room, truth_le (dst == other)))
    (λ differs. omega (arith, kept.classes other before, not_awaited dst other (λ e. differs (sym e))))
