use Rattle.std.proofs.Common.{◌≡◌, ◌≢◌, ℕ, ◌-◌, ◌≤◌, ◌==◌, List, length, vec_len, set, Some, Ok, refl, sym, ap, ap₂, ◌∙◌, subst, arith}
use Rattle.std.specs.Vec.{with_item}
use Rattle.mc_classes.specs.Limits.{most_arena_pages}
use Rattle.mc_pages.specs.declared.ledger.Owner.TheVariants as owner
use Rattle.mc_pages.specs.declared.ledger.Entry.{Entry}
use Rattle.mc_pages.specs.declared.ledger.Entry.TheVariants.{Began}
use Rattle.mc_pages.specs.declared.slabs.Slabs.TheInside.{Inside}
use Rattle.mc_pages.specs.ClassState.{ClassState}
use Rattle.mc_pages.specs.SlabState.{SlabState, HasClass, class_at}
use Rattle.mc_pages.specs.Answer.{answer_of, cursor_after}
use Rattle.mc_pages.specs.Moves.{first_page, after_begin}
use Rattle.mc_pages.specs.Linked.{sizes_of}
use Rattle.mc_pages.specs.Room.{class_states}
use Rattle.mc_pages.specs.InOrder.{AreSlabsInOrder, HasRows, IsStoredInOrder, slabs_of}
use Rattle.mc_pages.specs.Base.{Entries}
use Rattle.mc_pages.specs.Ledger.{ordinary_count}
use Rattle.mc_pages.proofs.Grace.{add_zero, ordinary_count-push}
use Rattle.mc_pages.proofs.Kept.{pages_below}
use Rattle.mc_pages.proofs.KeptMoves.{first_page_within, IsInOrder-after_begin}
use Rattle.mc_pages.proofs.Source.{source_is}
use Rattle.mc_pages.proofs.Trimmed.{told_entries}
use Rattle.mc_pages.proofs.RoomySlabs.{length-classes, read_state}
use Rattle.mc_pages.proofs.RoomyGrow.{on_err, truth_le, states_roomier, fits-roomier}
use Rattle.mc_pages.proofs.RoomyMoves.{if_ok_at, begun_with, begun_is, not_awaited, fits-to_pool, fits-to_class}
use Rattle.mc_pages.proofs.Roomy.{same_state}
use Rattle.mc_pages.proofs.slabs.Slabs.begin_move.Goals as goal
use Rattle.mc_pages.proofs.slabs.Slabs.begin_move.Goals.{After-reserve, After-page_count, then-dst-eq0+in_ok-reserve-2, else-dst-eq0+in_ok-make_room}

-- the class that gives a page
answer_is : (c : After-reserve) → answer_of (slabs_of c.self.inside) c.args.src c.args.dst ≡ Ok c.in_ok-source.source
answer_is c = ap (λ (s : SlabState). answer_of s c.args.src c.args.dst) (same_state c.self.view_is) ∙ sym c.in_ok-source.ensures

-- a destination that isn't the pool is one of the classes
is_class : (c : After-reserve) → c.args.dst ≢ 0 → HasClass (slabs_of c.self.inside) c.args.dst
is_class c some = (omega arith, (source_is (slabs_of c.self.inside) c.args.src c.in_ok-source.source c.args.dst (answer_is c)).2)

pub index_mut-slab-requires : goal.index_mut-slab-requires
index_mut-slab-requires c =
    let is = is_class (goal.at.index_mut-slab-requires c).After-reserve c.if-dst-eq0.false in
    omega (arith, is.0, length-classes c.self.inside c.args.dst is)

-- how many pages the destination has
page_count : (c : After-page_count) → c.page_count.result ≡ length (class_at (slabs_of c.self.inside) c.args.dst).pages
page_count c =
    let is = is_class (goal.at.overflow_add-page_count c).After-reserve c.if-dst-eq0.false in
    c.page_count.ensures ∙ ap (λ (class : ClassState). length class.pages) (read_state c.self.inside c.args.dst _ _ is refl c.index_mut-slab.ensures.value)

within_limit : (c : After-page_count) → c.page_count.result ≤ most_arena_pages
within_limit c =
    let is = is_class (goal.at.overflow_add-page_count c).After-reserve c.if-dst-eq0.false in
    omega (arith, page_count c, pages_below (slabs_of c.self.inside) c.self.inside.granted c.args.dst c.self.invariant.order is)

pub overflow_add-page_count : goal.overflow_add-page_count
overflow_add-page_count c = omega (arith, within_limit (goal.at.overflow_add-page_count c).After-page_count)

pub make_room-requires : goal.make_room-requires
make_room-requires c = omega (arith, within_limit (goal.at.make_room-requires c).After-page_count)

-- what was reserved changes nothing that callers see
refused_is : (c : goal.After-from_residual-in_err-make_room) → record (slabs_of c.self.inside) { classes = class_states c.self.inside.rows (set c.self.inside.classes.items (c.args.dst - 1) c.make_room.new.self); ledger = c.reserve.new.self.all; trimmed = c.reserve.new.self.trimmed } ≡ slabs_of c.self.inside
refused_is c =
    let is = is_class (goal.at.invariant_of-self-in_err-make_room c).After-reserve c.if-dst-eq0.false in
    ap₂ (λ (classes : List ClassState) (entries : Entries). record (slabs_of c.self.inside) { classes = classes; ledger = entries.all; trimmed = entries.trimmed })
    (states_roomier c.self.inside c.args.dst _ c.make_room.new.self is c.index_mut-slab.ensures.value c.in_err-make_room.ensures.state)
    c.in_ok-reserve.ensures.same

pub invariant_of-self-in_err-make_room : goal.invariant_of-self-in_err-make_room
invariant_of-self-in_err-make_room c =
    let is = is_class (goal.at.invariant_of-self-in_err-make_room c).After-reserve c.if-dst-eq0.false in
    record {
      order = subst (λ (s : SlabState). AreSlabsInOrder s c.self.inside.granted) (sym (refused_is c)) c.self.invariant.order;
      ledger = omega (arith, c.self.invariant.ledger, c.in_ok-reserve.ensures.kept);
      base = ap (λ (entries : Entries). entries.pages) c.in_ok-reserve.ensures.same ∙ c.self.invariant.base;
      pool = c.self.invariant.pool;
      classes = fits-roomier c.self.inside c.args.dst _ c.make_room.new.self c.self.invariant is c.index_mut-slab.ensures.value c.in_err-make_room.ensures.state c.in_err-make_room.ensures.kept;
      linked = c.self.invariant.linked;
      ordinary = c.self.invariant.ordinary ∙ sym (ap (λ (entries : Entries). ordinary_count entries.all) c.in_ok-reserve.ensures.same);
      aged = c.self.invariant.aged;
      rows = subst (λ (s : SlabState). HasRows s.classes (vec_len c.self.inside.owners) (sizes_of c.self.inside.rows)) (sym (refused_is c)) c.self.invariant.rows;
    }

pub returns-in_err-make_room-clause-refused : goal.returns-in_err-make_room-clause-refused
returns-in_err-make_room-clause-refused c = on_err c.from_residual-in_err-make_room.result (refused_is c ∙ (same_state c.self.view_is))

pub returns-in_err-make_room-clause-accounted : goal.returns-in_err-make_room-clause-accounted
returns-in_err-make_room-clause-accounted c = (invariant_of-self-in_err-make_room c).order.accounted

-- the page that begins to move
page_is : (c : After-reserve) → c.first_page-page.result ≡ first_page (slabs_of c.self.inside) c.in_ok-source.source
page_is c = c.first_page-page.ensures ∙ ap (λ (s : SlabState). first_page s c.in_ok-source.source) (sym (same_state c.self.view_is))

pub index_mut-requires : goal.index_mut-requires
index_mut-requires c =
    let slabs = slabs_of c.self.inside in
    let here = (goal.at.index_mut-requires c).After-reserve in
    let is = source_is slabs c.args.src c.in_ok-source.source c.args.dst (answer_is here) in
    let within = first_page_within slabs c.self.inside.granted c.in_ok-source.source c.self.invariant.order is.0 (omega (arith, is.1)) in
    elim c.if-dst-eq0.branch [
      | then-dst-eq0+in_ok-reserve-2 w ↦ omega (arith, within, page_is here, ap (λ (i : Inside). vec_len i.owners) w.self-inside-is)
      | else-dst-eq0+in_ok-make_room w ↦ omega (arith, within, page_is here, ap (λ (i : Inside). vec_len i.owners) w.self-inside-is)
    ]

-- the move begins in what stands open
abbrev begun : (c : goal.After-self-4-1) → Inside → Inside
begun c inside = record inside {
  owners = with_item inside.owners c.first_page-page.result (owner.Moving c.in_ok-source.source c.args.dst);
  ledger = c.tell.new.self;
  moving = Some (record { page = c.first_page-page.result; src = c.in_ok-source.source; dst = c.args.dst; at = 0; busy = 0 });
  cursor = c.cursor_after-cursor.result;
}

-- what was reserved for it has room for two
abbrev roomy : (c : goal.After-self-4-1) → Entries
roomy c = record c.self.inside.ledger { room = c.reserve.new.self.room }

-- the ledger has the entry at its end
told : (c : goal.After-self-4-1) (inside : Inside) → c.if-dst-eq0.self-inside ≡ inside → inside.ledger ≡ roomy c → c.tell.new.self ≡ told_entries c.self.inside.ledger (Began c.first_page-page.result c.in_ok-source.source c.args.dst) c.tell.new.self.room
told c inside is before =
    let entry : Entry = Began c.first_page-page.result c.in_ok-source.source c.args.dst in
    c.tell.ensures.records
    ∙ (ap (λ (i : Inside). told_entries i.ledger entry c.tell.new.self.room) is ∙ ap (λ (entries : Entries). told_entries entries entry c.tell.new.self.room) before)

-- of which it is none within the limit
ordinary_told : (c : goal.After-self-4-1) (inside : Inside) → c.if-dst-eq0.self-inside ≡ inside → inside.ledger ≡ roomy c → ordinary_count c.tell.new.self.all ≡ ordinary_count c.self.inside.ledger.all
ordinary_told c inside is before =
    let entry : Entry = Began c.first_page-page.result c.in_ok-source.source c.args.dst in
    ap (λ (entries : Entries). ordinary_count entries.all) (told c inside is before) ∙ (ordinary_count-push c.self.inside.ledger.all entry ∙ add_zero (ordinary_count c.self.inside.ledger.all))

-- and room for the one at the move's end
ledger_fits : (c : goal.After-self-4-1) (inside : Inside) → c.if-dst-eq0.self-inside ≡ inside → inside.ledger ≡ roomy c → 1 ≤ c.tell.new.self.room
ledger_fits c inside is before = omega (arith, c.tell.ensures.room, ap (λ (i : Inside). i.ledger.room) is, ap (λ (entries : Entries). entries.room) before, c.in_ok-reserve.ensures.room)

-- it tells of as many pages
pages_told : (c : goal.After-self-4-1) (inside : Inside) → c.if-dst-eq0.self-inside ≡ inside → inside.ledger ≡ roomy c → c.tell.new.self.pages ≡ vec_len c.self.inside.owners
pages_told c inside is before = ap (λ (entries : Entries). entries.pages) (told c inside is before) ∙ c.self.invariant.base

-- the whole after the beginning
began_is : (c : goal.After-self-4-1) (inside : Inside) → c.if-dst-eq0.self-inside ≡ inside → inside.ledger ≡ roomy c → (classes : List ClassState) (pool : List ℕ) → classes ≡ (slabs_of c.self.inside).classes → pool ≡ c.self.inside.pool.items → begun_with (slabs_of c.self.inside) c.first_page-page.result c.in_ok-source.source c.args.dst c.cursor_after-cursor.result classes pool c.tell.new.self ≡ after_begin (slabs_of c.self.inside) c.args.src c.in_ok-source.source c.args.dst
began_is c inside is before classes pool classes_is pool_is =
    let cursor = c.cursor_after-cursor.ensures ∙ ap (λ (s : SlabState). cursor_after s c.args.src c.in_ok-source.source) (sym (same_state c.self.view_is)) in
    begun_is c.self.inside c.args.src _ _ _ _ _ _ _ _ classes_is pool_is (told c inside is before) (page_is (goal.at.invariant_of-self-2 c).After-reserve) cursor

pub invariant_of-self-2 : goal.invariant_of-self-2
invariant_of-self-2 c =
    let slabs = slabs_of c.self.inside in
    let here = (goal.at.invariant_of-self-2 c).After-reserve in
    let order = IsInOrder-after_begin slabs c.self.inside.granted c.args.src c.in_ok-source.source c.args.dst c.self.invariant.order (answer_is here) in
    let kept : Inside → Type 0 = λ i. IsStoredInOrder (begun c i) in
    elim c.if-dst-eq0.branch [
      | then-dst-eq0+in_ok-reserve-2 w ↦
          subst kept (sym w.self-inside-is) (record {
            order = subst (λ (s : SlabState). AreSlabsInOrder s c.self.inside.granted) (sym (began_is c _ w.self-inside-is c.in_ok-reserve.ensures.same _ _ refl w.in_ok-reserve-2.ensures.items)) order;
            ledger = ledger_fits c _ w.self-inside-is c.in_ok-reserve.ensures.same;
            base = pages_told c _ w.self-inside-is c.in_ok-reserve.ensures.same;
            pool = omega (arith, w.in_ok-reserve-2.ensures.ok, truth_le (c.args.dst == 0));
            classes = fits-to_pool c.self.inside c.args.dst c.self.invariant w.if-dst-eq0.true;
            linked = c.self.invariant.linked;
            ordinary = c.self.invariant.ordinary ∙ sym (ordinary_told c _ w.self-inside-is c.in_ok-reserve.ensures.same);
            aged = c.self.invariant.aged;
            rows = c.self.invariant.rows;
          })
      | else-dst-eq0+in_ok-make_room w ↦
          let is = is_class here w.if-dst-eq0.false in
          let read = read_state c.self.inside c.args.dst _ _ is refl w.index_mut-slab.ensures.value in
          subst kept (sym w.self-inside-is) (record {
            order = subst (λ (s : SlabState). AreSlabsInOrder s c.self.inside.granted)
                (sym (began_is c _ w.self-inside-is c.in_ok-reserve.ensures.same _ _ (states_roomier c.self.inside c.args.dst _ w.make_room.new.self is w.index_mut-slab.ensures.value w.in_ok-make_room.ensures.state) refl)) order;
            ledger = ledger_fits c _ w.self-inside-is c.in_ok-reserve.ensures.same;
            base = pages_told c _ w.self-inside-is c.in_ok-reserve.ensures.same;
            pool = omega (arith, c.self.invariant.pool, not_awaited c.args.dst 0 w.if-dst-eq0.false);
            classes = fits-to_class c.self.inside c.args.dst _ w.make_room.new.self c.self.invariant is w.index_mut-slab.ensures.value w.in_ok-make_room.ensures.state
                (omega (arith, w.page_count.ensures, ap (λ (class : ClassState). length class.pages) read, w.in_ok-make_room.ensures.ok));
            linked = c.self.invariant.linked;
            ordinary = c.self.invariant.ordinary ∙ sym (ordinary_told c _ w.self-inside-is c.in_ok-reserve.ensures.same);
            aged = c.self.invariant.aged;
            rows = subst (λ (classes : List ClassState). HasRows classes (vec_len c.self.inside.owners) (sizes_of c.self.inside.rows))
                (sym (states_roomier c.self.inside c.args.dst _ w.make_room.new.self is w.index_mut-slab.ensures.value w.in_ok-make_room.ensures.state)) c.self.invariant.rows;
          })
    ]

pub returns-clause-began : goal.returns-clause-began
returns-clause-began c =
    let slabs = slabs_of c.self.inside in
    let here = (goal.at.invariant_of-self-2 c).After-reserve in
    let answer = sym c.in_ok-source.ensures in
    let seen : Inside → SlabState = λ i. slabs_of (begun c i) in
    let began = ap (λ (s : SlabState). after_begin s c.args.src c.in_ok-source.source c.args.dst) (same_state c.self.view_is) in
    elim c.if-dst-eq0.branch [
      | then-dst-eq0+in_ok-reserve-2 w ↦
          if_ok_at _ (λ (source : ℕ). _) _ answer (ap seen w.self-inside-is ∙ (began_is c _ w.self-inside-is c.in_ok-reserve.ensures.same _ _ refl w.in_ok-reserve-2.ensures.items ∙ began))
      | else-dst-eq0+in_ok-make_room w ↦
          let is = is_class here w.if-dst-eq0.false in
          let classes = states_roomier c.self.inside c.args.dst _ w.make_room.new.self is w.index_mut-slab.ensures.value w.in_ok-make_room.ensures.state in
          if_ok_at _ (λ (source : ℕ). _) _ answer (ap seen w.self-inside-is ∙ (began_is c _ w.self-inside-is c.in_ok-reserve.ensures.same _ _ classes refl ∙ began))
    ]

pub returns-clause-accounted : goal.returns-clause-accounted
returns-clause-accounted c = (invariant_of-self-2 c).order.accounted
