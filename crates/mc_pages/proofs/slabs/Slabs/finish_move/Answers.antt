use Rattle.std.proofs.Common.{◌≡◌, ◌≢◌, ◌-◌, vec_len, set, None, sym, ap, ◌∙◌, subst, arith}
use Rattle.mc_pages.specs.declared.ids.Moving.{Moving}
use Rattle.mc_pages.specs.declared.ledger.Owner.TheVariants.{Pool, Class}
use Rattle.mc_pages.specs.declared.ledger.Entry.TheVariants.{Ended}
use Rattle.mc_pages.specs.Linked.{sizes_of}
use Rattle.mc_pages.specs.Room.{class_states}
use Rattle.mc_pages.specs.SlabState.{SlabState, HasClass}
use Rattle.mc_pages.specs.Accounted.{IsMove}
use Rattle.mc_pages.specs.Moves.{after_move_end, after_finish, CanFinish}
use Rattle.mc_pages.specs.InOrder.{AreSlabsInOrder, slabs_of}
use Rattle.mc_pages.specs.Base.{Entries}
use Rattle.mc_pages.specs.Ledger.{ordinary_count}
use Rattle.mc_pages.proofs.Grace.{add_zero, ordinary_count-push}
use Rattle.mc_pages.proofs.KeptFinish.{IsInOrder-finished}
use Rattle.mc_pages.proofs.Trimmed.{told_entries}
use Rattle.mc_pages.proofs.Roomy.{if_ok}
use Rattle.mc_pages.proofs.RoomySlabs.{length-classes, IsClass-set}
use Rattle.mc_pages.proofs.RoomyMoves.{Some-same}
use Rattle.mc_pages.proofs.RoomyFinish.{moving_within, ended_with, joined_with, pooled_is, joined_is, fits-pooled, dst_has_room, fits-joined, within-both, rows-pooled, rows-joined}
use Rattle.mc_pages.proofs.Roomy.{same_state}
use Rattle.mc_pages.proofs.slabs.Slabs.finish_move.Goals as goal
use Rattle.mc_pages.proofs.slabs.Slabs.finish_move.Goals.{After-index_mut, After-saturating_add-self-inside}

-- each chunk of the moving page is cleared
can_finish : (c : After-index_mut) → CanFinish (slabs_of c.self.inside) c.in-Some.moving
can_finish c =
    let can = subst (λ (s : SlabState). (move : Moving) × CanFinish s move) (sym (same_state c.self.view_is)) c.requires.cleared in
    subst (λ (move : Moving). CanFinish (slabs_of c.self.inside) move) (Some-same can.0 c.in-Some.moving (sym can.1.runs ∙ c.in-Some.is)) can.1

-- no chunk is to be cut
whole : (c : After-index_mut) → (slabs_of c.self.inside).uncut ≡ None
whole c = subst (λ (s : SlabState). s.uncut ≡ None) (sym (same_state c.self.view_is)) c.requires.whole

-- the page moves from one class to another or to the pool
is_move : (c : After-index_mut) → IsMove (slabs_of c.self.inside) c.in-Some.moving
is_move c = c.self.invariant.order.accounted.move c.in-Some.moving c.in-Some.is

-- a destination that isn't the pool is one of the classes
is_class : (c : After-index_mut) → c.in-Some.moving.dst ≢ 0 → HasClass (slabs_of c.self.inside) c.in-Some.moving.dst
is_class c some = (omega arith, (is_move c).dst)

pub overflow_sub-src : goal.overflow_sub-src
overflow_sub-src c = omega (arith, (c.self.invariant.order.accounted.move c.in-Some.moving c.in-Some.is).src.0)

pub index_mut-requires-then-dst-eq0 : goal.index_mut-requires-then-dst-eq0
index_mut-requires-then-dst-eq0 c = omega (arith, moving_within (slabs_of c.self.inside) c.in-Some.moving (is_move (goal.at.index_mut-requires-then-dst-eq0 c).After-index_mut))

pub index_mut-requires-else-dst-eq0 : goal.index_mut-requires-else-dst-eq0
index_mut-requires-else-dst-eq0 c =
    let is = is_class (goal.at.index_mut-requires-else-dst-eq0 c).After-index_mut c.if-dst-eq0.false in
    omega (arith, is.0, length-classes c.self.inside c.in-Some.moving.dst is)

pub index_mut-requires-else-dst-eq0-2 : goal.index_mut-requires-else-dst-eq0-2
index_mut-requires-else-dst-eq0-2 c = omega (arith, moving_within (slabs_of c.self.inside) c.in-Some.moving (is_move (goal.at.index_mut-requires-else-dst-eq0-2 c).After-index_mut))

-- the ledger has the entry at its end, for which there was room
told : (c : After-saturating_add-self-inside) → c.tell.new.self ≡ told_entries c.self.inside.ledger (Ended c.in-Some.moving.page c.in-Some.moving.dst) c.tell.new.self.room
told c = c.tell.ensures.records

-- of which it is none within the limit
ordinary_told : (c : After-saturating_add-self-inside) → ordinary_count c.tell.new.self.all ≡ ordinary_count c.self.inside.ledger.all
ordinary_told c = ap (λ (entries : Entries). ordinary_count entries.all) (told c) ∙ (ordinary_count-push c.self.inside.ledger.all (Ended c.in-Some.moving.page c.in-Some.moving.dst) ∙ add_zero (ordinary_count c.self.inside.ledger.all))

-- it tells of as many pages
pages_told : (c : After-saturating_add-self-inside) → c.tell.new.self.pages ≡ vec_len c.self.inside.owners
pages_told c = ap (λ (entries : Entries). entries.pages) (told c) ∙ c.self.invariant.base

-- all is in order
in_order : (c : After-index_mut) → AreSlabsInOrder (after_move_end (slabs_of c.self.inside) c.in-Some.moving) c.self.inside.granted
in_order c = IsInOrder-finished (slabs_of c.self.inside) c.self.inside.granted c.in-Some.moving c.self.invariant.order (whole c) (can_finish c)

-- what callers see of the move that ended
seen : (c : After-index_mut) → after_move_end (slabs_of c.self.inside) c.in-Some.moving ≡ after_finish c.args.self.now.state c.args.self.now.state.moving
seen c = ap (after_finish (slabs_of c.self.inside)) (sym c.in-Some.is) ∙ ap (λ (s : SlabState). after_finish s s.moving) (same_state c.self.view_is)

-- the whole where the page went into the pool
pooled : (c : goal.After-self-then-dst-eq0-1) → ended_with (slabs_of c.self.inside) (class_states c.self.inside.rows (set c.self.inside.classes.items (c.in-Some.moving.src - 1) c.remove_page.new.self)) (set c.self.inside.owners.items c.in-Some.moving.page Pool) c.push.new.self.items c.tell.new.self c.saturating_add-self-inside.result ≡ after_move_end (slabs_of c.self.inside) c.in-Some.moving
pooled c =
    let pool = c.push.ensures.items ∙ if_ok c.push.result _ _ _ c.unwrap.ensures in
    pooled_is c.self.inside c.in-Some.moving _ _ _ _ _ _ (is_move (goal.at.invariant_of-self c).After-index_mut).src c.index_mut.ensures.value c.remove_page.ensures
    pool (told (goal.at.invariant_of-self c).After-saturating_add-self-inside) c.saturating_add-self-inside.ensures c.if-dst-eq0.true

pub invariant_of-self : goal.invariant_of-self
invariant_of-self c =
    let here = (goal.at.invariant_of-self c).After-index_mut in
    let move = c.in-Some.moving in
    let is = (is_move here).src in
    record {
      order = subst (λ (s : SlabState). AreSlabsInOrder s c.self.inside.granted) (sym (pooled c)) (in_order here);
      ledger = omega arith;
      base = pages_told (goal.at.invariant_of-self c).After-saturating_add-self-inside;
      pool = omega (arith, c.push.new.self.ok.1);
      classes = λ other there. fits-pooled c.self.inside move _ _ c.self.invariant is c.index_mut.ensures.value c.remove_page.ensures other there.0 (IsClass-set c.self.inside.rows _ _ other _ there.1);
      linked = c.self.invariant.linked;
      ordinary = c.self.invariant.ordinary ∙ sym (ordinary_told (goal.at.invariant_of-self c).After-saturating_add-self-inside);
      aged = c.self.invariant.aged;
      rows = rows-pooled c.self.inside move (vec_len c.self.inside.owners) (sizes_of c.self.inside.rows) _ _ c.self.invariant.rows is c.index_mut.ensures.value c.remove_page.ensures;
    }

pub returns-then-dst-eq0-clause-finished : goal.returns-then-dst-eq0-clause-finished
returns-then-dst-eq0-clause-finished c = pooled c ∙ seen (goal.at.invariant_of-self c).After-index_mut

pub returns-then-dst-eq0-clause-accounted : goal.returns-then-dst-eq0-clause-accounted
returns-then-dst-eq0-clause-accounted c = (invariant_of-self c).order.accounted

pub add_page-requires : goal.add_page-requires
add_page-requires c =
    let here = (goal.at.add_page-requires c).After-index_mut in
    dst_has_room c.self.inside c.in-Some.moving _ _ c.self.invariant c.in-Some.is (is_move here).src (is_class here c.if-dst-eq0.false) (is_move here).apart c.index_mut-else-dst-eq0.ensures.value

-- the whole where the page has joined its destination
joined : (c : goal.After-self-else-dst-eq0-3-1) → joined_with (slabs_of c.self.inside) c.in-Some.moving (class_states c.self.inside.rows (set (set c.self.inside.classes.items (c.in-Some.moving.src - 1) c.remove_page.new.self) (c.in-Some.moving.dst - 1) c.add_page.new.self)) (set c.self.inside.owners.items c.in-Some.moving.page (Class c.in-Some.moving.dst)) c.tell.new.self c.saturating_add-self-inside.result ≡ after_move_end (slabs_of c.self.inside) c.in-Some.moving
joined c =
    let here = (goal.at.invariant_of-self-else-dst-eq0 c).After-index_mut in
    joined_is c.self.inside c.in-Some.moving _ _ _ _ _ _ _ (is_move here).src (is_class here c.if-dst-eq0.false) c.index_mut.ensures.value c.remove_page.ensures c.index_mut-else-dst-eq0.ensures.value c.add_page.ensures
    (told (goal.at.invariant_of-self-else-dst-eq0 c).After-saturating_add-self-inside) c.saturating_add-self-inside.ensures c.if-dst-eq0.false

pub invariant_of-self-else-dst-eq0 : goal.invariant_of-self-else-dst-eq0
invariant_of-self-else-dst-eq0 c =
    let here = (goal.at.invariant_of-self-else-dst-eq0 c).After-index_mut in
    let move = c.in-Some.moving in
    let is = is_move here in
    let to = is_class here c.if-dst-eq0.false in
    record {
      order = subst (λ (s : SlabState). AreSlabsInOrder s c.self.inside.granted) (sym (joined c)) (in_order here);
      ledger = omega arith;
      base = pages_told (goal.at.invariant_of-self-else-dst-eq0 c).After-saturating_add-self-inside;
      pool = omega (arith, c.self.inside.pool.ok.1);
      classes = λ other there.
          fits-joined c.self.inside move _ _ _ _ c.self.invariant c.in-Some.is is.src to is.apart c.index_mut.ensures.value c.remove_page.ensures c.index_mut-else-dst-eq0.ensures.value c.add_page.ensures other there.0 (within-both c.self.inside.rows _ _ _ other _ _ there.1);
      linked = c.self.invariant.linked;
      ordinary = c.self.invariant.ordinary ∙ sym (ordinary_told (goal.at.invariant_of-self-else-dst-eq0 c).After-saturating_add-self-inside);
      aged = c.self.invariant.aged;
      rows = rows-joined c.self.inside move (vec_len c.self.inside.owners) (sizes_of c.self.inside.rows) _ _ _ _ c.self.invariant.rows is.src to c.index_mut.ensures.value c.remove_page.ensures c.index_mut-else-dst-eq0.ensures.value c.add_page.ensures;
    }

pub returns-else-dst-eq0-clause-finished : goal.returns-else-dst-eq0-clause-finished
returns-else-dst-eq0-clause-finished c = joined c ∙ seen (goal.at.invariant_of-self-else-dst-eq0 c).After-index_mut

pub returns-else-dst-eq0-clause-accounted : goal.returns-else-dst-eq0-clause-accounted
returns-else-dst-eq0-clause-accounted c = (invariant_of-self-else-dst-eq0 c).order.accounted

pub index_mut-requires : goal.index_mut-requires
index_mut-requires c =
    let is = (c.self.invariant.order.accounted.move c.in-Some.moving c.in-Some.is).src in
    omega (arith, is.0, length-classes c.self.inside c.in-Some.moving.src is)
