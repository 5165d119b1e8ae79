-- Pages and lists stay in order under each silent change.
use Rattle.std.proofs.Common.{◌≡◌, ℕ, ◌+◌, ◌&&◌, true, length, Option, Some, None, Result, Ok, Err, refl, sym, subst, inl, inr, arith, is_none, is_some, eqb-true, leb-true, nat_le}
use Rattle.std.proofs.lemmas.Bool.{and_parts, cases_lt}
use Rattle.mc_classes.specs.Classes.{Classes}
use Rattle.mc_pages.specs.declared.ids.ChunkId.{ChunkId}
use Rattle.mc_pages.specs.declared.ids.Moving.{Moving}
use Rattle.mc_pages.specs.declared.moves.Found.{Found}
use Rattle.mc_pages.specs.declared.moves.Reassign.{Reassign}
use Rattle.mc_pages.specs.SlabState.{SlabState, HasClass, class_of_chunk}
use Rattle.mc_pages.specs.Answer.{answer_of}
use Rattle.mc_pages.specs.Changes.{next_page, after_grant, after_grow, after_touch, after_trim, after_evicted}
use Rattle.mc_pages.specs.Moves.{after_finish, after_passed, after_wrap}
use Rattle.mc_pages.specs.InOrder.{AreSlabsInOrder}
use Rattle.mc_pages.proofs.Kept.{IsInOrder-after_grant, IsInOrder-after_take, IsInOrder-after_begin, IsInOrder-after_touch, IsInOrder-after_evicted, IsInOrder-after_passed, IsInOrder-after_wrap, IsInOrder-automove, IsInOrder-after_trim, IsInOrder-finished}
use Rattle.mc_pages.proofs.RoomyGrow.{next_pooled, next_granted, grow_takes, grow_grants}
use Rattle.mc_core.specs.declared.event.Change.{Change}
use Rattle.mc_core.specs.declared.event.Change.TheVariants.{Grow, BeginMove, FinishMove, Touch, SetAutomove, TrimLedger, Passed, Wrap, Evicted, OfStripe, GotNone, DeletedNone}
use Rattle.mc_core.specs.model.State.{is_class, number_at, has_slabs, is_held_by}
use Rattle.mc_core.specs.run.Silent.{is_handed_out, none_half_cut, can_finish, can_pass, can_wrap, run_of, after_growth, after_reassign, can_change_slabs, slabs_after}
use Rattle.mc_core.specs.law.Places.{ArePaged}
use Rattle.mc_core.specs.past.Past.{Moment}
use Rattle.mc_core.specs.law.Lawful.{PagedIn}
use Rattle.mc_core.specs.law.Laws.{ChangesKeep}
use Rattle.mc_core.proofs.Places.OfTable.{HasShape, of_table, grow_shape, begin_shape, finish_shape, touch_shape, evicted_shape, passed_shape, wrap_shape}
use Rattle.mc_core.proofs.Steps.Listed.{Contains_from_among, IsClass_from}
use Rattle.mc_core.proofs.Steps.Asked.{finish_asked, pass_asked, wrap_asked}

-- a lock that somebody has isn't free
pub lock_not_free : (word : ℕ) (number : Option ℕ) → is_held_by word number ≡ true → word ≡ 0 → ⊥
lock_not_free word None held free = cc
lock_not_free word (Some number) held free = let is : word ≡ number + 1 = eqb-true word (number + 1) held in omega arith

pub whole_is : (uncut : Option ChunkId) → is_none uncut ≡ true → uncut ≡ None
whole_is None h = refl
whole_is (Some chunk) h = absurd (cc)

-- pages and lists after a change
pub record StayPaged (old new : SlabState) : Type 0 where
  pub shape : HasShape old new
  pub order : (granted : ℕ) × AreSlabsInOrder new granted

-- under the lock a page may be half cut
pub paged_from : (table : Classes) (old new : SlabState) (lock : ℕ) → ArePaged table old lock → StayPaged old new → (lock ≡ 0 → ⊥) → ArePaged table new lock
paged_from table old new lock was now held = record {
  of_table = of_table table old new was.of_table now.shape now.order.1.accounted;
  order = now.order;
  whole = λ free. absurd (held free);
}

module _ (table : Classes) (slabs : SlabState) (lock : ℕ) (paged : ArePaged table slabs lock) where
  stays : StayPaged slabs slabs
  stays = record { shape = record { page = refl; limit = refl; counts = refl; owners = refl }; order = paged.order }

  grow_order : (class page : ℕ) → HasClass slabs class → slabs.uncut ≡ None → next_page slabs class ≡ Some page → (granted : ℕ) × AreSlabsInOrder (after_grow slabs class page) granted
  grow_order class page is whole next =
      let granted = paged.order.0 in let kept = paged.order.1 in
      elim (cases_lt 0 (length slabs.pool)) [
        | inl some ↦ (granted, subst (λ (s : SlabState). AreSlabsInOrder s granted) (sym (grow_takes slabs class page some)) (IsInOrder-after_take slabs granted class page kept is whole (next_pooled slabs class page some next)))
        | inr none ↦
            let empty : length slabs.pool ≡ 0 = omega arith in
            let first = next_granted slabs granted class page kept is empty next in
            let grants = IsInOrder-after_grant slabs granted class kept is whole first.1 first.2 in
            (granted + 1, subst (λ (s : SlabState). AreSlabsInOrder s (granted + 1)) (sym (grow_grants slabs class page empty)) (subst (λ p. AreSlabsInOrder (after_grant slabs class p) (granted + 1)) (sym first.0) grants))
      ]

  grown_paged : (class : ℕ) (next : Option ℕ) → next_page slabs class ≡ next → is_class table class ≡ true → none_half_cut slabs ≡ true → StayPaged slabs (after_growth slabs class next)
  grown_paged class None is named whole = stays
  grown_paged class (Some page) is named whole =
      let class_is = IsClass_from table slabs class paged.of_table named in
      record {
        shape = grow_shape slabs class page;
        order = grow_order class page class_is (whole_is slabs.uncut whole) is;
      }

  begun_paged : (src : Option ℕ) (dst : ℕ) (answer : Result ℕ Reassign) → answer_of slabs src dst ≡ answer → StayPaged slabs (after_reassign slabs src dst answer)
  begun_paged src dst (Err refusal) is = stays
  begun_paged src dst (Ok source) is = record {
    shape = begin_shape slabs src dst source;
    order = (paged.order.0, IsInOrder-after_begin slabs paged.order.0 src source dst paged.order.1 is);
  }

  finished_paged : can_finish slabs slabs.moving ≡ true → StayPaged slabs (after_finish slabs slabs.moving)
  finished_paged can =
      let asked = finish_asked table slabs slabs.moving paged.of_table refl can in
      let move : Moving = asked.1.0 in let may = asked.1.1 in
      subst (λ o. StayPaged slabs (after_finish slabs o)) (sym may.runs)
      (record {
        shape = finish_shape slabs (Some move);
        order = (paged.order.0, IsInOrder-finished slabs paged.order.0 move paged.order.1 asked.0 may);
      })

  touched_paged : (chunk : ChunkId) → is_handed_out slabs chunk ≡ true → StayPaged slabs (after_touch slabs chunk)
  touched_paged chunk out =
      let handed = Contains_from_among (class_of_chunk slabs chunk).order chunk out in
      let all = paged.order.1.accounted in
      record {
        shape = touch_shape slabs chunk;
        order = (paged.order.0, IsInOrder-after_touch slabs paged.order.0 chunk paged.order.1 handed);
      }

  evicted_paged : (class : ℕ) → is_class table class ≡ true → StayPaged slabs (after_evicted slabs class)
  evicted_paged class named =
      let is = IsClass_from table slabs class paged.of_table named in
      record {
        shape = evicted_shape slabs class;
        order = (paged.order.0, IsInOrder-after_evicted slabs paged.order.0 class paged.order.1 is);
      }

  passed_paged : (found : Found) → can_pass slabs found (run_of table slabs.moving) ≡ true → StayPaged slabs (after_passed slabs found)
  passed_paged found can =
      let asked = pass_asked table slabs found slabs.moving paged.of_table refl can in
      record {
        shape = passed_shape slabs found;
        order = (paged.order.0, IsInOrder-after_passed slabs paged.order.0 found asked.0 paged.order.1 asked.1);
      }

  wrapped_paged : can_wrap (run_of table slabs.moving) ≡ true → StayPaged slabs (after_wrap slabs)
  wrapped_paged can =
      let asked = wrap_asked table slabs slabs.moving paged.of_table refl can in
      record {
        shape = wrap_shape slabs;
        order = (paged.order.0, IsInOrder-after_wrap slabs paged.order.0 asked.0 paged.order.1 asked.1);
      }

  automove_paged : (mode : ℕ) → nat_le mode 2 ≡ true → StayPaged slabs (record slabs { automove = mode })
  automove_paged mode within_limit = record {
    shape = record { page = refl; limit = refl; counts = refl; owners = refl };
    order = (paged.order.0, IsInOrder-automove slabs paged.order.0 mode (leb-true mode 2 within_limit) paged.order.1);
  }

  trimmed_paged : StayPaged slabs (after_trim slabs)
  trimmed_paged = record {
    shape = record { page = refl; limit = refl; counts = refl; owners = refl };
    order = (paged.order.0, IsInOrder-after_trim slabs paged.order.0 paged.order.1);
  }

-- each change of pages and lists that is allowed
paged_slabs : (table : Classes) (slabs : SlabState) (lock : ℕ) → ArePaged table slabs lock → (change : Change) → can_change_slabs table slabs change ≡ true → StayPaged slabs (slabs_after slabs change)
paged_slabs table slabs lock paged (Grow class) can =
    let parts = and_parts (is_class table class && none_half_cut slabs) (is_some (next_page slabs class)) can in
    let tests = and_parts (is_class table class) (none_half_cut slabs) parts.0 in
    grown_paged table slabs lock paged class (next_page slabs class) refl tests.0 tests.1
paged_slabs table slabs lock paged (BeginMove src dst) can = begun_paged table slabs lock paged src dst (answer_of slabs src dst) refl
paged_slabs table slabs lock paged FinishMove can = finished_paged table slabs lock paged can
paged_slabs table slabs lock paged (Touch chunk) can = touched_paged table slabs lock paged chunk can
paged_slabs table slabs lock paged (SetAutomove mode) can = automove_paged table slabs lock paged mode can
paged_slabs table slabs lock paged TrimLedger can = trimmed_paged table slabs lock paged
paged_slabs table slabs lock paged (Passed found) can = passed_paged table slabs lock paged found can
paged_slabs table slabs lock paged Wrap can = wrapped_paged table slabs lock paged can
paged_slabs table slabs lock paged (Evicted class) can = evicted_paged table slabs lock paged class can
paged_slabs table slabs lock paged (OfStripe stripe how) can = absurd (cc)
paged_slabs table slabs lock paged (GotNone key) can = absurd (cc)
paged_slabs table slabs lock paged (DeletedNone key) can = absurd (cc)

under_lock : (moment : Moment) (hand : ℕ) (change : Change) → PagedIn moment → (has_slabs moment.state hand && can_change_slabs moment.state.table moment.state.slabs change) ≡ true →
    ArePaged moment.state.table (slabs_after moment.state.slabs change) moment.state.slabs_lock
under_lock moment hand change paged allowed =
    let state = moment.state in
    let parts = and_parts (has_slabs state hand) (can_change_slabs state.table state.slabs change) allowed in
    paged_from state.table state.slabs (slabs_after state.slabs change) state.slabs_lock paged (paged_slabs state.table state.slabs state.slabs_lock paged change parts.1)
    (lock_not_free state.slabs_lock (number_at state hand) parts.0)

pub paged_changes : ChangesKeep PagedIn
paged_changes moment hand (Grow class) may = under_lock moment hand (Grow class) may.lawful.paged may.allowed
paged_changes moment hand (BeginMove src dst) may = under_lock moment hand (BeginMove src dst) may.lawful.paged may.allowed
paged_changes moment hand FinishMove may = under_lock moment hand FinishMove may.lawful.paged may.allowed
paged_changes moment hand (Touch chunk) may = under_lock moment hand (Touch chunk) may.lawful.paged may.allowed
paged_changes moment hand (SetAutomove mode) may = under_lock moment hand (SetAutomove mode) may.lawful.paged may.allowed
paged_changes moment hand TrimLedger may = under_lock moment hand TrimLedger may.lawful.paged may.allowed
paged_changes moment hand (Passed found) may = under_lock moment hand (Passed found) may.lawful.paged may.allowed
paged_changes moment hand Wrap may = under_lock moment hand Wrap may.lawful.paged may.allowed
paged_changes moment hand (Evicted class) may = under_lock moment hand (Evicted class) may.lawful.paged may.allowed
paged_changes moment hand (OfStripe stripe how) may = may.lawful.paged
paged_changes moment hand (GotNone key) may = may.lawful.paged
paged_changes moment hand (DeletedNone key) may = may.lawful.paged
