-- What a call leaves so that the next one may come: a ready hand, and each of its references.
use Rattle.std.proofs.Common.{◌≡◌, ◌≤◌, ℕ, ◌+◌, List, [], ◌++◌, length, Option, Result, Ok, Err, IfOk, OnErr, Contains, refl, sym, ap, subst, ◌∙◌, append-nil}
use Rattle.std.proofs.lemmas.List.Elements.{Contains-append_left}
use Rattle.mc_classes.specs.Limits.{most_refs}
use Rattle.mc_pages.specs.declared.moves.Reassign.{Reassign}
use Rattle.mc_pages.specs.SlabState.{SlabState}
use Rattle.mc_core.specs.declared.event.Change.{Change}
use Rattle.mc_core.specs.declared.event.Change.TheVariants as change
use Rattle.mc_core.specs.declared.holding.Holding.{Holding}
use Rattle.mc_core.specs.model.Holdings.{has_fresh, holding_of}
use Rattle.mc_core.specs.past.Past.{KnownItem, known_by}
use Rattle.mc_words.specs.declared.arena.Arena.{Arena}
use Rattle.mc_words.specs.declared.hand.Hand.{Hand}
use Rattle.mc_words.specs.hand.View.{View}
use Rattle.mc_words.specs.hand.Arenas.{IsHandOf, view}
use Rattle.mc_words.specs.lock.Doing.{HoldsSlabs}
use Rattle.mc_words.specs.lock.Out.{is_neither}
use Rattle.mc_words.specs.hand.Ready.{IsReady, StaysReady}
use Rattle.mc_words.specs.page.Moves.{Reassigns}
use Rattle.mc_words.specs.item.Refs.{KeepsRefs}
use Rattle.mc_words.specs.hand.Views.{slabs_changed, slabs_given}
use Rattle.mc_words.specs.lock.Wait.{WaitsForSlabs}
use Rattle.mc_words.proofs.Hands.HandNumbers.{number_stays}
use Rattle.mc_words.proofs.Locks.Unlocked.{unlocked_from}
use Rattle.mc_mover.specs.declared.counts.Turn.{Turn}
use Rattle.mc_mover.specs.Answering.{AnswersMove, IsAnswerOf}
use Rattle.mc_mover.specs.Turning.{TurnLacksMemory, Turns}
use Rattle.mc_mover.proofs.Grows.{Grows, Stays, lacks_grow, turns_grow}
use Rattle.mc_mover.proofs.HoldsSlabs.{wait_keeps}

-- a hand with the locks and the holdings of a ready one is ready
pub ready_still : (before now : Hand) → now.locks ≡ before.locks → (view now).row.holdings ≡ (view before).row.holdings → IsReady (view before) → IsReady (view now)
ready_still before now locks holdings ready = record {
  unlocked = sym (unlocked_from now.seat.me.0 now.locks now.noted.4) ∙ (ap is_neither locks ∙ (unlocked_from before.seat.me.0 before.locks before.noted.4 ∙ ready.unlocked));
  unfilled = ap has_fresh holdings ∙ ready.unfilled;
  within_limit = subst (λ (hs : List Holding). length hs ≤ most_refs) (sym holdings) ready.within_limit;
}

-- a hand of the arena that has the locks and the numbers of a ready one, and holds what that one held, is ready still
pub hand_still : (arena : Arena) (before now : Hand) → IsHandOf arena now → now.locks ≡ before.locks → (view now).row.holdings ≡ (view before).row.holdings → (view now).row.ids ≡ (view before).row.ids → IsReady (view before) → StaysReady arena before now
hand_still arena before now is locks holdings ids ready = record { arena = is; ready = ready_still before now locks holdings ready; locks = locks; number = number_stays before now ids }

-- what is held stays, and what is known grows: so each reference stays
pub refs_kept : (view now : View) (more : List KnownItem) → now.row.holdings ≡ view.row.holdings → now.row.knows.known ≡ view.row.knows.known ++ more → KeepsRefs view now
refs_kept view now more same known = record {
  refers = λ chunk room ref. record {
    holding = ref.holding;
    found = ap (holding_of chunk) same ∙ ref.found;
    linked = ref.linked;
    knows = subst (λ (l : List KnownItem). Contains l (known_by room ref.holding)) (sym known) (Contains-append_left view.row.knows.known more (known_by room ref.holding) ref.knows);
  };
  same = λ chunk room ref. ap (holding_of chunk) same;
}

pub refs_stay : (view now : View) → now.row.holdings ≡ view.row.holdings → now.row.knows.known ≡ view.row.knows.known → KeepsRefs view now
refs_stay view now same known = refs_kept view now [] same (known ∙ sym (append-nil view.row.knows.known))

-- of one hold of the lock of the slabs
module _ (view taken last now : View) (found left : SlabState) (waits : WaitsForSlabs view found taken) (given : now ≡ slabs_given left last) where
  -- what was said stays, and so do number and stamps
  pub held_said : last.row.knows.stored ≡ taken.row.knows.stored → now.row.knows.stored ≡ view.row.knows.stored
  held_said same = ap (λ (v : View). v.row.knows.stored) given ∙ (same ∙ wait_keeps (λ (v : View). v.row.knows.stored) (λ word v. refl) (λ slabs v. refl) view found taken waits)

  -- and so do the hand's own calls
  pub held_mine : last.row.knows.mine ≡ taken.row.knows.mine → now.row.knows.mine ≡ view.row.knows.mine
  held_mine same = ap (λ (v : View). v.row.knows.mine) given ∙ (same ∙ wait_keeps (λ (v : View). v.row.knows.mine) (λ word v. refl) (λ slabs v. refl) view found taken waits)

  pub held_ids : last.row.ids ≡ taken.row.ids → now.row.ids ≡ view.row.ids
  held_ids same = ap (λ (v : View). v.row.ids) given ∙ (same ∙ wait_keeps (λ (v : View). v.row.ids) (λ word v. refl) (λ slabs v. refl) view found taken waits)

  -- what is known grows
  pub held_known : (more : List KnownItem) → last.row.knows.known ≡ taken.row.knows.known ++ more → now.row.knows.known ≡ view.row.knows.known ++ more
  held_known more known =
      ap (λ (v : View). v.row.knows.known) given ∙ (known ∙ ap (λ (l : List KnownItem). l ++ more) (wait_keeps (λ (v : View). v.row.knows.known) (λ word v. refl) (λ slabs v. refl) view found taken waits))

  pub held_known_same : last.row.knows.known ≡ taken.row.knows.known → now.row.knows.known ≡ view.row.knows.known
  held_known_same known = ap (λ (v : View). v.row.knows.known) given ∙ (known ∙ wait_keeps (λ (v : View). v.row.knows.known) (λ word v. refl) (λ slabs v. refl) view found taken waits)

  -- the hand's last hold was this one
  pub held_answer : (turn : Turn) → Grows taken last → IsAnswerOf turn found.moving left.moving → AnswersMove now turn
  held_answer turn grows answer =
      let same : now.row.knows.hold.found ≡ found =
      ap (λ (v : View). v.row.knows.hold.found) given ∙ (ap (λ (s : Stays). s.0) grows.stays ∙ ap (λ (v : View). v.row.knows.hold.found) waits.is) in
      let ends : now.row.knows.hold.left ≡ left = ap (λ (v : View). v.row.knows.hold.left) given in
      subst (λ (p : SlabState × SlabState). IsAnswerOf turn p.0.moving p.1.moving) (λ k. (sym same k, sym ends k)) answer

-- what a call that turns leaves
pub record Leaves (view now : View) : Type 0 where
  pub stored : now.row.knows.stored ≡ view.row.knows.stored
  pub ids : now.row.ids ≡ view.row.ids
  pub more : List KnownItem
  pub known : now.row.knows.known ≡ view.row.knows.known ++ more

held_leaves : (view taken last now : View) (found left : SlabState) → WaitsForSlabs view found taken → now ≡ slabs_given left last → Grows taken last → Leaves view now
held_leaves view taken last now found left waits given grows = record {
  stored = held_said view taken last now found left waits given (ap (λ (s : Stays). s.1) grows.stays);
  ids = held_ids view taken last now found left waits given (ap (λ (s : Stays). s.2) grows.stays);
  more = grows.more;
  known = held_known view taken last now found left waits given grows.more grows.known;
}

pub turn_leaves : (number : ℕ) (turn : Turn) (view now : View) → HoldsSlabs (Turns number turn) view now → Leaves view now
turn_leaves number turn view now holds = held_leaves view holds.taken holds.last now holds.found holds.left holds.waits holds.given (turns_grow number turn holds.taken holds.found holds.last holds.left holds.does)

pub lacks_leaves : (number : ℕ) (view now : View) → HoldsSlabs (TurnLacksMemory number) view now → Leaves view now
lacks_leaves number view now holds = held_leaves view holds.taken holds.last now holds.found holds.left holds.waits holds.given (lacks_grow number holds.taken holds.found holds.last holds.left holds.does)

-- by either answer
pub answer_leaves : {E : Type 0} (number : ℕ) (result : Result Turn E) (view now : View) → IfOk result (λ turn. HoldsSlabs (Turns number turn) view now) → OnErr result (HoldsSlabs (TurnLacksMemory number) view now) → Leaves view now
answer_leaves number (Ok turn) view now turns lacks = turn_leaves number turn view now turns
answer_leaves number (Err error) view now turns lacks = lacks_leaves number view now lacks

-- a part that no change of pages and lists reaches
pub reassigns_keep : {X : Type 0} (part : View → X) → ((slabs : SlabState) (one : Change) (word : ℕ) (v : View) → part (slabs_changed slabs one word v) ≡ part v) → (number : ℕ) (src : Option ℕ) (dst : ℕ) (view now : View) (slabs left : SlabState) (result : Result (Unit {0}) Reassign)
    → Reassigns number src dst result view slabs now left → part now ≡ part view
reassigns_keep part keeps number src dst view now slabs left (Ok done) begun = ap part begun.changes.1 ∙ keeps slabs (change.BeginMove src dst) (number + 1) view
reassigns_keep part keeps number src dst view now slabs left (Err refusal) refused = ap part refused.1
