-- Nobody holds what a turn clears, as headers count their holders.
use Rattle.std.proofs.Common.{◌≡◌, ℕ, ◌==◌, ◌&&◌, ◌||◌, ◌⊎◌, Bool, true, false, not, [], refl, sym, ap, subst, ◌∙◌, inl, inr, arith, eqb-true}
use Rattle.std.proofs.lemmas.Bool.{and_parts, cases_Bool}
use Rattle.mc_pages.specs.Accounted.{truth}
use Rattle.mc_pages.specs.Pages.{is_on_the_move}
use Rattle.mc_pages.specs.declared.ids.ChunkId.{ChunkId}
use Rattle.mc_pages.specs.declared.moves.Found.{Found}
use Rattle.mc_pages.specs.declared.moves.Found.TheVariants.{Cleared, Rescued, Evicted, Busy, Locked, Already}
use Rattle.mc_pages.specs.SlabState.{SlabState, class_of_page}
use Rattle.mc_core.specs.declared.event.Step.TheVariants as step
use Rattle.mc_core.specs.declared.head.Tag.{Tag}
use Rattle.mc_core.specs.declared.head.Tag.TheVariants.{Free, Linked, Out, Unlinked}
use Rattle.mc_core.specs.declared.head.Head.{Head}
use Rattle.mc_core.specs.model.Columns.{holder_count}
use Rattle.mc_core.specs.law.Counts.{AreCounted}
use Rattle.mc_core.specs.run.Evictions.{can_lose_entry, has_copy, has_reason, is_linked_unheld, key_at}
use Rattle.mc_core.specs.run.Silent.{is_listed}
use Rattle.mc_core.specs.model.Head.{is_dead, is_free, is_linked, is_out, is_unlinked}
use Rattle.mc_core.specs.model.State.{State, has_chunk, has_slabs, has_stripe, head_at, holdings_at, looks_at, stripe_at, stripe_of}
use Rattle.mc_words.specs.hand.View.{View}
use Rattle.mc_words.specs.rule.Happens.{Happens}
use Rattle.mc_words.proofs.Locks.LockViews.{may_step}
use Rattle.mc_mover.specs.declared.sweep.Sweep.{Sweep}
use Rattle.mc_mover.specs.Unheld.{BusyIsUncleared, ClearsUnheld, IsUnheldAt, NobodyHolds, SeesUncleared}
use Rattle.mc_mover.specs.Visiting.{Visits}

-- what is tested before a chunk is cleared, and before its item is taken away
clear_parts : (a b c d e : Bool) → (a && b && c && d && e) ≡ true → (b ≡ true) × (d ≡ true)
clear_parts a b c d e all =
    let first = and_parts (a && b && c) d (and_parts (a && b && c && d) e all).0 in
    ((and_parts a b (and_parts (a && b) c first.0).0).1, first.1)

condemn_parts : (a b c d e f : Bool) → (a && b && c && d && e && f) ≡ true → (b ≡ true) × (c ≡ true)
condemn_parts a b c d e f all =
    let first = and_parts (a && b) c (and_parts (a && b && c) d (and_parts (a && b && c && d) e (and_parts (a && b && c && d && e) f all).0).0).0 in
    ((and_parts a b first.0).1, first.1)

-- a chunk that is cleared
clear_unheld : (chunk : ChunkId) (view now : View) → (h : Happens view [] (step.Clear chunk) now) → IsUnheldAt chunk view (step.Clear chunk) now h
clear_unheld chunk view now h = by h.was.moment.state h.was.lawful.counted (head_at h.was.moment.state chunk) refl parts.0 (cases_Bool (is_free (head_at h.was.moment.state chunk).tag)) parts.1
  where
    parts : (has_chunk h.was.moment.state.table chunk ≡ true) × ((is_free (head_at h.was.moment.state chunk).tag || is_dead (head_at h.was.moment.state chunk)) ≡ true)
    parts =
        let state = h.was.moment.state in
        clear_parts (has_slabs state h.was.hand) (has_chunk state.table chunk) (is_on_the_move state.slabs chunk.page) (is_free (head_at state chunk).tag || is_dead (head_at state chunk))
        (is_listed state.slabs (class_of_page state.slabs chunk.page) chunk) (may_step h).allowed

    by : (state : State) → AreCounted state.table state.heads state.holdings → (head : Head) → head_at state chunk ≡ head → has_chunk state.table chunk ≡ true → (is_free head.tag ≡ true) ⊎ (is_free head.tag ≡ false) → (is_free head.tag || is_dead head) ≡ true → holder_count chunk state.holdings ≡ 0
    by state counted head is in_range (inl free) either =
        let sum = counted.counted chunk in_range in
        let none = counted.shut chunk in_range (inl (ap (λ (h : Head). is_free h.tag) is ∙ free)) in
        omega arith
    by state counted head is in_range (inr used) either =
        let sum = counted.counted chunk in_range in
        let dead : is_dead head ≡ true = sym (ap (λ (b : Bool). b || is_dead head) used) ∙ either in
        let zero : head.count ≡ 0 = eqb-true head.count 0 (and_parts (is_unlinked head.tag) (head.count == 0) dead).1 in
        let same : (head_at state chunk).count ≡ head.count = ap (λ (h : Head). h.count) is in
        omega arith

-- a chunk whose item is taken away
condemn_unheld : (chunk : ChunkId) (view now : View) → (h : Happens view [] (step.Condemn chunk) now) → IsUnheldAt chunk view (step.Condemn chunk) now h
condemn_unheld chunk view now h = by h.was.moment.state h.was.lawful.counted parts.0 parts.1
  where
    parts : (has_chunk h.was.moment.state.table chunk ≡ true) × (is_linked_unheld (head_at h.was.moment.state chunk) ≡ true)
    parts =
        let state = h.was.moment.state in
        let key = key_at state chunk in
        let copies = has_copy (holdings_at state h.was.hand) chunk in
        condemn_parts (has_slabs state h.was.hand) (has_chunk state.table chunk) (is_linked_unheld (head_at state chunk)) (has_stripe state h.was.hand (stripe_of state key)) (can_lose_entry (stripe_at state (stripe_of state key)) key copies)
        (has_reason state.table state.heads state.slabs (looks_at state h.was.hand) (holdings_at state h.was.hand) chunk) (may_step h).allowed

    by : (state : State) → AreCounted state.table state.heads state.holdings → has_chunk state.table chunk ≡ true → is_linked_unheld (head_at state chunk) ≡ true → holder_count chunk state.holdings ≡ 0
    by state counted in_range alone =
        let both = and_parts (is_linked (head_at state chunk).tag) ((head_at state chunk).count == 1) alone in
        let sum = counted.counted chunk in_range in
        let link : truth (is_linked (head_at state chunk).tag) ≡ 1 = ap truth both.0 in
        let one : (head_at state chunk).count ≡ 1 = eqb-true (head_at state chunk).count 1 both.1 in
        omega arith

visits_unheld : (number class : ℕ) (chunk : ChunkId) (sweep : Sweep) (found : Found) (next : Sweep) (view : View) (slabs : SlabState) (now : View) (left : SlabState) → (visits : Visits number class chunk sweep found next view slabs now left)
    → NobodyHolds number class chunk sweep found next view slabs now left visits
visits_unheld number class chunk sweep Cleared next view slabs now left visits = clear_unheld chunk _ _ visits.0.clears.happens
visits_unheld number class chunk sweep Rescued next view slabs now left visits =
    (condemn_unheld chunk _ _ visits.does.1.reaches.does.does.does.moves.condemns.happens, clear_unheld chunk _ _ visits.does.1.clears.happens)
visits_unheld number class chunk sweep Evicted next view slabs now left visits =
    (condemn_unheld chunk _ _ visits.does.1.reaches.does.does.does.condemns.happens, clear_unheld chunk _ _ visits.does.1.clears.happens)
visits_unheld number class chunk sweep Busy next view slabs now left visits = tt
visits_unheld number class chunk sweep Locked next view slabs now left visits = tt
visits_unheld number class chunk sweep Already next view slabs now left visits = tt

pub clears_unheld : ClearsUnheld
clears_unheld number sweep found next view slabs now left section = visits_unheld number section.move.src _ sweep found next view slabs section.visited section.kept section.visits

-- a chunk that counts as busy
linked_in : (tag : Tag) → is_linked tag ≡ true → is_out tag ≡ false
linked_in Linked is = refl
linked_in Out is = absurd (cc)
linked_in Free is = refl
linked_in Unlinked is = refl

not_true : (b : Bool) → not b ≡ true → b ≡ false
not_true false is = refl
not_true true is = absurd (cc)

busy_sees : (number class : ℕ) (chunk : ChunkId) (sweep next : Sweep) (view : View) (slabs : SlabState) (now : View) (left : SlabState) → Visits number class chunk sweep Busy next view slabs now left → SeesUncleared chunk view
busy_sees number class chunk sweep next view slabs now left (inl (finds, same, then)) =
    let sees = finds.sees in
    (sees.head, subst (λ (v : View). Happens view [] (step.Head chunk) v) sees.is sees.looks, not_true (is_out sees.head.tag) (and_parts _ _ sees.so).1)
busy_sees number class chunk sweep next view slabs now left (inr sees) = (sees.head, sees.looks, linked_in sees.head.tag sees.linked)

pub busy_uncleared : BusyIsUncleared
busy_uncleared number sweep next view slabs now left section = busy_sees number section.move.src _ sweep next view slabs section.visited section.kept section.visits
