-- In an arena of one hand, where the hand did nothing yet: no event came, and so it is the beginning still.
use Rattle.std.proofs.Common.{◌≡◌, ℕ, ◌/◌, ◌||◌, Bool, true, List, [], ◌∷◌, ◌++◌, length, Some, None, refl, sym, ap, ◌∙◌, arith, eq-eqb, lt-ltb, if◌then◌else◌}
use Rattle.std.proofs.lemmas.Bool.{and_parts}
use Rattle.std.proofs.lemmas.List.{length-replicate}
use Rattle.std.proofs.lemmas.List.FromFn.{length-map-range_with_len}
use Rattle.mc_classes.specs.Classes.{Classes, IsSound, arena_pages_of}
use Rattle.mc_pages.specs.Changes.{has_ordinary_page, is_without_page, next_page}
use Rattle.mc_pages.specs.Ledger.{all_untouched}
use Rattle.mc_pages.specs.SlabState.{SlabState, fresh_slabs, untouched_page}
use Rattle.mc_pages.specs.declared.ledger.Owner.TheVariants.{Untouched}
use Rattle.mc_pages.proofs.Fresh.{IsInOrder-fresh}
use Rattle.mc_pages.proofs.Owners.{position-AreGranted}
use Rattle.mc_core.specs.declared.event.Event.{Event}
use Rattle.mc_core.specs.declared.event.Step.TheVariants as step
use Rattle.mc_core.specs.law.Laws.{IsRun, moment_at_end}
use Rattle.mc_core.specs.past.Past.{Knowledge, Moment, SeenWord, moment_stepped, slabs_word}
use Rattle.mc_core.specs.model.State.{has_slabs, is_hand}
use Rattle.mc_core.specs.model.Views.{held_slabs}
use Rattle.mc_core.proofs.Steps.Plays.{hand_there}
use Rattle.mc_words.specs.rule.Happens.{Happens, LawfulView}
use Rattle.mc_words.specs.rule.Meaning.{beginning_of}
use Rattle.mc_words.specs.hand.View.{OwnEvent, View, events_of, own_event}
use Rattle.mc_words.specs.hand.Views.{slabs_missed}
use Rattle.mc_words.proofs.Hands.Knows.{knows_after}
use Rattle.mc_words.proofs.Locks.LockViews.{knew, may_step}
use Rattle.mc_words.proofs.Locks.TakeAndGive.{held_from}

-- a run of one hand, which did nothing
no_run : (m : Moment) (run : List Event) → IsRun m run → length m.state.ids ≡ 1 → events_of 0 run ≡ [] → run ≡ []
no_run m [] is one none = refl
no_run m (event ∷ run) is one none =
    let there = hand_there m.state event.hand (and_parts (is_hand m.state event.hand) _ is.0).0 in
    let first : event.hand ≡ 0 = omega (arith, there, one) in
    let own : OwnEvent = own_event event.before event.step in
    let some : own ∷ events_of 0 run ≡ [] =
    ap (λ (b : Bool). if b then own ∷ events_of 0 run else events_of 0 run) (sym (eq-eqb event.hand 0 first)) ∙ none in
    absurd (cc)

pub begun : (view : View) (was : LawfulView view) → view.setup.hands ≡ 1 → view.events ≡ [] → was.moment ≡ beginning_of view.setup
begun view was one none =
    let begin : Moment = beginning_of view.setup in
    let at_limit : length begin.state.ids ≡ 1 = length-map-range_with_len _ 0 view.setup.hands ∙ one in
    let there = hand_there was.moment.state was.hand was.there in
    let hands = was.hands in
    let mine : was.hand ≡ 0 = omega (arith, there, hands, one) in
    let did : events_of 0 was.run ≡ [] = ap (λ (n : ℕ). events_of n was.run) (sym mine) ∙ (ap (λ (v : View). v.events) (sym was.is) ∙ none) in
    sym was.reached.end ∙ ap (moment_at_end begin) (no_run begin was.run was.reached.is_run at_limit did)

-- pages and lists are untouched
pub taken_fresh : (view now : View) (slabs : SlabState) → view.setup.hands ≡ 1 → view.events ≡ [] → Happens view [] step.TakeSlabs now → now.slabs ≡ Some slabs → slabs ≡ fresh_slabs view.setup.table
taken_fresh view now slabs one none h mine =
    let m : Moment = h.was.moment in
    let after : Moment = moment_stepped m h.was.hand step.TakeSlabs in
    let held : held_slabs after.state h.was.hand ≡ Some slabs = ap (λ (v : View). v.slabs) (sym h.is) ∙ mine in
    sym (held_from (has_slabs after.state h.was.hand) m.state.slabs slabs held).1 ∙ ap (λ (m : Moment). m.state.slabs) (begun view h.was one none)

-- and so a page is left
pub next_fresh : (table : Classes) (class : ℕ) → IsSound table → next_page (fresh_slabs table) class ≡ Some 0
next_fresh table class sound =
    let long : length (all_untouched (arena_pages_of table)) ≡ arena_pages_of table = length-replicate (arena_pages_of table) Untouched in
    let pages = sound.pages.0 in
    let left : has_ordinary_page (fresh_slabs table) ≡ true = lt-ltb 0 (table.limit / table.page) (omega (arith, pages)) in
    ap (λ b. if b || is_without_page (fresh_slabs table) class then untouched_page (fresh_slabs table) else None) left
    ∙ position-AreGranted (all_untouched (arena_pages_of table)) 0 (IsInOrder-fresh table sound).lowest (omega (arith, long, pages))

same_word : (xs : List SeenWord) (a b : ℕ) → xs ++ slabs_word a ∷ [] ≡ xs ++ slabs_word b ∷ [] → a ≡ b
same_word [] a b e = cc
same_word (x ∷ xs) a b e = let rest : xs ++ slabs_word a ∷ [] ≡ xs ++ slabs_word b ∷ [] = cc in same_word xs a b rest

-- the lock of the slabs is free
pub lock_free : (view now : View) (word : ℕ) → view.setup.hands ≡ 1 → view.events ≡ [] → Happens view [] step.MissSlabs now → now ≡ slabs_missed word view → word ≡ 0
lock_free view now word one none h is =
    let m : Moment = h.was.moment in
    let knows = knows_after m h.was.hand step.MissSlabs refl (may_step h) refl in
    let saws : view.row.knows.seen_words ++ slabs_word m.state.slabs_lock ∷ [] ≡ view.row.knows.seen_words ++ slabs_word word ∷ [] =
    sym (ap (λ (k : Knowledge). k.seen_words) knows ∙ ap (λ (k : Knowledge). k.seen_words ++ slabs_word m.state.slabs_lock ∷ []) (knew view view h.was))
    ∙ (ap (λ (v : View). v.row.knows.seen_words) (sym h.is) ∙ ap (λ (v : View). v.row.knows.seen_words) is) in
    sym (same_word view.row.knows.seen_words m.state.slabs_lock word saws) ∙ ap (λ (m : Moment). m.state.slabs_lock) (begun view h.was one none)
