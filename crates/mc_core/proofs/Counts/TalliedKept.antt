-- Counts and holdings: kept by every change and every step, and true at first.
use Rattle.std.proofs.Common.{◌∙◌, ◌≡◌, ℕ, zero, suc, ◌*◌, ◌≤◌, Bool, true, false, cond, List, [], length, replicate, refl, sym, ap, arith, subst, All, slice_index_or}
use Rattle.std.proofs.lemmas.List.Elements.{All-nil, All-replicate}
use Rattle.mc_classes.specs.Classes.{arena_pages_of}
use Rattle.mc_pages.specs.declared.ids.ChunkId.{ChunkId}
use Rattle.mc_pages.specs.SlabState.{SlabState, class_of_page, fresh_slabs}
use Rattle.mc_core.specs.declared.holding.Holding.{Holding}
use Rattle.mc_core.specs.declared.look.Look.{Look}
use Rattle.mc_core.specs.declared.event.Change.{Change}
use Rattle.mc_core.specs.declared.event.Change.TheVariants.{Grow, BeginMove, FinishMove, Touch, SetAutomove, TrimLedger, Passed, Wrap, Evicted, OfStripe, GotNone, DeletedNone}
use Rattle.mc_core.specs.declared.event.Step.{Step}
use Rattle.mc_core.specs.declared.event.Step.TheVariants.{TakeSlabs, TakeStripe, MissSlabs, MissStripe, GiveSlabs, GiveStripe, Pop, PopOff, Fill, Word, WordHeld, Link, Refer, Unlink, Release, Discard, Condemn, PutBack, Clear, Cut, Again, Join}
use Rattle.mc_core.specs.declared.event.Step.TheVariants as step
use Rattle.mc_core.specs.model.Head.{uncut_from}
use Rattle.mc_core.specs.model.State.{State, most_of, head_place, room_in, has_slabs, with_look, new_state}
use Rattle.mc_core.specs.run.Silent.{after_change}
use Rattle.mc_core.specs.run.Run.{after_step}
use Rattle.mc_core.specs.model.Columns.{Each, holder_count, link_count}
use Rattle.mc_core.specs.law.Counts.{AreHeld, IsHoldingSized}
use Rattle.mc_core.specs.past.Past.{Moment}
use Rattle.mc_core.specs.law.Lawful.{IsLawful, CountedIn, HeldIn}
use Rattle.mc_core.specs.law.Laws.{MayChange, MayStep, ChangesKeep, StepsKeep, HoldsAtFirst}
use Rattle.mc_core.proofs.Steps.Base.{IsOut}
use Rattle.mc_core.proofs.Places.SamePages.{stays_changes}
use Rattle.mc_core.proofs.Counts.Turns.{IsSo, each_so, held_from_so, shows_moved}
use Rattle.mc_core.proofs.Counts.Tallied.{IsTallied}
use Rattle.mc_core.proofs.Counts.HandingOut.{pop_tallied, pop_off_tallied}
use Rattle.mc_core.proofs.Counts.Filling.{out_each, fill_tallied}
use Rattle.mc_core.proofs.Counts.Linking.{link_tallied}
use Rattle.mc_core.proofs.Counts.Referring.{refer_tallied, again_tallied}
use Rattle.mc_core.proofs.Counts.Dropping.{drop_tallied, unlink_tallied, condemn_tallied}
use Rattle.mc_core.proofs.Counts.Closing.{put_back_tallied, clear_tallied, cut_tallied}
use Rattle.mc_core.proofs.Steps.Made.{first_heads}
use Rattle.mc_core.specs.model.Holdings.{holding_words}
use Rattle.mc_core.specs.run.Chunks.{most_holdings}

pub counted_changes : ChangesKeep CountedIn
counted_changes m hand (Grow class) may = may.lawful.counted
counted_changes m hand (BeginMove src dst) may = may.lawful.counted
counted_changes m hand FinishMove may = may.lawful.counted
counted_changes m hand (Touch chunk) may = may.lawful.counted
counted_changes m hand (SetAutomove mode) may = may.lawful.counted
counted_changes m hand TrimLedger may = may.lawful.counted
counted_changes m hand (Passed found) may = may.lawful.counted
counted_changes m hand Wrap may = may.lawful.counted
counted_changes m hand (Evicted class) may = may.lawful.counted
counted_changes m hand (OfStripe stripe how) may = may.lawful.counted
counted_changes m hand (GotNone key) may = may.lawful.counted
counted_changes m hand (DeletedNone key) may = may.lawful.counted

-- pages may change hands, while those of held chunks stay of their classes
held_moved : (m : Moment) (l : IsLawful m) (next : SlabState) → ((holding : Holding) → IsOut m l holding → class_of_page next holding.chunk.page ≡ class_of_page m.state.slabs holding.chunk.page) →
    AreHeld m.state.table next m.state.heads m.state.words m.state.holdings
held_moved m l next same =
    let so = each_so m.state.table m.state.slabs m.state.heads m.state.words m.state.holdings l.held in
    held_from_so m.state.table next m.state.heads m.state.words m.state.holdings
    (λ hand row inside place holding on. moved (slice_index_or (slice_index_or m.state.holdings hand row) place holding) (out_each m l hand row inside place holding on) (so hand row inside place holding on)) l.held.most
  where
    moved : (holding : Holding) → IsOut m l holding → IsSo m.state.table m.state.slabs m.state.heads m.state.words m.state.holdings holding → IsSo m.state.table next m.state.heads m.state.words m.state.holdings holding
    moved holding out so = record {
      inside = so.inside;
      issue = so.issue;
      shows = shows_moved m.state.table m.state.slabs next m.state.words holding.chunk (holding_words holding) (same holding out) so.shows;
      sized = subst (λ class. IsHoldingSized (room_in m.state.table class) holding) (sym (same holding out)) so.sized;
      alone = so.alone;
    }

held_slabs : (m : Moment) (hand : ℕ) (change : Change) → MayChange m hand change → AreHeld m.state.table (after_change m.state hand change).slabs m.state.heads m.state.words m.state.holdings
held_slabs m hand change may = held_moved m may.lawful (after_change m.state hand change).slabs (λ holding out. stays_changes m hand change may holding.chunk holding.issue out.0 out.1)

pub held_changes : ChangesKeep HeldIn
held_changes m hand (Grow class) may = held_slabs m hand (Grow class) may
held_changes m hand (BeginMove src dst) may = held_slabs m hand (BeginMove src dst) may
held_changes m hand FinishMove may = held_slabs m hand FinishMove may
held_changes m hand (Touch chunk) may = held_slabs m hand (Touch chunk) may
held_changes m hand (SetAutomove mode) may = held_slabs m hand (SetAutomove mode) may
held_changes m hand TrimLedger may = held_slabs m hand TrimLedger may
held_changes m hand (Passed found) may = held_slabs m hand (Passed found) may
held_changes m hand Wrap may = held_slabs m hand Wrap may
held_changes m hand (Evicted class) may = held_slabs m hand (Evicted class) may
held_changes m hand (OfStripe stripe how) may = may.lawful.held
held_changes m hand (GotNone key) may = may.lawful.held
held_changes m hand (DeletedNone key) may = may.lawful.held

-- a look counts or doesn't
looked_tallied : (state : State) (hand : ℕ) (look : Look) (holds : Bool) → IsTallied state → IsTallied (cond holds (with_look state hand look) state)
looked_tallied state hand look true are = are
looked_tallied state hand look false are = are

-- each step keeps both
pub tallied_steps : (m : Moment) (hand : ℕ) (step : Step) → MayStep m hand step → IsTallied (after_step m.state hand step)
tallied_steps m hand TakeSlabs may = (may.lawful.counted, may.lawful.held)
tallied_steps m hand (TakeStripe stripe) may = (may.lawful.counted, may.lawful.held)
tallied_steps m hand MissSlabs may = (may.lawful.counted, may.lawful.held)
tallied_steps m hand (MissStripe stripe) may = looked_tallied m.state hand _ (has_slabs m.state hand) (may.lawful.counted, may.lawful.held)
tallied_steps m hand GiveSlabs may = (may.lawful.counted, may.lawful.held)
tallied_steps m hand (GiveStripe stripe) may = (may.lawful.counted, may.lawful.held)
tallied_steps m hand (step.Head chunk) may = looked_tallied m.state hand _ (has_slabs m.state hand) (may.lawful.counted, may.lawful.held)
tallied_steps m hand (Pop class) may = pop_tallied m may.lawful hand class may.there may.allowed
tallied_steps m hand (PopOff old) may = pop_off_tallied m may.lawful hand old may.there may.allowed
tallied_steps m hand (Fill chunk place word) may = fill_tallied m may.lawful hand may.there chunk place word may.allowed
tallied_steps m hand (Word chunk place) may = (may.lawful.counted, may.lawful.held)
tallied_steps m hand (WordHeld chunk place) may = (may.lawful.counted, may.lawful.held)
tallied_steps m hand (Link chunk) may = link_tallied m may.lawful hand may.there chunk may.allowed
tallied_steps m hand (Refer key) may = refer_tallied m may.lawful hand may.there key may.allowed
tallied_steps m hand (Unlink key) may = unlink_tallied m may.lawful hand may.there key may.allowed
tallied_steps m hand (Release chunk) may = drop_tallied m may.lawful hand may.there chunk false may.allowed
tallied_steps m hand (Discard chunk) may = drop_tallied m may.lawful hand may.there chunk true may.allowed
tallied_steps m hand (Condemn chunk) may = condemn_tallied m may.lawful hand may.there chunk may.allowed
tallied_steps m hand (PutBack chunk) may = put_back_tallied m may.lawful hand chunk may.allowed
tallied_steps m hand (Clear chunk) may = clear_tallied m may.lawful hand chunk may.allowed
tallied_steps m hand (Cut page index) may = cut_tallied m may.lawful hand (record { page = page; index = index }) may.allowed
tallied_steps m hand (Again chunk issue) may = again_tallied m may.lawful hand may.there chunk issue may.allowed
tallied_steps m hand (Join kept spent) may = (may.lawful.counted, may.lawful.held)

pub counted_steps : StepsKeep CountedIn
counted_steps m hand step may = (tallied_steps m hand step may).0

pub held_steps : StepsKeep HeldIn
held_steps m hand step may = (tallied_steps m hand step may).1

-- at first all headers are alike, and nothing is held
pub all_same : {X : Type 0} (x : X) (n place : ℕ) → slice_index_or (replicate n x) place x ≡ x
all_same x zero place = refl
all_same x (suc n) zero = refl
all_same x (suc n) (suc place) = all_same x n place

none_held : (chunk : ChunkId) (hands : ℕ) → holder_count chunk (replicate hands []) ≡ 0
none_held chunk zero = refl
none_held chunk (suc hands) = let rest = none_held chunk hands in omega arith

none_each : (P : Holding → Type 0) (hands : ℕ) → Each P (replicate hands [])
none_each P hands = All-replicate (All P) hands [] (All-nil P)

pub counted_first : HoldsAtFirst CountedIn
counted_first table stripes hands start sound some_stripe some_hand within_limit small =
    let at = λ (chunk : ChunkId). first_heads (arena_pages_of table * most_of table) (head_place table chunk) start small in
    record {
      counted = λ chunk in_range. let none = none_held chunk hands in (at chunk).none ∙ omega (arith, none, ap link_count (at chunk).out);
      shut = λ chunk in_range shut. (at chunk).none;
      issued = λ chunk in_range. (at chunk).fits;
    }

pub held_first : HoldsAtFirst HeldIn
held_first table stripes hands start sound some_stripe some_hand within_limit _ =
    let heads = replicate (arena_pages_of table * most_of table) (uncut_from start) in
    let words = (new_state table stripes hands start).words in
    held_from_so table (fresh_slabs table) heads words (replicate hands []) (none_each (IsSo table (fresh_slabs table) heads words (replicate hands [])) hands)
    (All-replicate (λ (row : List Holding). length row ≤ most_holdings) hands [] (omega arith))
