-- Chunks keep their places under each step.
use Rattle.std.proofs.Common.{◌≡◌, ℕ, zero, suc, ◌-◌, ◌/◌, map, replicate, ◌*◌, ◌≤◌, ◌==◌, ◌&&◌, ◌||◌, Bool, true, false, List, [], ◌∷◌, ◌++◌, slice_set, get_or, Option, Some, None, refl, sym, ap, subst, ◌∙◌, inl, inr, arith, eqb-true}
use Rattle.std.specs.Option.{option_map_or}
use Rattle.std.proofs.lemmas.Bool.{and_parts, and_left, cases_Bool, or_left, or_right, false≢true, both_ways}
use Rattle.mc_classes.specs.Classes.{Classes, arena_pages_of}
use Rattle.mc_pages.specs.declared.ids.ChunkId.{ChunkId}
use Rattle.mc_pages.specs.declared.ids.Moving.{Moving}
use Rattle.mc_pages.specs.declared.ledger.Owner.TheVariants.{Untouched}
use Rattle.mc_pages.specs.Ledger.{owner_at}
use Rattle.mc_pages.specs.ClassState.{ClassState, new_class, times_in, first_free, class_after_hand_out as class_handed_out, class_after_pop as class_popped, put_back, class_after_replacement, class_after_clear, with_cut}
use Rattle.mc_pages.specs.SlabState.{SlabState, HasClass, class_at, class_of_page, fresh_slabs}
use Rattle.mc_pages.specs.Changes as slabs_changes
use Rattle.mc_pages.specs.Accounted.{truth, is_of_class, is_moving, is_cut, places_in, IsAccounted}
use Rattle.mc_pages.proofs.HandedOut.{IsClass-handed_out, IsClass-placed}
use Rattle.mc_pages.specs.Pages.{is_on_the_move}
use Rattle.mc_core.specs.declared.head.Head.{Head}
use Rattle.mc_core.specs.declared.head.Tag.{Tag}
use Rattle.mc_core.specs.declared.head.Tag.TheVariants.{Out, Free, Unlinked, Linked}
use Rattle.mc_core.specs.model.Head.{never_cut, is_free, is_out, is_unlinked, is_linked, is_dead}
use Rattle.mc_core.specs.model.State.{State, is_class, has_chunk, head_place, most_of, head_at, has_slabs, with_slabs, item_at, holdings_at, without_holding}
use Rattle.mc_core.specs.run.Silent.{is_handed_out, is_listed}
use Rattle.mc_core.specs.run.Chunks.{has_place, can_hand_out, next_free, is_target, target_of, is_next_uncut, head_after_hand_out, head_after_release, with_tag_free, with_tag_out, state_after_pop_of, popped_off, can_put_back, after_put_back, can_clear, state_after_clear, can_cut, state_after_cut}
use Rattle.mc_core.specs.declared.event.Step.{Step}
use Rattle.mc_core.specs.declared.event.Step.TheVariants.{TakeSlabs, TakeStripe, MissSlabs, MissStripe, GiveSlabs, GiveStripe, Pop, PopOff, Fill, Word, WordHeld, Link, Refer, Unlink, Release, Discard, Condemn, PutBack, Clear, Cut, Again, Join}
use Rattle.mc_core.specs.declared.event.Step.TheVariants as step
use Rattle.mc_core.specs.declared.holding.Holding.{Holding}
use Rattle.mc_core.specs.model.Holdings.{is_of_chunk, holding_of, is_complete, holding_words}
use Rattle.mc_core.specs.run.Items.{head_after_link, with_recorded_link, can_record_link, can_count, can_link_holding, after_link_of, with_got, head_after_refer, referred_to, chunk_of_key, head_after_unlink, with_unlinked, is_linked_at, can_look_up, can_lift}
use Rattle.mc_core.specs.run.Evictions.{is_linked_unheld, head_after_condemn, with_eviction_call, with_bound, key_at}
use Rattle.mc_core.specs.run.Run.{after_step}
use Rattle.mc_core.specs.model.Columns.{head_in}
use Rattle.mc_core.specs.law.Places.{ArePlaced}
use Rattle.mc_core.specs.past.Past.{Moment}
use Rattle.mc_core.specs.law.Lawful.{IsLawful, PlacedIn}
use Rattle.mc_core.specs.law.Laws.{StepsKeep, HoldsAtFirst}
use Rattle.mc_core.proofs.Steps.Listed.{Contains_from_among, IsClass_from, times_from_among, next_uncut_is, places_from_listed}
use Rattle.mc_core.proofs.Places.FreeChunks.{near_placed, placed_in, first_placed, found_placed}
use Rattle.mc_core.proofs.Places.SamePages.{is_in_hand}
use Rattle.mc_core.proofs.Steps.StepTests.{pop_tests, pop_off_tests, put_back_tests, clear_tests, cut_tests, condemn_tests}
use Rattle.mc_core.proofs.Frame.SameSlabs.{looked_keeps, told_link_keeps, linked_keeps, referred_keeps, unlinked_keeps}
use Rattle.mc_core.proofs.Places.PlacedAlike.{AreAlike, kind_of, same_at, placed_alike}
use Rattle.mc_core.proofs.Places.PlacedWritten.{Changes, placed_written}
use Rattle.mc_core.proofs.Places.PlacedLists.{first_is, pop_lists, replace_lists, back_lists, clear_lists, cut_lists}
use Rattle.mc_core.proofs.Steps.Made.{first_heads}

-- what is dead is handed out
dead_in_hand : (head : Head) → is_dead head ≡ true → is_in_hand head.tag ≡ true
dead_in_hand head h = unlinked_in_hand head.tag (and_parts (is_unlinked head.tag) (head.count == 0) h).0
  where
    unlinked_in_hand : (tag : Tag) → is_unlinked tag ≡ true → is_in_hand tag ≡ true
    unlinked_in_hand Out h = absurd (cc)
    unlinked_in_hand Free h = absurd (cc)
    unlinked_in_hand Unlinked h = refl
    unlinked_in_hand Linked h = absurd (cc)

-- the page of the move that runs
page_moves : (slabs : SlabState) (moving : Option Moving) (page : ℕ) → IsAccounted slabs → slabs.moving ≡ moving → option_map_or (λ (move : Moving). move.page == page) moving false ≡ true → is_moving (owner_at slabs.owners page) ≡ true
page_moves slabs None page all is h = absurd (cc)
page_moves slabs (Some move) page all is h = ap (λ p. is_moving (owner_at slabs.owners p)) (sym (eqb-true move.page page h)) ∙ ap is_moving (all.move move is).owner

-- the next chunk is handed out of these
popped_as : (class : ClassState) (chunk : ChunkId) (rest : List ChunkId) → class.free ≡ chunk ∷ rest → class_popped class ≡ record class { free = rest; order = class.order ++ chunk ∷ [] }
popped_as class chunk rest split = ap (class_handed_out class) split

module _ (m : Moment) (l : IsLawful m) where
  abbrev table : Classes
  table = m.state.table

  abbrev slabs : SlabState
  slabs = m.state.slabs

  abbrev heads : List Head
  heads = m.state.heads

  in_range : (c : ℕ) (other : ChunkId) → HasClass slabs c → is_cut slabs c other ≡ true → has_chunk table other ≡ true
  in_range c other is cut = near_placed m l other (placed_in m l c other is cut).1

  -- a header is written, and its chunk changes its list
  written : (class : ℕ) (state : ClassState) (uncut : Option ChunkId) (chunk : ChunkId) (head : Head) → Changes table slabs class state uncut chunk head.tag →
      ArePlaced table (record (slabs_changes.with_class slabs class state) { uncut = uncut }) (slice_set heads (head_place table chunk) head)
  written class state uncut chunk head change = placed_written table slabs heads class state uncut chunk head l.paged.order.1.accounted l.placed l.sized.headers in_range change

  popped_placed : (class : ℕ) (chunk : ChunkId) (head : Head) → head.tag ≡ Unlinked → HasClass slabs class → first_free (class_at slabs class) ≡ Some chunk →
      ArePlaced table (slabs_changes.after_pop slabs class) (slice_set heads (head_place table chunk) head)
  popped_placed class chunk head tag is first =
      let at = first_placed m l class chunk is first in
      let cut : is_cut slabs class chunk ≡ true = subst (λ n. is_cut slabs n chunk ≡ true) at.0 at.1.cut in
      let split = first_is (class_at slabs class).free chunk first in
      let lists = pop_lists table slabs heads l.placed class chunk is (in_range class chunk is cut) cut split.0 split.1 at.2 in
      let state : ClassState = record (class_at slabs class) { free = split.0; order = (class_at slabs class).order ++ chunk ∷ [] } in
      subst (λ s. ArePlaced table (slabs_changes.with_class slabs class s) (slice_set heads (head_place table chunk) head)) (sym (popped_as (class_at slabs class) chunk split.0 split.1))
      (written class state slabs.uncut chunk head (subst (λ t. Changes table slabs class state slabs.uncut chunk t) (sym tag) lists))

  replaced_placed : (old chunk : ChunkId) (head : Head) → head.tag ≡ Unlinked → is_handed_out slabs old ≡ true → target_of m.state.table m.state.heads m.state.slabs old.page ≡ Some chunk →
      ArePlaced table (slabs_changes.after_replace slabs chunk old) (slice_set heads (head_place table chunk) head)
  replaced_placed old chunk head tag out found =
      let class = class_of_page slabs old.page in
      let state = class_at slabs class in
      let is = IsClass-handed_out slabs old l.paged.order.1.accounted (Contains_from_among state.order old out) in
      let at = found_placed m l class chunk (is_target m.state.table m.state.heads old.page) is found in
      let cut : is_cut slabs class chunk ≡ true = subst (λ n. is_cut slabs n chunk ≡ true) at.0 at.1.cut in
      let lists = replace_lists table slabs heads l.placed class chunk is (in_range class chunk is cut) cut old (times_from_among state.order old out) at.2 in
      written class (class_after_replacement state chunk old) slabs.uncut chunk head (subst (λ t. Changes table slabs class (class_after_replacement state chunk old) slabs.uncut chunk t) (sym tag) lists)

  -- a chunk that is in a list was cut
  cut_from_places : (class : ℕ) (chunk : ChunkId) → HasClass slabs class → 1 ≤ places_in slabs class chunk → is_cut slabs class chunk ≡ true
  cut_from_places class chunk is some = elim (cases_Bool (is_cut slabs class chunk)) [
    | inl cut ↦ cut
    | inr uncut ↦ absurd (omega (arith, l.placed.free class chunk is ∙ ap truth (and_left _ _ uncut), l.placed.order class chunk is ∙ ap truth (and_left _ _ uncut), some))
  ]

  back_placed : (chunk : ChunkId) (head : Head) → head.tag ≡ Free → has_chunk table chunk ≡ true → is_dead (head_in table heads chunk) ≡ true → is_handed_out slabs chunk ≡ true →
      ArePlaced table (slabs_changes.after_back slabs chunk) (slice_set heads (head_place table chunk) head)
  back_placed chunk head tag here dead out =
      let class = class_of_page slabs chunk.page in
      let state = class_at slabs class in
      let is = IsClass-handed_out slabs chunk l.paged.order.1.accounted (Contains_from_among state.order chunk out) in
      let some : 1 ≤ times_in chunk state.order = times_from_among state.order chunk out in
      let cut = cut_from_places class chunk is (omega arith) in
      let lists = back_lists table slabs heads l.placed class chunk is here cut (dead_in_hand (head_in table heads chunk) dead) in
      written class (put_back state chunk) slabs.uncut chunk head (subst (λ t. Changes table slabs class (put_back state chunk) slabs.uncut chunk t) (sym tag) lists)

  clear_placed : (chunk : ChunkId) (head : Head) → head.tag ≡ Out → has_chunk table chunk ≡ true → is_on_the_move slabs chunk.page ≡ true → is_listed slabs (class_of_page slabs chunk.page) chunk ≡ true →
      ArePlaced table (slabs_changes.after_clear slabs chunk) (slice_set heads (head_place table chunk) head)
  clear_placed chunk head tag here moves listed =
      let class = class_of_page slabs chunk.page in
      let state = class_at slabs class in
      let all = l.paged.order.1.accounted in
      let some = places_from_listed slabs class chunk listed in
      let is = IsClass-placed slabs chunk all some in
      let lists = clear_lists table slabs heads l.placed class chunk is here (cut_from_places class chunk is some) (page_moves slabs slabs.moving chunk.page all refl moves) in
      written class (class_after_clear state chunk) slabs.uncut chunk head (subst (λ t. Changes table slabs class (class_after_clear state chunk) slabs.uncut chunk t) (sym tag) lists)

  cut_placed : (chunk : ChunkId) (head : Head) → head.tag ≡ Free → has_chunk table chunk ≡ true → is_next_uncut slabs chunk ≡ true →
      ArePlaced table (slabs_changes.after_cut slabs chunk) (slice_set heads (head_place table chunk) head)
  cut_placed chunk head tag here next =
      let class = class_of_page slabs chunk.page in
      let state = class_at slabs class in
      let is = next_uncut_is slabs.uncut chunk next in
      let lists = cut_lists table slabs heads l.placed chunk here is (l.paged.order.1.uncut chunk is) in
      let after = slabs_changes.next_uncut state.per_page chunk in
      written class (with_cut state chunk) after chunk head (subst (λ t. Changes table slabs class (with_cut state chunk) after chunk t) (sym tag) lists)

-- the two columns that say where chunks are
abbrev frame : State → Classes × SlabState
frame state = (state.table, state.slabs)

abbrev Placed : Classes × SlabState → List Head → Type 0
Placed part heads = ArePlaced part.0 part.1 heads

same_alike : (before now : List Head) → now ≡ before → AreAlike before now
same_alike before now same place = ap (λ hs. kind_of (get_or hs place never_cut)) same

-- a header is written that is free or out as before
set_alike : (before : List Head) (i : ℕ) (head : Head) → kind_of head ≡ kind_of (get_or before i never_cut) → AreAlike before (slice_set before i head)
set_alike before i head same = same_at kind_of before i head never_cut same

-- where table and headers before the write were those of the state
abbrev headers_part : State → Classes × List Head
headers_part state = (state.table, state.heads)

written_alike : (state before : State) (chunk : ChunkId) (head : Head) → headers_part before ≡ headers_part state → kind_of head ≡ kind_of (head_at state chunk) → AreAlike state.heads (slice_set before.heads (head_place before.table chunk) head)
written_alike state before chunk head same kind =
    subst (λ (p : Classes × List Head). AreAlike state.heads (slice_set p.1 (head_place p.0 chunk) head)) (sym same) (set_alike state.heads (head_place state.table chunk) head kind)

handed_out_kind : (head : Head) → is_unlinked head.tag || is_linked head.tag ≡ true → kind_of head ≡ (false, false)
handed_out_kind head h = kind head.tag h
  where
    kind : (tag : Tag) → is_unlinked tag || is_linked tag ≡ true → ◌≡◌ {A = Bool × Bool} (is_free tag, is_out tag) (false, false)
    kind Out h = absurd (cc)
    kind Free h = absurd (cc)
    kind Unlinked h = refl
    kind Linked h = refl

link_alike : (state : State) (hand : ℕ) (chunk : ChunkId) (found : Option Holding) → can_link_holding state hand chunk found ≡ true → AreAlike state.heads (after_link_of (without_holding state hand (is_of_chunk chunk)) hand chunk found).heads
link_alike state hand chunk None can = same_alike state.heads state.heads refl
link_alike state hand chunk (Some holding) can =
    let left : State = without_holding state hand (is_of_chunk chunk) in
    let told = told_link_keeps headers_part left hand holding holding.kind refl refl in
    let first = and_parts (is_complete (holding_words holding) && can_record_link state hand holding && is_unlinked (head_at state chunk).tag) (can_count (head_at state chunk)) can in
    let second = and_parts (is_complete (holding_words holding) && can_record_link state hand holding) (is_unlinked (head_at state chunk).tag) first.0 in
    written_alike state (with_recorded_link left hand holding) chunk (head_after_link (head_at state chunk)) told (sym (handed_out_kind (head_at state chunk) (or_left _ _ second.1)))

refer_alike : (state : State) (hand key : ℕ) (place : Option (ChunkId × ℕ)) → AreAlike state.heads (referred_to (with_got state hand key) hand place).heads
refer_alike state hand key None = same_alike state.heads state.heads refl
refer_alike state hand key (Some place) = written_alike state (with_got state hand key) place.0 (head_after_refer (head_at state place.0)) refl refl

unlink_alike : (state before : State) (place : Option (ChunkId × ℕ)) → headers_part before ≡ headers_part state → is_linked_at state place ≡ true → AreAlike state.heads (with_unlinked before place).heads
unlink_alike state before None same can = absurd (cc)
unlink_alike state before (Some place) same can =
    let head : head_at before place.0 ≡ head_at state place.0 = ap (λ (p : Classes × List Head). get_or p.1 (head_place p.0 place.0) never_cut) same in
    subst (λ h. AreAlike state.heads (slice_set before.heads (head_place before.table place.0) (head_after_unlink h))) (sym head)
    (written_alike state before place.0 (head_after_unlink (head_at state place.0)) same (sym (handed_out_kind (head_at state place.0) (or_right _ _ can))))

condemn_alike : (state before : State) (chunk : ChunkId) → headers_part before ≡ headers_part state → is_linked_unheld (head_at state chunk) ≡ true → AreAlike state.heads (slice_set before.heads (head_place before.table chunk) (head_after_condemn (head_at state chunk)))
condemn_alike state before chunk same idle =
    written_alike state before chunk (head_after_condemn (head_at state chunk)) same
    (sym (handed_out_kind (head_at state chunk) (or_right _ _ (and_parts (is_linked (head_at state chunk).tag) ((head_at state chunk).count == 1) idle).0)))

-- a step that leaves pages and lists, and what is free or out
passes : (state : State) (hand : ℕ) (step : Step) → ArePlaced state.table state.slabs state.heads → frame (after_step state hand step) ≡ frame state → AreAlike state.heads (after_step state hand step).heads →
    Placed (frame (after_step state hand step)) (after_step state hand step).heads
passes state hand step was same alike =
    subst (λ part. Placed part (after_step state hand step).heads) (sym same) (placed_alike state.table state.slabs state.heads (after_step state hand step).heads alike was)

module _ (m : Moment) (l : IsLawful m) (hand : ℕ) where
  abbrev state : State
  state = m.state

  pop_placed : (class : ℕ) (next : Option ChunkId) → next_free state class ≡ next → (has_slabs state hand && is_class state.table class && has_place state hand && can_hand_out state next) ≡ true →
      Placed (frame (state_after_pop_of (with_slabs state (slabs_changes.after_pop state.slabs class)) hand next)) (state_after_pop_of (with_slabs state (slabs_changes.after_pop state.slabs class)) hand next).heads
  pop_placed class None is can = absurd (false≢true (pop_tests state hand class None can).2)
  pop_placed class (Some chunk) is can =
      popped_placed m l class chunk (head_after_hand_out (head_at state chunk)) refl (IsClass_from state.table state.slabs class l.paged.of_table (pop_tests state hand class (Some chunk) can).1) is

  pop_off_placed : (old : ChunkId) (next : Option ChunkId) → target_of state.table state.heads state.slabs old.page ≡ next →
      (has_slabs state hand && is_on_the_move state.slabs old.page && is_handed_out state.slabs old && has_place state hand && can_hand_out state next) ≡ true → Placed (frame (popped_off state hand old next)) (popped_off state hand old next).heads
  pop_off_placed old None is can = l.placed
  pop_off_placed old (Some chunk) is can = replaced_placed m l old chunk (head_after_hand_out (head_at state chunk)) refl (pop_off_tests state hand old (Some chunk) can).2 is

  put_back_placed : (chunk : ChunkId) → can_put_back state hand chunk ≡ true → Placed (frame (after_put_back state hand chunk)) (after_put_back state hand chunk).heads
  put_back_placed chunk can = let tests = put_back_tests state hand chunk can in back_placed m l chunk (with_tag_free (head_at state chunk)) refl tests.1 tests.2 tests.3

  clear_step_placed : (chunk : ChunkId) → can_clear state hand chunk ≡ true → Placed (frame (state_after_clear state hand chunk)) (state_after_clear state hand chunk).heads
  clear_step_placed chunk can = let tests = clear_tests state hand chunk can in clear_placed m l chunk (with_tag_out (head_at state chunk)) refl tests.1 tests.2 tests.3

  cut_step_placed : (chunk : ChunkId) → can_cut state hand chunk ≡ true → Placed (frame (state_after_cut state hand chunk)) (state_after_cut state hand chunk).heads
  cut_step_placed chunk can = let tests = cut_tests state hand chunk can in cut_placed m l chunk (with_tag_free (head_at state chunk)) refl tests.1 tests.2

  fill_frame : (chunk : ChunkId) (place word : ℕ) → (frame (after_step state hand (Fill chunk place word)) ≡ frame state) × ((after_step state hand (Fill chunk place word)).heads ≡ state.heads)
  fill_frame chunk place word = (refl, refl)

pub placed_steps : StepsKeep PlacedIn
placed_steps moment hand TakeSlabs may = may.lawful.placed
placed_steps moment hand (TakeStripe stripe) may = may.lawful.placed
placed_steps moment hand MissSlabs may = may.lawful.placed
placed_steps moment hand (MissStripe stripe) may =
    let state = moment.state in
    passes state hand (MissStripe stripe) may.lawful.placed (looked_keeps frame state hand _ refl) (same_alike state.heads _ (looked_keeps (λ s. s.heads) state hand _ refl))
placed_steps moment hand GiveSlabs may = may.lawful.placed
placed_steps moment hand (GiveStripe stripe) may = may.lawful.placed
placed_steps moment hand (step.Head chunk) may =
    let state = moment.state in
    passes state hand (step.Head chunk) may.lawful.placed (looked_keeps frame state hand _ refl) (same_alike state.heads _ (looked_keeps (λ s. s.heads) state hand _ refl))
placed_steps moment hand (Pop class) may = pop_placed moment may.lawful hand class (next_free moment.state class) refl may.allowed
placed_steps moment hand (PopOff old) may = pop_off_placed moment may.lawful hand old (target_of moment.state.table moment.state.heads moment.state.slabs old.page) refl may.allowed
placed_steps moment hand (Fill chunk place word) may =
    let state = moment.state in
    let same = fill_frame moment may.lawful hand chunk place word in
    passes state hand (Fill chunk place word) may.lawful.placed same.0 (same_alike state.heads _ same.1)
placed_steps moment hand (Word chunk place) may = may.lawful.placed
placed_steps moment hand (WordHeld chunk place) may = may.lawful.placed
placed_steps moment hand (Link chunk) may =
    let state = moment.state in
    let left : State = without_holding state hand (is_of_chunk chunk) in
    let found = holding_of chunk (holdings_at state hand) in
    passes state hand (Link chunk) may.lawful.placed (linked_keeps frame left hand chunk found (λ holding. told_link_keeps frame left hand holding holding.kind refl refl)) (link_alike state hand chunk found may.allowed)
placed_steps moment hand (Refer key) may =
    let state = moment.state in
    passes state hand (Refer key) may.lawful.placed (referred_keeps frame (with_got state hand key) hand (chunk_of_key state key) (λ chunk. refl)) (refer_alike state hand key (chunk_of_key state key))
placed_steps moment hand (Unlink key) may =
    let state = moment.state in
    let parts = and_parts (can_look_up state hand key && can_lift state hand key) (is_linked_at state (chunk_of_key state key)) may.allowed in
    passes state hand (Unlink key) may.lawful.placed (unlinked_keeps frame _ (chunk_of_key state key) (λ chunk. refl)) (unlink_alike state _ (chunk_of_key state key) refl parts.1)
placed_steps moment hand (Release chunk) may = let state = moment.state in passes state hand (Release chunk) may.lawful.placed refl (written_alike state state chunk (head_after_release (head_at state chunk)) refl refl)
placed_steps moment hand (Discard chunk) may = let state = moment.state in passes state hand (Discard chunk) may.lawful.placed refl (written_alike state state chunk (head_after_release (head_at state chunk)) refl refl)
placed_steps moment hand (Condemn chunk) may =
    let state = moment.state in
    let told : State = with_eviction_call state hand chunk (key_at state chunk) in
    let before : State = with_bound told hand chunk (item_at state chunk) in
    passes state hand (Condemn chunk) may.lawful.placed refl
    (condemn_alike state before chunk refl (condemn_tests state hand chunk may.allowed).2)
placed_steps moment hand (PutBack chunk) may = put_back_placed moment may.lawful hand chunk may.allowed
placed_steps moment hand (Clear chunk) may = clear_step_placed moment may.lawful hand chunk may.allowed
placed_steps moment hand (Cut page index) may = cut_step_placed moment may.lawful hand (record { page = page; index = index }) may.allowed
placed_steps moment hand (Again chunk issue) may = let state = moment.state in passes state hand (Again chunk issue) may.lawful.placed refl (written_alike state state chunk (head_after_refer (head_at state chunk)) refl refl)
placed_steps moment hand (Join kept spent) may = may.lawful.placed

read_replicate : {X : Type 0} (n i : ℕ) (x : X) → get_or (replicate n x) i x ≡ x
read_replicate zero i x = refl
read_replicate (suc n) zero x = refl
read_replicate (suc n) (suc i) x = read_replicate n i x

-- no class has a chunk yet
no_chunks : (page : ℕ) (sizes : List ℕ) (i : ℕ) (chunk : ChunkId) → let class : ClassState = get_or (map (λ (size : ℕ). new_class size (page / size)) sizes) i (new_class 0 0) in (times_in chunk class.free ≡ 0) × (times_in chunk class.order ≡ 0)
no_chunks page [] i chunk = (refl, refl)
no_chunks page (size ∷ sizes) zero chunk = (refl, refl)
no_chunks page (size ∷ sizes) (suc i) chunk = no_chunks page sizes i chunk

pub placed_first : HoldsAtFirst PlacedIn
placed_first table stripes hands start sound some someone within_limit small =
    let fresh : SlabState = fresh_slabs table in
    let uncut : (class : ℕ) (chunk : ChunkId) → is_cut fresh class chunk ≡ false = λ class chunk. and_left _ _ (ap (is_of_class class) (read_replicate (arena_pages_of table) chunk.page Untouched)) in
    record {
      free = λ class chunk is. (no_chunks table.page table.sizes (class - 1) chunk).0 ∙ sym (ap truth (and_left _ _ (uncut class chunk)));
      order = λ class chunk is. (no_chunks table.page table.sizes (class - 1) chunk).1 ∙ sym (ap truth (and_left _ _ (uncut class chunk)));
      cleared = λ class chunk is cut tag. absurd (both_ways _ (uncut class chunk) cut);
      elsewhere = λ chunk here none. (first_heads (arena_pages_of table * most_of table) (head_place table chunk) start small).out;
    }
