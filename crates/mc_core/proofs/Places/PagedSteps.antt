-- Pages and lists stay in order under each step.
use Rattle.std.proofs.Common.{◌≡◌, ℕ, ◌/◌, true, List, [], ◌∷◌, map, Option, Some, None, refl, sym, ap, subst, eqb-true, Contains}
use Rattle.std.proofs.lemmas.Bool.{and_parts}
use Rattle.std.proofs.lemmas.List.{length-replicate}
use Rattle.mc_classes.specs.Classes.{Classes, arena_pages_of}
use Rattle.mc_pages.specs.declared.ids.ChunkId.{ChunkId}
use Rattle.mc_pages.specs.declared.ids.Moving.{Moving}
use Rattle.mc_pages.specs.declared.ledger.Owner.{Owner}
use Rattle.mc_pages.specs.declared.ledger.Owner.TheVariants.{Untouched}
use Rattle.mc_pages.specs.ClassState.{ClassState, new_class}
use Rattle.mc_pages.specs.SlabState.{SlabState, class_at, class_of_page, class_of_chunk}
use Rattle.mc_pages.specs.Changes as slabs_changes
use Rattle.mc_pages.proofs.Fresh.{IsInOrder-fresh}
use Rattle.mc_pages.proofs.Kept.{IsInOrder-after_pop, IsInOrder-after_back, IsInOrder-after_replace, IsInOrder-after_clear, IsInOrder-after_cut}
use Rattle.mc_pages.specs.Pages.{is_on_the_move}
use Rattle.mc_core.specs.declared.event.Step.{Step}
use Rattle.mc_core.specs.declared.event.Step.TheVariants.{TakeSlabs, TakeStripe, MissSlabs, MissStripe, GiveSlabs, GiveStripe, Pop, PopOff, Fill, Word, WordHeld, Link, Refer, Unlink, Release, Discard, Condemn, PutBack, Clear, Cut, Again, Join}
use Rattle.mc_core.specs.declared.event.Step.TheVariants as step
use Rattle.mc_core.specs.model.Holdings.{is_of_chunk, holding_of}
use Rattle.mc_core.specs.model.State.{State, is_class, number_at, has_slabs, with_slabs, holdings_at, without_holding}
use Rattle.mc_core.specs.run.Silent.{is_handed_out, is_listed, none_half_cut}
use Rattle.mc_core.specs.run.Chunks.{next_free, is_target, target_of, is_next_uncut, popped_off, can_pop, state_after_pop, can_pop_off, after_pop_off, can_put_back, after_put_back, can_clear, state_after_clear, can_cut, state_after_cut}
use Rattle.mc_core.specs.run.Items.{with_got, chunk_of_key}
use Rattle.mc_core.specs.run.Run.{after_step}
use Rattle.mc_core.specs.law.Places.{ArePaged}
use Rattle.mc_core.specs.law.Lawful.{PagedIn}
use Rattle.mc_core.specs.law.Laws.{StepsKeep, HoldsAtFirst}
use Rattle.mc_core.proofs.Places.OfTable.{pop_shape, back_shape, replace_shape, clear_shape, cut_shape}
use Rattle.mc_core.proofs.Steps.Listed.{Contains_from_among, IsClass_from, found_among, page_of_move, next_uncut_is, places_from_listed}
use Rattle.mc_core.proofs.Frame.SameSlabs.{looked_keeps, popped_keeps, told_link_keeps, linked_keeps, referred_keeps, unlinked_keeps}
use Rattle.mc_core.proofs.Steps.StepTests.{pop_tests, pop_off_tests, put_back_tests, clear_tests, cut_tests}
use Rattle.mc_core.proofs.Places.PagedChanges.{StayPaged, paged_from, lock_not_free, whole_is}

module _ (table : Classes) (slabs : SlabState) (lock : ℕ) (paged : ArePaged table slabs lock) where
  popped_paged : (class : ℕ) → is_class table class ≡ true → StayPaged slabs (slabs_changes.after_pop slabs class)
  popped_paged class named =
      let is = IsClass_from table slabs class paged.of_table named in
      record {
        shape = pop_shape slabs class;
        order = (paged.order.0, IsInOrder-after_pop slabs paged.order.0 class paged.order.1 is);
      }

  replaced_paged : (new old : ChunkId) → Contains (class_of_chunk slabs old).free new → is_handed_out slabs old ≡ true → StayPaged slabs (slabs_changes.after_replace slabs new old)
  replaced_paged new old free out =
      let handed = Contains_from_among (class_of_chunk slabs old).order old out in
      let all = paged.order.1.accounted in
      record {
        shape = replace_shape slabs new old;
        order = (paged.order.0, IsInOrder-after_replace slabs paged.order.0 new old paged.order.1 free handed);
      }

  back_paged : (chunk : ChunkId) → is_handed_out slabs chunk ≡ true → StayPaged slabs (slabs_changes.after_back slabs chunk)
  back_paged chunk out =
      let handed = Contains_from_among (class_of_chunk slabs chunk).order chunk out in
      let all = paged.order.1.accounted in
      record {
        shape = back_shape slabs chunk;
        order = (paged.order.0, IsInOrder-after_back slabs paged.order.0 chunk paged.order.1 handed);
      }

  cleared_paged : (chunk : ChunkId) → is_on_the_move slabs chunk.page ≡ true → is_listed slabs (class_of_page slabs chunk.page) chunk ≡ true → StayPaged slabs (slabs_changes.after_clear slabs chunk)
  cleared_paged chunk moves listed =
      let placed = places_from_listed slabs (class_of_page slabs chunk.page) chunk listed in
      let all = paged.order.1.accounted in
      record {
        shape = clear_shape slabs chunk;
        order = (paged.order.0, IsInOrder-after_clear slabs paged.order.0 chunk paged.order.1 (page_of_move slabs.moving chunk.page moves) placed);
      }

  cut_paged : (chunk : ChunkId) → is_next_uncut slabs chunk ≡ true → StayPaged slabs (slabs_changes.after_cut slabs chunk)
  cut_paged chunk next =
      let is = next_uncut_is slabs.uncut chunk next in
      let kept = paged.order.1 in
      record {
        shape = cut_shape slabs chunk;
        order = (paged.order.0, IsInOrder-after_cut slabs paged.order.0 chunk kept is);
      }

-- what the clause reads
abbrev pages_part : State → Classes × SlabState × ℕ
pages_part state = (state.table, state.slabs, state.slabs_lock)

abbrev Paged : Classes × SlabState × ℕ → Type 0
Paged part = ArePaged part.0 part.1 part.2

same_paged : (before now : State) → pages_part now ≡ pages_part before → Paged (pages_part before) → Paged (pages_part now)
same_paged before now same paged = subst Paged (sym same) paged

-- under the lock pages and lists are those
paged_with : (state : State) (hand : ℕ) (slabs : SlabState) (now : State) → Paged (pages_part state) → has_slabs state hand ≡ true → StayPaged state.slabs slabs → pages_part now ≡ pages_part (with_slabs state slabs) → Paged (pages_part now)
paged_with state hand slabs now was held stay same =
    same_paged (with_slabs state slabs) now same (paged_from state.table state.slabs slabs state.slabs_lock was stay (lock_not_free state.slabs_lock (number_at state hand) held))

-- a target is a free chunk of its class
pub target_free : (state : State) (page : ℕ) (chunk : ChunkId) → target_of state.table state.heads state.slabs page ≡ Some chunk → Contains (class_at state.slabs (class_of_page state.slabs page)).free chunk
target_free state page chunk is =
    let free = (class_at state.slabs (class_of_page state.slabs page)).free in
    Contains_from_among free chunk (found_among (is_target state.table state.heads page) free chunk is)

popped_off_paged : (state : State) (hand : ℕ) (old : ChunkId) (next : Option ChunkId) → target_of state.table state.heads state.slabs old.page ≡ next → Paged (pages_part state) → has_slabs state hand ≡ true → is_handed_out state.slabs old ≡ true →
    Paged (pages_part (popped_off state hand old next))
popped_off_paged state hand old None is was held out = was
popped_off_paged state hand old (Some chunk) is was held out =
    paged_with state hand (slabs_changes.after_replace state.slabs chunk old) (popped_off state hand old (Some chunk)) was held
    (replaced_paged state.table state.slabs state.slabs_lock was chunk old (target_free state old.page chunk is) out) refl

module _ (state : State) (hand : ℕ) (was : Paged (pages_part state)) where
  pop_paged : (class : ℕ) → can_pop state hand class ≡ true → Paged (pages_part (state_after_pop state hand class))
  pop_paged class can =
      let slabs = slabs_changes.after_pop state.slabs class in
      let tests = pop_tests state hand class (next_free state class) can in
      paged_with state hand slabs (state_after_pop state hand class) was tests.0 (popped_paged state.table state.slabs state.slabs_lock was class tests.1)
      (popped_keeps pages_part (with_slabs state slabs) hand (next_free state class) (λ chunk. refl))

  pop_off_paged : (old : ChunkId) → can_pop_off state hand old ≡ true → Paged (pages_part (after_pop_off state hand old))
  pop_off_paged old can = let tests = pop_off_tests state hand old (target_of state.table state.heads state.slabs old.page) can in popped_off_paged state hand old (target_of state.table state.heads state.slabs old.page) refl was tests.0 tests.2

  put_back_paged : (chunk : ChunkId) → can_put_back state hand chunk ≡ true → Paged (pages_part (after_put_back state hand chunk))
  put_back_paged chunk can =
      let tests = put_back_tests state hand chunk can in
      paged_with state hand (slabs_changes.after_back state.slabs chunk) (after_put_back state hand chunk) was tests.0 (back_paged state.table state.slabs state.slabs_lock was chunk tests.3) refl

  clear_paged : (chunk : ChunkId) → can_clear state hand chunk ≡ true → Paged (pages_part (state_after_clear state hand chunk))
  clear_paged chunk can =
      let tests = clear_tests state hand chunk can in
      paged_with state hand (slabs_changes.after_clear state.slabs chunk) (state_after_clear state hand chunk) was tests.0 (cleared_paged state.table state.slabs state.slabs_lock was chunk tests.2 tests.3) refl

  cut_step_paged : (chunk : ChunkId) → can_cut state hand chunk ≡ true → Paged (pages_part (state_after_cut state hand chunk))
  cut_step_paged chunk can =
      let tests = cut_tests state hand chunk can in
      paged_with state hand (slabs_changes.after_cut state.slabs chunk) (state_after_cut state hand chunk) was tests.0 (cut_paged state.table state.slabs state.slabs_lock was chunk tests.2) refl

  -- the lock's word changes, and no page is half cut
  relocked : (lock : ℕ) → state.slabs.uncut ≡ None → ArePaged state.table state.slabs lock
  relocked lock whole = record { of_table = was.of_table; order = was.order; whole = λ free. whole }

-- a step that changes nothing of this
passes : (state : State) (hand : ℕ) (step : Step) → Paged (pages_part state) → pages_part (after_step state hand step) ≡ pages_part state → Paged (pages_part (after_step state hand step))
passes state hand step was same = same_paged state (after_step state hand step) same was

pub paged_steps : StepsKeep PagedIn
paged_steps moment hand TakeSlabs may =
    let state = moment.state in let was = may.lawful.paged in relocked state hand was _ (was.whole (eqb-true state.slabs_lock 0 may.allowed))
paged_steps moment hand (TakeStripe stripe) may = may.lawful.paged
paged_steps moment hand MissSlabs may = may.lawful.paged
paged_steps moment hand (MissStripe stripe) may = passes moment.state hand (MissStripe stripe) may.lawful.paged (looked_keeps pages_part moment.state hand _ refl)
paged_steps moment hand GiveSlabs may =
    let state = moment.state in
    let parts = and_parts (has_slabs state hand) (none_half_cut state.slabs) may.allowed in relocked state hand may.lawful.paged 0 (whole_is state.slabs.uncut parts.1)
paged_steps moment hand (GiveStripe stripe) may = may.lawful.paged
paged_steps moment hand (step.Head chunk) may = passes moment.state hand (step.Head chunk) may.lawful.paged (looked_keeps pages_part moment.state hand _ refl)
paged_steps moment hand (Pop class) may = pop_paged moment.state hand may.lawful.paged class may.allowed
paged_steps moment hand (PopOff old) may = pop_off_paged moment.state hand may.lawful.paged old may.allowed
paged_steps moment hand (Fill chunk place word) may =
    let state = moment.state in
    passes state hand (Fill chunk place word) may.lawful.paged (refl)
paged_steps moment hand (Word chunk place) may = may.lawful.paged
paged_steps moment hand (WordHeld chunk place) may = may.lawful.paged
paged_steps moment hand (Link chunk) may =
    let state = moment.state in
    let left : State = without_holding state hand (is_of_chunk chunk) in
    passes state hand (Link chunk) may.lawful.paged
    (linked_keeps pages_part left hand chunk (holding_of chunk (holdings_at state hand)) (λ holding. told_link_keeps pages_part left hand holding holding.kind refl refl))
paged_steps moment hand (Refer key) may =
    let state = moment.state in passes state hand (Refer key) may.lawful.paged (referred_keeps pages_part (with_got state hand key) hand (chunk_of_key state key) (λ chunk. refl))
paged_steps moment hand (Unlink key) may = let state = moment.state in passes state hand (Unlink key) may.lawful.paged (unlinked_keeps pages_part _ (chunk_of_key state key) (λ chunk. refl))
paged_steps moment hand (Release chunk) may = may.lawful.paged
paged_steps moment hand (Discard chunk) may = may.lawful.paged
paged_steps moment hand (Condemn chunk) may =
    let state = moment.state in
    passes state hand (Condemn chunk) may.lawful.paged (refl)
paged_steps moment hand (PutBack chunk) may = put_back_paged moment.state hand may.lawful.paged chunk may.allowed
paged_steps moment hand (Clear chunk) may = clear_paged moment.state hand may.lawful.paged chunk may.allowed
paged_steps moment hand (Cut page index) may = cut_step_paged moment.state hand may.lawful.paged (record { page = page; index = index }) may.allowed
paged_steps moment hand (Again chunk issue) may = may.lawful.paged
paged_steps moment hand (Join kept spent) may = may.lawful.paged

per_pages : (page : ℕ) (sizes : List ℕ) → map (λ (c : ClassState). c.per_page) (map (λ (size : ℕ). new_class size (page / size)) sizes) ≡ map (λ (size : ℕ). page / size) sizes
per_pages page [] = refl
per_pages page (size ∷ sizes) = ap (λ ns. page / size ∷ ns) (per_pages page sizes)

no_move : (move : Moving) → None ≡ Some move → ⊥
no_move move h = cc

pub paged_first : HoldsAtFirst PagedIn
paged_first table stripes hands start sound some someone within_limit _ =
    let kept = IsInOrder-fresh table sound in
    record {
      of_table = record { page = refl; limit = refl; per_page = per_pages table.page table.sizes; owners = length-replicate {A = Owner} (arena_pages_of table) Untouched; accounted = kept.accounted };
      order = (0, kept);
      whole = λ free. refl;
    }
