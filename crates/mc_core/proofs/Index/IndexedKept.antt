-- The index: its entries are the linked chunks after every change and step, and at first.
use Rattle.std.proofs.Common.{◌≡◌, ℕ, ◌*◌, ◌%◌, ◌<◌, ◌&&◌, Bool, true, false, cond, length, replicate, Some, None, refl, sym, ap, ◌∙◌, arith, subst, slice_set, inl, inr, is_none}
use Rattle.std.proofs.lemmas.Bool.{and_parts, cases_lt}
use Rattle.std.proofs.lemmas.List.{set_past}
use Rattle.std.proofs.lemmas.Option.{get_or_from_slice_get}
use Rattle.mc_classes.specs.Classes.{arena_pages_of}
use Rattle.mc_pages.specs.SlabState.{fresh_slabs}
use Rattle.mc_stripe.specs.Entries.{entry_at}
use Rattle.mc_stripe.specs.StripeState.{Index, ReadyStripe, new_stripe, chunk_and_stamp}
use Rattle.mc_stripe.specs.Changes as stripe_changes
use Rattle.mc_stripe.specs.Changes.{after_got, used_up}
use Rattle.mc_stripe.proofs.Entries.{at_without_entry, by_equal}
use Rattle.mc_core.specs.declared.head.Tag.TheVariants.{Out, Linked}
use Rattle.mc_core.specs.declared.look.Look.{Look}
use Rattle.mc_core.specs.declared.event.Change.{Change}
use Rattle.mc_core.specs.declared.event.Change.TheVariants.{Grow, BeginMove, FinishMove, Touch, SetAutomove, TrimLedger, Passed, Wrap, Evicted, OfStripe, GotNone, DeletedNone}
use Rattle.mc_core.specs.declared.event.Step.TheVariants.{TakeSlabs, TakeStripe, MissSlabs, MissStripe, GiveSlabs, GiveStripe, Pop, PopOff, Fill, Word, WordHeld, Link, Refer, Unlink, Release, Discard, Condemn, PutBack, Clear, Cut, Again, Join}
use Rattle.mc_core.specs.declared.event.Step.TheVariants as step
use Rattle.mc_core.specs.declared.event.StripeChange.{StripeChange}
use Rattle.mc_core.specs.declared.event.StripeChange.TheVariants.{Reserve, ReserveCall, Trim, Forget}
use Rattle.mc_core.specs.model.State.{State, most_of, head_place, stripe_of, stripe_at, has_slabs, has_stripe, with_look, new_state}
use Rattle.mc_core.specs.run.Silent.{writer_of, can_record_miss, after_change, stripe_after}
use Rattle.mc_core.specs.model.Columns.{head_in}
use Rattle.mc_core.specs.law.Indexed.{AreIndexed}
use Rattle.mc_core.specs.past.Past.{Moment}
use Rattle.mc_core.specs.law.Lawful.{IsLawful, IndexedIn}
use Rattle.mc_core.specs.law.Laws.{MayChange, ChangesKeep, StepsKeep, HoldsAtFirst}
use Rattle.mc_core.proofs.Places.SamePages.{stays_changes}
use Rattle.mc_core.proofs.Counts.TalliedKept.{all_same}
use Rattle.mc_core.proofs.Index.Index.{leads, AreOwn, own_from, indexed_from, same_leads, same_own}
use Rattle.mc_core.proofs.Index.IndexStays.{IsIndexed, word_moved, indexed_stays}
use Rattle.mc_core.proofs.Index.IndexHeaders.{pop_indexed, pop_off_indexed, drop_indexed, again_indexed, put_back_indexed, clear_indexed, cut_indexed}
use Rattle.mc_core.proofs.Index.IndexSteps.{refer_indexed, unlink_indexed, condemn_indexed, fill_indexed, nowhere_from}
use Rattle.mc_core.proofs.Index.IndexLinks.{link_indexed}
use Rattle.mc_core.proofs.Steps.Made.{first_heads}

own : (m : Moment) → IsLawful m → AreOwn m.state.stripes
own m l = own_from m.state.table m.state.slabs m.state.heads m.state.words m.state.stripes l.indexed

-- pages may change hands, while those of linked chunks stay of their classes
indexed_slabs : (m : Moment) (hand : ℕ) (change : Change) → MayChange m hand change → AreIndexed m.state.table (after_change m.state hand change).slabs m.state.heads m.state.words m.state.stripes
indexed_slabs m hand change may =
    let next = (after_change m.state hand change).slabs in
    indexed_stays m.state.table m.state.slabs next m.state.heads m.state.heads m.state.words m.state.words m.state.stripes m.state.stripes may.lawful.legal.some may.lawful.indexed
    (λ chunk in_range linked.
    let same = stays_changes m hand change may chunk (head_in m.state.table m.state.heads chunk).issue in_range (inr linked, refl) in
    record { tag = linked; class = same; first_words = λ place _. word_moved m.state.table m.state.slabs next m.state.words chunk place same })
    (λ chunk in_range linked. linked) (own m may.lawful) (λ key. refl)

-- such a change leaves the index
same_index : (how : StripeChange) (stripe : ReadyStripe) → (stripe_after how stripe).state.index ≡ stripe.state.index
same_index Reserve stripe = refl
same_index ReserveCall stripe = refl
same_index Trim stripe = refl
same_index Forget stripe = refl

-- a stripe is written, and all its keys lead where they led
module _ (m : Moment) (l : IsLawful m) where
  indexed_stripe : (at : ℕ) (value : ReadyStripe) → at < length m.state.stripes → ((key : ℕ) → chunk_and_stamp value.state key ≡ chunk_and_stamp (stripe_at m.state at).state key) →
      AreIndexed m.state.table m.state.slabs m.state.heads m.state.words (slice_set m.state.stripes at value)
  indexed_stripe at value within same =
      indexed_stays m.state.table m.state.slabs m.state.slabs m.state.heads m.state.heads m.state.words m.state.words m.state.stripes (slice_set m.state.stripes at value) l.legal.some l.indexed
      (λ chunk in_range linked. record { tag = linked; class = refl; first_words = λ place _. refl })
      (λ chunk in_range linked. linked) (same_own m.state.stripes at value within same (own m l)) (same_leads m.state.stripes at value within same)

  -- a stripe has another value, whose keys lead where they led
  indexed_quiet : (stripe : ℕ) (value : ReadyStripe) → ((key : ℕ) → chunk_and_stamp value.state key ≡ chunk_and_stamp (stripe_at m.state stripe).state key)
      → AreIndexed m.state.table m.state.slabs m.state.heads m.state.words (slice_set m.state.stripes stripe value)
  indexed_quiet stripe value same = elim (cases_lt stripe (length m.state.stripes)) [
    | inl within ↦ indexed_stripe stripe value within same
    | inr past ↦ subst (AreIndexed m.state.table m.state.slabs m.state.heads m.state.words) (sym (set_past m.state.stripes stripe value past)) l.indexed
  ]

  within : (key : ℕ) → stripe_of m.state key < length m.state.stripes
  within key = let some = l.legal.some in omega arith

  indexed_got : (hand key : ℕ) → IsIndexed (after_change m.state hand (GotNone key))
  indexed_got hand key = indexed_stripe (stripe_of m.state key) (used_up (after_got (stripe_at m.state (stripe_of m.state key)).state (writer_of m.state hand) key)) (within key) (λ other. refl)

  indexed_deleted : (hand key : ℕ) → chunk_and_stamp (stripe_at m.state (stripe_of m.state key)).state key ≡ None → IsIndexed (after_change m.state hand (DeletedNone key))
  indexed_deleted hand key nowhere =
      let stripe = stripe_at m.state (stripe_of m.state key) in
      indexed_stripe (stripe_of m.state key) (used_up (stripe_changes.after_unlink stripe.state (writer_of m.state hand) key)) (within key)
      (λ other. at_without_entry stripe.state.index key other (l.legal.legal (stripe_of m.state key) new_stripe (within key)).rising
      ∙ by_equal other key (λ here is. rw here (sym nowhere ∙ ap (chunk_and_stamp stripe.state) (sym is))) (λ isnt _. rw isnt refl))

nothing_there : (m : Moment) (hand key : ℕ) → (has_stripe m.state hand (stripe_of m.state key) && can_record_miss (stripe_at m.state (stripe_of m.state key)) key) ≡ true → chunk_and_stamp (stripe_at m.state (stripe_of m.state key)).state key ≡ None
nothing_there m hand key can =
    let stripe = stripe_at m.state (stripe_of m.state key) in
    let tells = and_parts (has_stripe m.state hand (stripe_of m.state key)) (can_record_miss stripe key) can in
    nowhere_from (chunk_and_stamp stripe.state key) (and_parts _ (is_none (chunk_and_stamp stripe.state key)) tells.1).1

pub indexed_changes : ChangesKeep IndexedIn
indexed_changes m hand (Grow class) may = indexed_slabs m hand (Grow class) may
indexed_changes m hand (BeginMove src dst) may = indexed_slabs m hand (BeginMove src dst) may
indexed_changes m hand FinishMove may = indexed_slabs m hand FinishMove may
indexed_changes m hand (Touch chunk) may = indexed_slabs m hand (Touch chunk) may
indexed_changes m hand (SetAutomove mode) may = indexed_slabs m hand (SetAutomove mode) may
indexed_changes m hand TrimLedger may = indexed_slabs m hand TrimLedger may
indexed_changes m hand (Passed found) may = indexed_slabs m hand (Passed found) may
indexed_changes m hand Wrap may = indexed_slabs m hand Wrap may
indexed_changes m hand (Evicted class) may = indexed_slabs m hand (Evicted class) may
indexed_changes m hand (OfStripe stripe how) may = indexed_quiet m may.lawful stripe (stripe_after how (stripe_at m.state stripe)) (λ key. ap (λ (index : Index). entry_at index key) (same_index how (stripe_at m.state stripe)))
indexed_changes m hand (GotNone key) may = indexed_got m may.lawful hand key
indexed_changes m hand (DeletedNone key) may = indexed_deleted m may.lawful hand key (nothing_there m hand key may.allowed)

-- a look counts or doesn't
looked_indexed : (state : State) (hand : ℕ) (look : Look) (holds : Bool) → IsIndexed state → IsIndexed (cond holds (with_look state hand look) state)
looked_indexed state hand look true are = are
looked_indexed state hand look false are = are

pub indexed_steps : StepsKeep IndexedIn
indexed_steps m hand TakeSlabs may = may.lawful.indexed
indexed_steps m hand (TakeStripe stripe) may = may.lawful.indexed
indexed_steps m hand MissSlabs may = may.lawful.indexed
indexed_steps m hand (MissStripe stripe) may = looked_indexed m.state hand _ (has_slabs m.state hand) may.lawful.indexed
indexed_steps m hand GiveSlabs may = may.lawful.indexed
indexed_steps m hand (GiveStripe stripe) may = may.lawful.indexed
indexed_steps m hand (step.Head chunk) may = looked_indexed m.state hand _ (has_slabs m.state hand) may.lawful.indexed
indexed_steps m hand (Pop class) may = pop_indexed m may.lawful hand class may.allowed
indexed_steps m hand (PopOff old) may = pop_off_indexed m may.lawful hand old may.allowed
indexed_steps m hand (Fill chunk place word) may = fill_indexed m may.lawful hand chunk place word may.allowed
indexed_steps m hand (Word chunk place) may = may.lawful.indexed
indexed_steps m hand (WordHeld chunk place) may = may.lawful.indexed
indexed_steps m hand (Link chunk) may = link_indexed m may.lawful hand chunk may.allowed
indexed_steps m hand (Refer key) may = refer_indexed m may.lawful hand key may.allowed
indexed_steps m hand (Unlink key) may = unlink_indexed m may.lawful hand key may.allowed
indexed_steps m hand (Release chunk) may = drop_indexed m may.lawful hand chunk false may.allowed
indexed_steps m hand (Discard chunk) may = drop_indexed m may.lawful hand chunk true may.allowed
indexed_steps m hand (Condemn chunk) may = condemn_indexed m may.lawful hand chunk may.allowed
indexed_steps m hand (PutBack chunk) may = put_back_indexed m may.lawful hand chunk may.allowed
indexed_steps m hand (Clear chunk) may = clear_indexed m may.lawful hand chunk may.allowed
indexed_steps m hand (Cut page index) may = cut_indexed m may.lawful hand (record { page = page; index = index }) may.allowed
indexed_steps m hand (Again chunk issue) may = again_indexed m may.lawful hand chunk issue may.allowed
indexed_steps m hand (Join kept spent) may = may.lawful.indexed

-- at first no key leads anywhere
new_leads : (stripes key : ℕ) → leads (replicate stripes new_stripe) key ≡ None
new_leads stripes key = ap (λ (v : ReadyStripe). chunk_and_stamp v.state key) (all_same new_stripe stripes (key % length (replicate stripes new_stripe)))

new_own : (stripes : ℕ) → AreOwn (replicate stripes new_stripe)
new_own stripes = λ stripe key value place at there.
    let new : new_stripe ≡ value = sym (all_same new_stripe stripes stripe) ∙ get_or_from_slice_get (replicate stripes new_stripe) stripe value new_stripe at in
    let never : None ≡ Some place = ap (λ (v : ReadyStripe). chunk_and_stamp v.state key) new ∙ there in absurd (cc)

pub indexed_first : HoldsAtFirst IndexedIn
indexed_first table stripes hands start sound some_stripe some_hand within_limit small =
    let state = new_state table stripes hands start in
    indexed_from table (fresh_slabs table) state.heads state.words (replicate stripes new_stripe) (new_own stripes)
    (λ key stamp chunk there. let never : None ≡ Some (chunk, stamp) = sym (new_leads stripes key) ∙ there in absurd (cc))
    (λ chunk in_range linked.
    let out : Out ≡ Linked = sym (first_heads (arena_pages_of table * most_of table) (head_place table chunk) start small).out ∙ linked in absurd (cc))
