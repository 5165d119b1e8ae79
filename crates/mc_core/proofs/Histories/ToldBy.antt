-- Which events tell a stripe of a call, and that all others leave the stripes alone.
use Rattle.std.proofs.Common.{◌≡◌, ◌⊎◌, ℕ, ◌+◌, ◌/◌, ◌%◌, ◌^◌, ◌==◌, ◌&&◌, ◌||◌, Bool, true, false, cond, not, List, [], Option, Some, None, refl, sym, ap, subst, inl, inr, eqb-true, nat_lt, nat_eq, unwrap_or, slice_set, is_some, is_none, IfSome}
use Rattle.std.specs.Option.{option_map, option_map_or, option_eq}
use Rattle.std.proofs.lemmas.Bool.{and_parts}
use Rattle.mc_pages.specs.declared.ids.ChunkId.{ChunkId}
use Rattle.mc_pages.specs.ClassState.{is_chunk}
use Rattle.mc_stripe.specs.StripeState.{ReadyStripe, can_store, chunk_and_stamp}
use Rattle.mc_core.specs.declared.event.Change.{Change}
use Rattle.mc_core.specs.declared.event.Change.TheVariants.{Grow, BeginMove, FinishMove, Touch, SetAutomove, TrimLedger, Passed, Wrap, Evicted, OfStripe, GotNone, DeletedNone}
use Rattle.mc_core.specs.declared.event.Step.{Step}
use Rattle.mc_core.specs.declared.event.Step.TheVariants.{TakeSlabs, TakeStripe, MissSlabs, MissStripe, GiveSlabs, GiveStripe, Pop, PopOff, Fill, Word, WordHeld, Link, Refer, Unlink, Release, Discard, Condemn, PutBack, Clear, Cut, Again, Join}
use Rattle.mc_core.specs.declared.event.Step.TheVariants as step
use Rattle.mc_core.specs.declared.holding.Holding.{Holding}
use Rattle.mc_core.specs.declared.holding.Kind.{Kind}
use Rattle.mc_core.specs.declared.holding.Kind.TheVariants.{Reference, Fresh}
use Rattle.mc_core.specs.declared.holding.Purpose.TheVariants.{Item, Copy, Rescue}
use Rattle.mc_core.specs.declared.ids.Ids.{Ids}
use Rattle.mc_core.specs.declared.look.Look.{Look}
use Rattle.mc_core.specs.model.Head.{is_unlinked}
use Rattle.mc_core.specs.model.Holdings.{known_key, stamp_in, words_of_item, is_complete, is_of_chunk, has_fresh, holding_of, numbers_of_known, holding_words}
use Rattle.mc_core.specs.model.State.{State, has_chunk, head_at, ids_at, has_slabs, has_stripe, stripe_of, stripe_at, with_stripe, without_holding, holdings_at, with_look, looks_at}
use Rattle.mc_core.specs.run.Silent.{is_aside, can_record_miss, writer_of, allows_change, after_change}
use Rattle.mc_core.specs.run.Locks.{state_after_look}
use Rattle.mc_core.specs.run.Chunks.{state_after_pop_of, popped_off, target_of, next_free, has_place}
use Rattle.mc_core.specs.run.Items.{most_stamps, is_allowed_for, can_link_key, can_record_link, can_link_holding, is_entry_aside, is_none_else_aside, is_next_stamp, are_same, can_count, recorded_link, after_link_of, referred_to, with_got, with_unlinked, can_look_up, can_refer_to, can_lift, is_linked_at, chunk_of_key, stripe_unlinked}
use Rattle.mc_core.specs.run.Items as items
use Rattle.mc_core.specs.run.Evictions.{is_linked_unheld, can_lose_entry, has_copy, has_reason, key_at, with_bound, with_eviction_call, stripe_condemned}
use Rattle.mc_core.specs.run.Evictions as evictions
use Rattle.mc_core.specs.run.Run.{allows_step, after_step}
use Rattle.mc_core.specs.past.Past.{StoredItem, stored_item_of, item_stored_by_link, items_stored_by_step}
use Rattle.mc_core.specs.law.Indexed.{AreLegal}
use Rattle.mc_core.proofs.Histories.Tellings.{Tells, tells_change, tells_got, tells_deleted, tells_evicted, tells_lifted, tells_set, tells_rescued}

abbrev pub MayTell : State → List ReadyStripe → ℕ → List StoredItem → Type 0
MayTell state now hand said = ((now ≡ state.stripes) × (said ≡ [])) ⊎ Tells state now hand said

not_true : (b : Bool) → not b ≡ true → b ≡ false
not_true true h = absurd (cc)
not_true false h = refl

none_is : {X : Type 0} (o : Option X) → is_none o ≡ true → o ≡ None
none_is None h = refl
none_is (Some x) h = absurd (cc)

-- where nothing else is aside, what is aside is of this key
of_key : (aside : Option (ℕ × (ChunkId × ℕ))) (key : ℕ) → (is_none aside || option_map_or (λ (other : ℕ). other == key) (option_map (λ (e : ℕ × (ChunkId × ℕ)). e.0) aside) false) ≡ true
    → IfSome (option_map (λ (e : ℕ × (ChunkId × ℕ)). e.0) aside) (λ other. other ≡ key)
of_key None key h = tt
of_key (Some entry) key h = eqb-true entry.0 key h

-- the key of the entry aside
key_is : (aside : Option (ℕ × (ChunkId × ℕ))) (key : ℕ) (chunk : ChunkId) (stamp : ℕ) → option_map_or (λ (e : ℕ × (ChunkId × ℕ)). e.0 == key && is_chunk e.1.0 chunk && e.1.1 == stamp) aside false ≡ true
    → option_map (λ (e : ℕ × (ChunkId × ℕ)). e.0) aside ≡ Some key
key_is None key chunk stamp h = absurd (cc)
key_is (Some entry) key chunk stamp h =
    let all = and_parts (entry.0 == key && is_chunk entry.1.0 chunk) (entry.1.1 == stamp) h in
    ap Some (eqb-true entry.0 key (and_parts (entry.0 == key) (is_chunk entry.1.0 chunk) all.0).0)

-- the number in a next stamp is the hand's
pub own_stamp : (ids : Ids) (stamp : ℕ) → is_next_stamp ids stamp ≡ true → stamp / 2 ^ 48 ≡ unwrap_or ids.number 0
own_stamp ids stamp h =
    let both = and_parts (nat_lt ids.stamps most_stamps && option_eq nat_eq ids.number (Some (stamp / 2 ^ 48))) (stamp % 2 ^ 48 == ids.stamps + 1) h in
    let front = and_parts (nat_lt ids.stamps most_stamps) (option_eq nat_eq ids.number (Some (stamp / 2 ^ 48))) both.0 in
    number_is ids.number front.1
  where
    number_is : (number : Option ℕ) → option_eq nat_eq number (Some (stamp / 2 ^ 48)) ≡ true → stamp / 2 ^ 48 ≡ unwrap_or number 0
    number_is None is = absurd (cc)
    number_is (Some n) is = sym (eqb-true n (stamp / 2 ^ 48) is)

module _ (state : State) (hand : ℕ) (l : AreLegal state.stripes state.stripe_locks) where
  none_told : (key : ℕ) → (has_stripe state hand (stripe_of state key) && can_record_miss (stripe_at state (stripe_of state key)) key) ≡ true →
      (has_stripe state hand (stripe_of state key) ≡ true) × (is_aside (stripe_at state (stripe_of state key)).state key ≡ false)
  none_told key h =
      let stripe = stripe_at state (stripe_of state key) in
      let parts = and_parts (has_stripe state hand (stripe_of state key)) (can_record_miss stripe key) h in
      let told = and_parts (stripe.ready && not (is_aside stripe.state key)) (is_none (chunk_and_stamp stripe.state key)) parts.1 in
      (parts.0, not_true _ (and_parts stripe.ready (not (is_aside stripe.state key)) told.0).1)

  pub told_by_change : (change : Change) → allows_change state hand change ≡ true → MayTell state (after_change state hand change).stripes hand []
  told_by_change (Grow class) h = inl (refl, refl)
  told_by_change (BeginMove src dst) h = inl (refl, refl)
  told_by_change FinishMove h = inl (refl, refl)
  told_by_change (Touch chunk) h = inl (refl, refl)
  told_by_change (SetAutomove mode) h = inl (refl, refl)
  told_by_change TrimLedger h = inl (refl, refl)
  told_by_change (Passed found) h = inl (refl, refl)
  told_by_change Wrap h = inl (refl, refl)
  told_by_change (Evicted class) h = inl (refl, refl)
  told_by_change (OfStripe stripe how) h = inr (tells_change state hand l stripe (and_parts (has_stripe state hand stripe) _ h).0 how)
  told_by_change (GotNone key) h = let parts = none_told key h in inr (tells_got state hand l (stripe_of state key) parts.0 key parts.1)
  told_by_change (DeletedNone key) h = let parts = none_told key h in inr (tells_deleted state hand l (stripe_of state key) parts.0 key parts.1)

  ready_for : (key : ℕ) → can_look_up state hand key ≡ true → (has_stripe state hand (stripe_of state key) ≡ true) × (is_aside (stripe_at state (stripe_of state key)).state key ≡ false)
  ready_for key h =
      let stripe = stripe_at state (stripe_of state key) in
      let parts = and_parts (has_stripe state hand (stripe_of state key) && stripe.ready) (not (is_aside stripe.state key)) h in
      ((and_parts (has_stripe state hand (stripe_of state key)) stripe.ready parts.0).0, not_true _ parts.1)

  referred_stripes : (s : State) (place : Option (ChunkId × ℕ)) → (referred_to s hand place).stripes ≡ s.stripes
  referred_stripes s None = refl
  referred_stripes s (Some place) = refl

  unlinked_stripes : (s : State) (place : Option (ChunkId × ℕ)) → (with_unlinked s place).stripes ≡ s.stripes
  unlinked_stripes s None = refl
  unlinked_stripes s (Some place) = refl

  -- the same list under another name
  renamed : (now other : List ReadyStripe) → now ≡ other → MayTell state other hand [] → MayTell state now hand []
  renamed now other e may = subst (λ (xs : List ReadyStripe). MayTell state xs hand []) (sym e) may

  told_by_refer : (key : ℕ) → items.can_refer state hand key ≡ true → MayTell state (items.after_refer state hand key).stripes hand []
  told_by_refer key h =
      let parts = and_parts (can_look_up state hand key && has_place state hand) (can_refer_to state (chunk_of_key state key)) h in
      let ready = ready_for key (and_parts (can_look_up state hand key) (has_place state hand) parts.0).0 in
      renamed _ _ (referred_stripes (with_got state hand key) (chunk_of_key state key)) (inr (tells_got state hand l (stripe_of state key) ready.0 key ready.1))

  linked_there : (place : Option (ChunkId × ℕ)) → is_linked_at state place ≡ true → is_some place ≡ true
  linked_there None h = absurd (cc)
  linked_there (Some place) h = refl

  told_by_unlink : (key : ℕ) → items.can_unlink state hand key ≡ true → MayTell state (items.state_after_unlink state hand key).stripes hand []
  told_by_unlink key h =
      let at = stripe_of state key in
      let stripe = stripe_at state at in
      let lifts = has_fresh (holdings_at state hand) in
      let parts = and_parts (can_look_up state hand key && can_lift state hand key) (is_linked_at state (chunk_of_key state key)) h in
      let both = and_parts (can_look_up state hand key) (can_lift state hand key) parts.0 in
      let ready = ready_for key both.0 in
      let now = λ (b : Bool). slice_set state.stripes at (stripe_unlinked stripe b (writer_of state hand) key) in
      renamed _ (now lifts) (unlinked_stripes (with_stripe state at (stripe_unlinked stripe lifts (writer_of state hand) key)) (chunk_of_key state key))
      (elim lifts as (λ b. (not b || is_none stripe.state.aside) ≡ true → MayTell state (now b) hand []) [
        | true ↦ λ none. inr (tells_lifted state hand l at ready.0 key stripe.ready stripe.entry refl (linked_there (chunk_of_key state key) parts.1) (none_is stripe.state.aside none))
        | false ↦ λ _. inr (tells_deleted state hand l at ready.0 key ready.1)
      ] both.1)

  told_by_condemn : (chunk : ChunkId) → evictions.can_condemn state hand chunk ≡ true → MayTell state (evictions.after_condemn state hand chunk).stripes hand []
  told_by_condemn chunk h =
      let key = key_at state chunk in
      let at = stripe_of state key in
      let stripe = stripe_at state at in
      let rescues = has_copy (holdings_at state hand) chunk in
      let free = has_slabs state hand && has_chunk state.table chunk && is_linked_unheld (head_at state chunk) in
      let parts = and_parts (free && has_stripe state hand at && can_lose_entry stripe key rescues) (has_reason state.table state.heads state.slabs (looks_at state hand) (holdings_at state hand) chunk) h in
      let taken = and_parts (free && has_stripe state hand at) (can_lose_entry stripe key rescues) parts.0 in
      let has = (and_parts free (has_stripe state hand at) taken.0).1 in
      let away = and_parts (stripe.ready && is_some (chunk_and_stamp stripe.state key)) (not rescues || is_none stripe.state.aside) taken.1 in
      let there = (and_parts stripe.ready (is_some (chunk_and_stamp stripe.state key)) away.0).1 in
      let now = λ (b : Bool). slice_set state.stripes at (stripe_condemned stripe b (writer_of state hand) key) in
      elim rescues as (λ b. (not b || is_none stripe.state.aside) ≡ true → MayTell state (now b) hand []) [
        | true ↦ λ none. inr (tells_lifted state hand l at has key stripe.ready stripe.entry refl there (none_is stripe.state.aside none))
        | false ↦ λ _. inr (tells_evicted state hand l at has key there)
      ] away.1

  module _ (chunk : ChunkId) where
    abbrev without : State
    without = without_holding state hand (is_of_chunk chunk)

    told_by_kind : (holding : Holding) (kind : Kind) → has_stripe state hand (stripe_of state (known_key (holding_words holding))) ≡ true → is_allowed_for state hand (holding_words holding) kind ≡ true →
        MayTell state (recorded_link without hand holding kind).stripes hand (stored_item_of kind (holding_words holding))
    told_by_kind holding (Reference own) has h = absurd (cc)
    told_by_kind holding (Fresh Item own) has h =
        let key = known_key (holding_words holding) in
        let parts = and_parts (is_next_stamp (ids_at state hand) (stamp_in (holding_words holding))) (is_none_else_aside (stripe_at state (stripe_of state key)).state key) h in
        inr (tells_set state hand l (stripe_of state key) has key holding.chunk (stamp_in (holding_words holding)) (numbers_of_known (words_of_item (holding_words holding))) refl (own_stamp (ids_at state hand) (stamp_in (holding_words holding)) parts.0) (of_key (stripe_at state (stripe_of state key)).state.aside key parts.1))
    told_by_kind holding (Fresh (Copy old) own) has h =
        let key = known_key (holding_words holding) in
        let parts = and_parts (is_next_stamp (ids_at state hand) (stamp_in (holding_words holding))) (is_none_else_aside (stripe_at state (stripe_of state key)).state key) h in
        inr (tells_set state hand l (stripe_of state key) has key holding.chunk (stamp_in (holding_words holding)) (numbers_of_known (words_of_item (holding_words holding))) refl (own_stamp (ids_at state hand) (stamp_in (holding_words holding)) parts.0) (of_key (stripe_at state (stripe_of state key)).state.aside key parts.1))
    told_by_kind holding (Fresh (Rescue old item) own) has h =
        let key = known_key (holding_words holding) in
        let stripe = stripe_at state (stripe_of state key) in
        let parts = and_parts (are_same (words_of_item (holding_words holding)) item) (is_entry_aside stripe.state key old (stamp_in (holding_words holding))) h in
        inr (tells_rescued state hand l (stripe_of state key) has key holding.chunk (key_is stripe.state.aside key old (stamp_in (holding_words holding)) parts.1))

    told_by_link : (holding : Option Holding) → can_link_holding state hand chunk holding ≡ true → MayTell state (after_link_of without hand chunk holding).stripes hand (item_stored_by_link holding)
    told_by_link None h = absurd (cc)
    told_by_link (Some holding) h =
        let key = known_key (holding_words holding) in
        let parts = and_parts (is_complete (holding_words holding) && can_record_link state hand holding && is_unlinked (head_at state chunk).tag) (can_count (head_at state chunk)) h in
        let more = and_parts (is_complete (holding_words holding) && can_record_link state hand holding) (is_unlinked (head_at state chunk).tag) parts.0 in
        let told = (and_parts (is_complete (holding_words holding)) (can_record_link state hand holding) more.0).1 in
        let both = and_parts (can_link_key state hand key) (is_allowed_for state hand (holding_words holding) holding.kind) told in
        let ready = and_parts (has_stripe state hand (stripe_of state key) && can_store (stripe_at state (stripe_of state key))) (is_none (chunk_and_stamp (stripe_at state (stripe_of state key)).state key)) both.0 in
        let has = (and_parts (has_stripe state hand (stripe_of state key)) (can_store (stripe_at state (stripe_of state key))) ready.0).0 in
        told_by_kind holding holding.kind has both.1

  popped_stripes : (s : State) (chunk : Option ChunkId) → (state_after_pop_of s hand chunk).stripes ≡ s.stripes
  popped_stripes s None = refl
  popped_stripes s (Some chunk) = refl

  popped_off_stripes : (s : State) (old : ChunkId) (chunk : Option ChunkId) → (popped_off s hand old chunk).stripes ≡ s.stripes
  popped_off_stripes s old None = refl
  popped_off_stripes s old (Some chunk) = refl

  looked_stripes : (s : State) (look : Look) → (state_after_look s hand look).stripes ≡ s.stripes
  looked_stripes s look = elim (has_slabs s hand) as (λ b. (cond b (with_look s hand look) s).stripes ≡ s.stripes) [ true ↦ refl | false ↦ refl ]

  pub told_by_step : (step : Step) → allows_step state hand step ≡ true → MayTell state (after_step state hand step).stripes hand (items_stored_by_step state hand step)
  told_by_step TakeSlabs h = inl (refl, refl)
  told_by_step (TakeStripe stripe) h = inl (refl, refl)
  told_by_step MissSlabs h = inl (refl, refl)
  told_by_step (MissStripe stripe) h = inl (looked_stripes state _, refl)
  told_by_step GiveSlabs h = inl (refl, refl)
  told_by_step (GiveStripe stripe) h = inl (refl, refl)
  told_by_step (step.Head chunk) h = inl (looked_stripes state _, refl)
  told_by_step (Pop class) h = inl (popped_stripes _ (next_free state class), refl)
  told_by_step (PopOff old) h = inl (popped_off_stripes state old (target_of state.table state.heads state.slabs old.page), refl)
  told_by_step (Fill chunk place word) h = inl (refl, refl)
  told_by_step (Word chunk place) h = inl (refl, refl)
  told_by_step (WordHeld chunk place) h = inl (refl, refl)
  told_by_step (Link chunk) h = told_by_link chunk (holding_of chunk (holdings_at state hand)) h
  told_by_step (Refer key) h = told_by_refer key h
  told_by_step (Unlink key) h = told_by_unlink key h
  told_by_step (Release chunk) h = inl (refl, refl)
  told_by_step (Discard chunk) h = inl (refl, refl)
  told_by_step (Condemn chunk) h = told_by_condemn chunk h
  told_by_step (PutBack chunk) h = inl (refl, refl)
  told_by_step (Clear chunk) h = inl (refl, refl)
  told_by_step (Cut page index) h = inl (refl, refl)
  told_by_step (Again chunk issue) h = inl (refl, refl)
  told_by_step (Join kept spent) h = inl (refl, refl)
