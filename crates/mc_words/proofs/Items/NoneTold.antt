-- A change of a stripe that writes one call: why it may be told, and what a hand's view is afterwards.
use Rattle.std.proofs.Common.{◌≡◌, ◌≢◌, ℕ, suc, ◌+◌, ◌%◌, Bool, true, false, is_none, is_some, not, [], ◌∷◌, ◌++◌, List, length, map, Option, Some, None, refl, sym, ap, subst, unwrap_or, ◌∙◌, arith, lt-ltb, slice_index, slice_index_or, slice_set, get_or-set_same, get_or-set_other, if◌then◌else◌}
use Rattle.std.proofs.lemmas.Bool.{and_from, and_parts}
use Rattle.mc_stripe.specs.declared.history.Call.{Call}
use Rattle.mc_stripe.specs.declared.history.Call.TheVariants.{Get, Delete}
use Rattle.mc_stripe.specs.StripeState.{ReadyStripe, chunk_and_stamp, new_stripe, stamp_of_key}
use Rattle.mc_stripe.specs.Changes.{after_got, after_unlink, used_up}
use Rattle.mc_core.specs.declared.event.Change.{Change}
use Rattle.mc_core.specs.declared.event.Change.TheVariants.{GotNone, DeletedNone}
use Rattle.mc_core.specs.declared.event.Step.TheVariants as core
use Rattle.mc_core.specs.model.State.{State, has_stripe, ids_at, holdings_at, looks_at, number_at, stripe_at, stripe_of, with_stripe}
use Rattle.mc_core.specs.run.Silent.{allows_change, after_change, call_of, is_aside, writer_of}
use Rattle.mc_core.specs.past.Past.{Moment, Own, history_at, knowledge_at, moment_changed}
use Rattle.mc_core.specs.model.Views.{held_slabs}
use Rattle.mc_core.specs.law.Laws.{MayChange, MayStep}
use Rattle.mc_core.proofs.Law.LawKept.{lawful_changes}
use Rattle.mc_core.proofs.Known.Learns.{are_learned}
use Rattle.mc_core.proofs.Frame.SameSlabs.{looked_keeps}
use Rattle.mc_core.proofs.Seen.SeenHolder.{held_is}
use Rattle.mc_words.specs.hand.View.{View, held_stripes, view_at, events_of, own_event}
use Rattle.mc_words.specs.rule.Layout.{lock_address}
use Rattle.mc_words.specs.rule.Meaning.{AreCut}
use Rattle.mc_words.specs.rule.Happens.{LawfulView, Happens, AllowsStep}
use Rattle.mc_words.specs.item.Calls.{view_after_call, key_missed, key_not_deleted, with_own_call}
use Rattle.mc_words.specs.hand.Views.{stripe_lock_seen}
use Rattle.mc_words.proofs.Items.Calls.{mine_called}
use Rattle.mc_words.proofs.Chunks.Heads.{AreAll}
use Rattle.mc_words.proofs.Locks.LockViews.{stripes_set, stripes_were, slabs_were, holdings_were, looks_were, knew, lock_count, missed_from}
use Rattle.mc_words.proofs.Rules.Quiet.{columns}
use Rattle.mc_words.proofs.Locks.StripeChanges.{stripe_near, stripe_here}
use Rattle.mc_words.proofs.Rules.Written.{unwritten}
use Rattle.mc_core.specs.law.Lawful.{IsLawful}

same_number : (a b : ℕ) → Some a ≡ Some b → a ≡ b
same_number a b e = cc

-- the hand of this number has the stripe, into whose history the change writes this call, and the stripe is the next one then
pub record WritesCall (view : View) (number stripe : ℕ) (value : ReadyStripe) (change : Change) (next : ReadyStripe) (call : Call) : Type 0 where
  pub mine : slice_index_or view.stripes stripe None ≡ Some value
  pub numbered : view.row.ids.number ≡ Some number
  pub allowed : (was : LawfulView view) → allows_change was.moment.state was.hand change ≡ true
  pub changes : (was : LawfulView view) → after_change was.moment.state was.hand change ≡ with_stripe was.moment.state stripe next
  pub more : next.state.history ≡ value.state.history ++ call ∷ []

module _ (view : View) (number stripe : ℕ) (value : ReadyStripe) (change : Change) (next : ReadyStripe) (call : Call) (w : WritesCall view number stripe value change next call) where
  -- it is told by a look at the word of the stripe's lock
  pub may_write : AllowsStep view change (core.MissStripe stripe) (lock_address (suc stripe)) (λ found. found)
  may_write = record {
    allowed = w.allowed;
    step_allowed = λ was.
        let in_range = stripe_near view stripe value w.mine was in
        let count = lock_count view view was in
        let same : length (after_change was.moment.state was.hand change).stripe_locks ≡ length was.moment.state.stripe_locks = ap (λ (s : State). length s.stripe_locks) (w.changes was) in
        lt-ltb stripe (length (after_change was.moment.state was.hand change).stripe_locks) (omega arith);
    writes = λ was.
        let s : State = was.moment.state in
        let changed : State = after_change s was.hand change in (
          was.cuts,
          subst (AreAll view.setup was.cuts (slice_set was.words (lock_address (suc stripe)) (slice_index was.words (lock_address (suc stripe)))))
              (sym (looked_keeps columns changed was.hand _ refl ∙ ap columns (w.changes was)))
              (unwritten view.setup was.cuts was.words s.slabs_lock s.stripe_locks s.heads s.words was.are (lock_address (suc stripe))),
          subst (AreCut was.cuts) (sym (looked_keeps (λ (s : State). s.slabs) changed was.hand _ refl ∙ ap (λ (s : State). s.slabs) (w.changes was))) was.cut,
        );
  }

  -- the view between the change and the look
  abbrev pub made : View
  made = record (view_after_call number stripe call view) { stripes = slice_set view.stripes stripe (Some next) }

  module _ (was : LawfulView view) where
    abbrev s : State
    s = was.moment.state

    abbrev id : ℕ
    id = was.hand

    may : MayChange was.moment id change
    may = record { lawful = was.lawful; there = was.there; allowed = w.allowed was }

    abbrev changed : Moment
    changed = moment_changed was.moment id change

    state_is : changed.state ≡ with_stripe s stripe next
    state_is = w.changes was

    made_here : stripe_at changed.state stripe ≡ next
    made_here =
        ap (λ (s : State). stripe_at s stripe) state_is
        ∙ get_or-set_same s.stripes stripe next new_stripe (let in_range = stripe_near view stripe value w.mine was in let count = was.stripes in omega arith)

    made_other : (i : ℕ) → i ≢ stripe → stripe_at changed.state i ≡ stripe_at s i
    made_other i apart = ap (λ (s : State). stripe_at s i) state_is ∙ get_or-set_other s.stripes stripe i next new_stripe apart

    history_more : history_at changed.state stripe ≡ history_at s stripe ++ call ∷ []
    history_more =
        ap (λ (v : ReadyStripe). v.state.history) made_here
        ∙ (w.more ∙ ap (λ (v : ReadyStripe). v.state.history ++ call ∷ []) (sym (stripe_here view stripe value w.mine was).1))

    number_is : number_at s id ≡ Some number
    number_is = ap (λ (v : View). v.row.ids.number) (sym was.is) ∙ w.numbered

    stripes_made : held_stripes view.setup changed.state id ≡ slice_set view.stripes stripe (Some next)
    stripes_made =
        let locks : (i : ℕ) → has_stripe changed.state id i ≡ has_stripe s id i = λ i. ap (λ (s : State). has_stripe s id i) state_is in
        let held = stripe_here view stripe value w.mine was in
        stripes_set view.setup s changed.state id stripe (Some next) (stripe_near view stripe value w.mine was)
        ((λ k. if (locks stripe ∙ held.0) k then Some (made_here k) else None))
        (λ i apart k. if locks i k then Some (made_other i apart k) else None)
        ∙ ap (λ (all : List (Option ReadyStripe)). slice_set all stripe (Some next)) (stripes_were view view was)

    knows_made : knowledge_at changed.past id ≡ made.row.knows
    knows_made =
        are_learned.changes was.moment id change may
        ∙ (ap (λ (mine : List Own). record (knowledge_at was.moment.past id) { mine = mine })
        (mine_called s changed.state stripe call history_more (λ i apart. ap (λ (v : ReadyStripe). v.state.history) (made_other i apart)) id number number_is (knowledge_at was.moment.past id).mine)
        ∙ (λ k. let knows = knew view view was k in record knows { mine = map (with_own_call number stripe call) knows.mine }))

    -- what the changed moment has of the hand
    made_is : made ≡ view_at view.setup view.spare (events_of id was.run) changed id
    made_is = sym (λ k. record {
      setup = view.setup;
      spare = view.spare;
      events = ap (λ (v : View). v.events) (sym was.is) k;
      row = record {
        ids = (ap (λ (s : State). ids_at s id) state_is ∙ ap (λ (v : View). v.row.ids) (sym was.is)) k;
        holdings = (ap (λ (s : State). holdings_at s id) state_is ∙ holdings_were view view was) k;
        looks = (ap (λ (s : State). looks_at s id) state_is ∙ looks_were view view was) k;
        knows = knows_made k;
      };
      slabs = (ap (λ (s : State). held_slabs s id) state_is ∙ slabs_were view view was) k;
      stripes = stripes_made k;
      made_of = ap (λ (v : View). v.made_of) (sym was.is) k;
    })

    lawful_changed : IsLawful changed
    lawful_changed = lawful_changes was.moment id change may

  -- the call was written, which was told by a look at the word of the stripe's lock
  pub call_written : (now : View) → Happens view (change ∷ []) (core.MissStripe stripe) now → now ≡ stripe_lock_seen (change ∷ []) stripe (number + 1) made
  call_written now h =
      let was = h.was in
      let held = stripe_here view stripe value w.mine was in
      let parts = and_parts _ _ h.allowed in
      let there : Rattle.mc_core.specs.model.State.is_hand (changed was).state was.hand ≡ true = ap (λ (s : State). Rattle.mc_core.specs.model.State.is_hand s was.hand) (state_is was) ∙ was.there in
      let then_may : MayStep (changed was) was.hand (core.MissStripe stripe) = record { lawful = lawful_changed was; there = there; allowed = (and_parts _ _ parts.1).1 } in
      let lock : slice_index was.moment.state.stripe_locks stripe ≡ number + 1 =
      (let (n, is_n, word) = held_is (slice_index was.moment.state.stripe_locks stripe) (number_at was.moment.state was.hand) held.0 in word ∙ ap (λ (k : ℕ). k + 1) (same_number n number (sym is_n ∙ number_is was))) in
      let locked : slice_index (changed was).state.stripe_locks stripe ≡ number + 1 = ap (λ (s : State). slice_index s.stripe_locks stripe) (state_is was) ∙ lock in
      h.is ∙ missed_from made (changed was) was.hand (events_of was.hand was.run) (view.events ++ own_event (change ∷ []) (core.MissStripe stripe) ∷ []) (made_is was) stripe (number + 1) then_may locked

-- a key of a stripe that the hand has, which leads nowhere and isn't aside
pub record LeadsNowhere (view : View) (number stripe : ℕ) (value : ReadyStripe) (key : ℕ) : Type 0 where
  pub mine : slice_index_or view.stripes stripe None ≡ Some value
  pub numbered : view.row.ids.number ≡ Some number
  pub of_key : key % view.setup.config.stripes ≡ stripe
  pub ready : value.ready ≡ true
  pub inside : is_aside value.state key ≡ false
  pub none : chunk_and_stamp value.state key ≡ None

module _ (view : View) (number stripe : ℕ) (value : ReadyStripe) (key : ℕ) (no_place : LeadsNowhere view number stripe value key) where
  module _ (was : LawfulView view) where
    stripe_is : stripe_of was.moment.state key ≡ stripe
    stripe_is = ap (λ n. key % n) was.stripes ∙ no_place.of_key

    value_is : stripe_at was.moment.state (stripe_of was.moment.state key) ≡ value
    value_is = ap (stripe_at was.moment.state) stripe_is ∙ (stripe_here view stripe value no_place.mine was).1

    writer : writer_of was.moment.state was.hand ≡ number
    writer = ap (λ (v : View). unwrap_or v.row.ids.number 0) (sym was.is) ∙ ap (λ o. unwrap_or o 0) no_place.numbered

    can_tell : allows_change was.moment.state was.hand (GotNone key) ≡ true
    can_tell =
        let held = ap (has_stripe was.moment.state was.hand) stripe_is ∙ (stripe_here view stripe value no_place.mine was).0 in
        and_from _ _ held
        (and_from _ _ (and_from _ _ (ap (λ (v : ReadyStripe). v.ready) value_is ∙ no_place.ready) (ap (λ (v : ReadyStripe). not (is_aside v.state key)) value_is ∙ ap not no_place.inside))
        (ap (λ (v : ReadyStripe). is_none (chunk_and_stamp v.state key)) value_is ∙ ap is_none no_place.none))

  -- it was looked up
  got_writes : WritesCall view number stripe value (GotNone key) (used_up (after_got value.state number key)) (Get number key (stamp_of_key value.state key))
  got_writes = record {
    mine = no_place.mine;
    numbered = no_place.numbered;
    allowed = can_tell;
    changes = λ was k. with_stripe was.moment.state (stripe_is was k) (used_up (after_got (value_is was k).state (writer was k) key));
    more = refl;
  }

  -- or deleted
  deleted_writes : WritesCall view number stripe value (DeletedNone key) (used_up (after_unlink value.state number key)) (Delete number key false)
  deleted_writes = record {
    mine = no_place.mine;
    numbered = no_place.numbered;
    allowed = can_tell;
    changes = λ was k. with_stripe was.moment.state (stripe_is was k) (used_up (after_unlink (value_is was k).state (writer was k) key));
    more = ap (λ there. value.state.history ++ Delete number key (is_some there) ∷ []) no_place.none;
  }

  pub may_tell_none : (deletes : Bool) → AllowsStep view (call_of deletes key) (core.MissStripe stripe) (lock_address (suc stripe)) (λ found. found)
  may_tell_none true = may_write view number stripe value (DeletedNone key) (used_up (after_unlink value.state number key)) (Delete number key false) deleted_writes
  may_tell_none false = may_write view number stripe value (GotNone key) (used_up (after_got value.state number key)) (Get number key (stamp_of_key value.state key)) got_writes

  -- what the hand knows then
  abbrev pub told_view : Bool → View
  told_view deletes = if deletes then key_not_deleted number stripe value key view else key_missed number stripe value key view

  pub none_told : (deletes : Bool) (now : View) → Happens view (call_of deletes key ∷ []) (core.MissStripe stripe) now → now ≡ told_view deletes
  none_told true now h = call_written view number stripe value (DeletedNone key) (used_up (after_unlink value.state number key)) (Delete number key false) deleted_writes now h
  none_told false now h = call_written view number stripe value (GotNone key) (used_up (after_got value.state number key)) (Get number key (stamp_of_key value.state key)) got_writes now h

  -- who it is and what it holds stays
  pub told_keeps : (deletes : Bool) → ((told_view deletes).row.ids ≡ view.row.ids) × ((told_view deletes).row.holdings ≡ view.row.holdings)
  told_keeps true = (refl, refl)
  told_keeps false = (refl, refl)
