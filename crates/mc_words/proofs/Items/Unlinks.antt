-- Items that are unlinked from their keys: what the core allows of a hand that has the key's stripe, and what it knows then.
use Rattle.std.proofs.Common.{◌≡◌, ◌≢◌, ℕ, ◌+◌, ◌≤◌, ◌||◌, Bool, not, true, false, is_none, is_some, List, [], ◌∷◌, ◌++◌, map, Option, Some, None, refl, sym, ap, subst, unwrap_or, inl, inr, ◌∙◌, arith, slice_set, slice_index, get_or-set_same, get_or-set_other, if◌then◌else◌, append-nil}
use Rattle.std.proofs.lemmas.Bool.{and_from, cases_Bool, cases_eq}
use Rattle.mc_pages.specs.declared.ids.ChunkId.{ChunkId}
use Rattle.mc_stripe.specs.declared.history.Call.TheVariants.{Delete}
use Rattle.mc_stripe.specs.StripeState.{ReadyStripe, new_stripe}
use Rattle.mc_core.specs.declared.head.Head.{Head}
use Rattle.mc_core.specs.declared.head.Tag.{Tag}
use Rattle.mc_core.specs.declared.head.Tag.TheVariants.{Linked}
use Rattle.mc_core.specs.declared.event.Step.TheVariants as core
use Rattle.mc_core.specs.model.Head.{decode, is_linked}
use Rattle.mc_core.specs.model.Holdings.{has_fresh}
use Rattle.mc_core.specs.model.State.{State, has_stripe, head_at, head_place, holdings_at, ids_at, looks_at, number_at, stripe_at, stripe_of, with_stripe}
use Rattle.mc_core.specs.run.Silent.{is_aside, writer_of}
use Rattle.mc_core.specs.model.Columns.{holder_count, link_count}
use Rattle.mc_core.specs.run.Items.{state_after_unlink, can_lift, can_look_up, chunk_of_key, is_linked_at, stripe_unlinked, head_after_unlink, with_unlinked}
use Rattle.mc_core.specs.model.Codes.{word_minus, FitsBits}
use Rattle.mc_core.specs.past.Past.{Moment, Knowledge, Own, history_at, knowledge_at, moment_stepped, own_calls_after}
use Rattle.mc_core.specs.model.Views.{held_slabs}
use Rattle.mc_core.proofs.ItemWords.Codes.{all_are_sums}
use Rattle.mc_core.proofs.Known.Learns.{are_learned}
use Rattle.mc_words.specs.hand.View.{View, held_stripes, made}
use Rattle.mc_words.specs.rule.Layout.{head_word}
use Rattle.mc_words.specs.rule.Happens.{Happens, MayWrite}
use Rattle.mc_words.specs.item.Calls.{key_deleted, key_lifted, key_unlinked, with_own_call}
use Rattle.mc_words.proofs.Items.Calls.{mine_called}
use Rattle.mc_words.proofs.Chunks.Heads.{AreAll, head_is, header_written, near_here}
use Rattle.mc_words.proofs.Hands.Knows.{mine_alike}
use Rattle.mc_words.proofs.Locks.LockViews.{may_step, view_from, stripes_set, holdings_were, looks_were, knew, slabs_were, stripes_were}
use Rattle.mc_words.proofs.Pages.Owners.{holdings_here, fits_here, needless, summed}
use Rattle.mc_words.proofs.Rules.Quiet.{columns}
use Rattle.mc_words.proofs.Items.Refers.{LeadsTo, stripe_is, value_is, leads_here, entry_near}
use Rattle.mc_words.proofs.Locks.StripeChanges.{stripe_near, stripe_here}
use Rattle.mc_words.specs.hand.Views.{with_event}

-- a hand that fills no chunk, or puts the first entry aside
lifts_if : (fresh none : Bool) → (fresh ≡ true → none ≡ true) → (not fresh || none) ≡ true
lifts_if true none free = free refl
lifts_if false none free = refl

-- the link of a linked chunk counts
link_counts : (tag : Tag) (count held : ℕ) → tag ≡ Linked → count ≡ link_count tag + held → 1 ≤ count
link_counts tag count held linked counted = let link : link_count tag ≡ 1 = ap link_count linked in omega arith

-- the link is taken away
pub may_unlink : (view : View) (stripe : ℕ) (value : ReadyStripe) (key : ℕ) (chunk : ChunkId) (stamp : ℕ) → LeadsTo view stripe value key chunk stamp → value.ready ≡ true → is_aside value.state key ≡ false → (has_fresh view.row.holdings ≡ true → value.state.aside ≡ None)
    → MayWrite view (core.Unlink key) (head_word view.setup chunk) (word_minus 65537)
may_unlink view stripe value key chunk stamp to ready inside free was fits =
    let m = was.moment in
    let s : State = m.state in
    let word = slice_index was.words (head_word view.setup chunk) in
    let in_range = entry_near view stripe value key chunk stamp to was in
    let here = near_here view chunk in_range was in
    let leads = leads_here view stripe value key chunk stamp to was in
    let same = value_is view stripe value key chunk stamp to was in
    let linked : (head_at s chunk).tag ≡ Linked = ((needless view was).entry key (chunk, stamp) leads).1 in
    let is : head_at s chunk ≡ decode word = head_is view chunk in_range was in
    let small : FitsBits (decode word) = subst FitsBits is (fits_here view was chunk in_range) in
    let count : 1 ≤ (decode word).count = subst (λ (h : Head). 1 ≤ h.count) is (link_counts (head_at s chunk).tag (head_at s chunk).count (holder_count chunk s.holdings) linked (was.lawful.counted.counted chunk here)) in
    let less : decode (word_minus 65537 word) ≡ head_after_unlink (head_at s chunk) =
    summed word fits head_after_unlink (word_minus 65537) ((all_are_sums (decode word) small).unlink (sym (ap (λ (h : Head). h.tag) is) ∙ linked) count) (record { issue = small.issue; count = let c = small.count in omega arith }) ∙ ap head_after_unlink (sym is) in
    let has : has_stripe s was.hand (stripe_of s key) ≡ true = ap (has_stripe s was.hand) (stripe_is view stripe value key chunk stamp to was) ∙ (stripe_here view stripe value to.mine was).0 in
    let look : can_look_up s was.hand key ≡ true =
    and_from _ _ (and_from _ _ has (ap (λ (v : ReadyStripe). v.ready) same ∙ ready)) (ap (λ (v : ReadyStripe). not (is_aside v.state key)) same ∙ ap not inside) in
    let lift : can_lift s was.hand key ≡ true =
    lifts_if (has_fresh (holdings_at s was.hand)) (is_none (stripe_at s (stripe_of s key)).state.aside)
    (λ fresh. ap (λ (v : ReadyStripe). is_none v.state.aside) same ∙ ap is_none (free (ap has_fresh (sym (holdings_here view was)) ∙ fresh))) in
    let there : is_linked_at s (chunk_of_key s key) ≡ true = ap (is_linked_at s) leads ∙ ap is_linked linked in
    let after : columns (state_after_unlink s was.hand key) ≡ (s.slabs_lock, s.stripe_locks, slice_set s.heads (head_place s.table chunk) (head_after_unlink (head_at s chunk)), s.words) =
    ap (λ (o : Option (ChunkId × ℕ)). columns (with_unlinked (with_stripe s (stripe_of s key) (stripe_unlinked (stripe_at s (stripe_of s key)) (has_fresh (holdings_at s was.hand)) (writer_of s was.hand) key)) o)) leads in (
      and_from _ _ (and_from _ _ look lift) there,
      subst (AreAll view.setup was.cuts (slice_set was.words (head_word view.setup chunk) (word_minus 65537 word))) (sym after) (header_written view chunk in_range was (word_minus 65537 word) (head_after_unlink (head_at s chunk)) less),
    )

module _ (view : View) (stripe : ℕ) (value : ReadyStripe) (key : ℕ) (chunk : ChunkId) (stamp : ℕ) (to : LeadsTo view stripe value key chunk stamp) (number : ℕ) (numbered : view.row.ids.number ≡ Some number) (now : View) (h : Happens view [] (core.Unlink key) now) where
  abbrev m : Moment
  m = h.was.moment

  abbrev id : ℕ
  id = h.was.hand

  abbrev next : State
  next = state_after_unlink m.state id key

  number_is : number_at m.state id ≡ Some number
  number_is = ap (λ (v : View). v.row.ids.number) (sym h.was.is) ∙ numbered

  writer : writer_of m.state id ≡ number
  writer = ap (λ o. unwrap_or o 0) number_is

  module _ (lifts : Bool) (fresh : has_fresh view.row.holdings ≡ lifts) where
    -- the stripe then
    abbrev then_stripe : ReadyStripe
    then_stripe = stripe_unlinked value lifts number key

    next_is : next ≡ with_unlinked (with_stripe m.state stripe then_stripe) (Some (chunk, stamp))
    next_is =
        let fresh_here : has_fresh (holdings_at m.state id) ≡ lifts = ap has_fresh (holdings_here view h.was) ∙ fresh in
        let at = stripe_is view stripe value key chunk stamp to h.was in
        let same = value_is view stripe value key chunk stamp to h.was in
        ap (with_unlinked (with_stripe m.state (stripe_of m.state key) (stripe_unlinked (stripe_at m.state (stripe_of m.state key)) (has_fresh (holdings_at m.state id)) (writer_of m.state id) key))) (leads_here view stripe value key chunk stamp to h.was)
        ∙ (λ k. with_unlinked (with_stripe m.state (at k) (stripe_unlinked (same k) (fresh_here k) (writer k) key)) (Some (chunk, stamp)))

    stripe_then : stripe_at next stripe ≡ then_stripe
    stripe_then =
        ap (λ (s : State). stripe_at s stripe) next_is ∙ get_or-set_same m.state.stripes stripe then_stripe new_stripe (let in_range = stripe_near view stripe value to.mine h.was in let count = h.was.stripes in omega arith)

    other_then : (i : ℕ) → i ≢ stripe → stripe_at next i ≡ stripe_at m.state i
    other_then i apart = ap (λ (s : State). stripe_at s i) next_is ∙ get_or-set_other m.state.stripes stripe i then_stripe new_stripe apart

    stripes_then : held_stripes view.setup next id ≡ slice_set view.stripes stripe (Some then_stripe)
    stripes_then =
        let locks : (i : ℕ) → has_stripe next id i ≡ has_stripe m.state id i = λ i. ap (λ (s : State). has_stripe s id i) next_is in
        let held = stripe_here view stripe value to.mine h.was in
        stripes_set view.setup m.state next id stripe (Some then_stripe) (stripe_near view stripe value to.mine h.was) ((λ k. if (locks stripe ∙ held.0) k then Some (stripe_then k) else None))
        (λ i apart k. if locks i k then Some (other_then i apart k) else None)
        ∙ ap (λ (all : List (Option ReadyStripe)). slice_set all stripe (Some then_stripe)) (stripes_were view view h.was)

    abbrev after : Moment
    after = moment_stepped m id (core.Unlink key)

    -- what it knows but for its own calls
    knows_then : (mine : List Own) → own_calls_after m.state next id view.row.knows.mine ≡ mine → knowledge_at after.past id ≡ record view.row.knows { mine = mine }
    knows_then mine are =
        are_learned.steps m id (core.Unlink key) (may_step h) (λ kept spent e. absurd (cc))
        ∙ (λ k. let knows : Knowledge = knew view view h.was k in record {
          seen_words = append-nil knows.seen_words k;
          hold = knows.hold;
          mine = own_calls_after m.state next id knows.mine;
          seen = knows.seen;
          stored = append-nil knows.stored k;
          known = append-nil knows.known k;
        })
        ∙ ap (λ (own : List Own). record view.row.knows { mine = own }) are

    view_then : (mine : List Own) → own_calls_after m.state next id view.row.knows.mine ≡ mine → now ≡ record view { events = view.events ++ made [] (core.Unlink key) ∷ []; row = record view.row { knows = record view.row.knows { mine = mine } }; stripes = slice_set view.stripes stripe (Some then_stripe) }
    view_then mine are =
        h.is
        ∙ view_from view h.was _ after (ap (λ (s : State). ids_at s id) next_is) view.row.holdings (ap (λ (s : State). holdings_at s id) next_is ∙ holdings_were view view h.was)
        view.row.looks (ap (λ (s : State). looks_at s id) next_is ∙ looks_were view view h.was) (record view.row.knows { mine = mine }) (knows_then mine are)
        view.slabs (ap (λ (s : State). held_slabs s id) next_is ∙ slabs_were view view h.was) (slice_set view.stripes stripe (Some then_stripe)) stripes_then

  -- an entry that is put aside is no call
  lifted_view : has_fresh view.row.holdings ≡ true → now ≡ with_event [] (core.Unlink key) (key_lifted stripe value key view)
  lifted_view fresh =
      view_then true fresh view.row.knows.mine
      (mine_alike m.state next
      (λ i. elim (cases_eq i stripe) [
        | inl same ↦
            ap (history_at next) same
            ∙ (ap (λ (v : ReadyStripe). v.state.history) (stripe_then true fresh) ∙ (ap (λ (v : ReadyStripe). v.state.history) (sym (stripe_here view stripe value to.mine h.was).1) ∙ ap (history_at m.state) (sym same)))
        | inr apart ↦ ap (λ (v : ReadyStripe). v.state.history) (other_then true fresh i apart)
      ])
      id view.row.knows.mine)

  -- and otherwise the key was deleted
  deleted_view : has_fresh view.row.holdings ≡ false → now ≡ with_event [] (core.Unlink key) (key_deleted number stripe value key true view)
  deleted_view fresh =
      let history : history_at next stripe ≡ history_at m.state stripe ++ Delete number key true ∷ [] =
      ap (λ (v : ReadyStripe). v.state.history) (stripe_then false fresh)
      ∙ (ap (λ there. value.state.history ++ Delete number key (is_some there) ∷ []) to.leads ∙ ap (λ (v : ReadyStripe). v.state.history ++ Delete number key true ∷ []) (sym (stripe_here view stripe value to.mine h.was).1)) in
      view_then false fresh (map (with_own_call number stripe (Delete number key true)) view.row.knows.mine)
      (mine_called m.state next stripe (Delete number key true) history (λ i apart. ap (λ (v : ReadyStripe). v.state.history) (other_then false fresh i apart)) id number number_is view.row.knows.mine)

  pub unlinked_view : now ≡ key_unlinked number stripe value key view
  unlinked_view = elim (cases_Bool (has_fresh view.row.holdings)) [
    | inl fresh ↦ lifted_view fresh ∙ sym (ap (λ (b : Bool). with_event [] (core.Unlink key) (if b then key_lifted stripe value key view else key_deleted number stripe value key true view)) fresh)
    | inr none ↦ deleted_view none ∙ sym (ap (λ (b : Bool). with_event [] (core.Unlink key) (if b then key_lifted stripe value key view else key_deleted number stripe value key true view)) none)
  ]

  -- who it is and what it holds stays
  pub unlinked_keeps : (now.row.ids ≡ view.row.ids) × (now.row.holdings ≡ view.row.holdings)
  unlinked_keeps = elim (cases_Bool (has_fresh view.row.holdings)) [
    | inl fresh ↦ (ap (λ (v : View). v.row.ids) (lifted_view fresh), ap (λ (v : View). v.row.holdings) (lifted_view fresh))
    | inr none ↦ (ap (λ (v : View). v.row.ids) (deleted_view none), ap (λ (v : View). v.row.holdings) (deleted_view none))
  ]
