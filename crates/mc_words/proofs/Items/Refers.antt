-- A reference to a key's item: what the core allows of a hand that has the key's stripe, and what it knows then.
use Rattle.std.proofs.Common.{◌≡◌, ◌≢◌, ℕ, ◌%◌, ◌<◌, ◌≤◌, not, true, false, List, [], ◌∷◌, ◌++◌, length, Option, Some, None, sym, ap, subst, unwrap_or, ◌∙◌, arith, slice_set, slice_index, slice_index_or, lt-ltb, get_or-set_same, get_or-set_other, if◌then◌else◌, append-nil}
use Rattle.std.proofs.lemmas.Bool.{and_from}
use Rattle.mc_pages.specs.declared.ids.ChunkId.{ChunkId}
use Rattle.mc_stripe.specs.declared.history.Call.TheVariants.{Get}
use Rattle.mc_stripe.specs.StripeState.{ReadyStripe, chunk_and_stamp, new_stripe, stamp_of_key}
use Rattle.mc_stripe.specs.Changes.{after_got, used_up}
use Rattle.mc_core.specs.declared.head.Head.{Head}
use Rattle.mc_core.specs.declared.holding.Holding.{Holding}
use Rattle.mc_core.specs.declared.event.Step.TheVariants as core
use Rattle.mc_core.specs.model.Head.{decode, is_linked}
use Rattle.mc_core.specs.model.State.{State, has_chunk, has_stripe, head_at, head_place, holdings_at, ids_at, looks_at, number_at, chunk_room, stripe_at, stripe_of}
use Rattle.mc_core.specs.run.Silent.{is_aside, writer_of}
use Rattle.mc_core.specs.run.Chunks.{has_place, most_holdings}
use Rattle.mc_core.specs.run.Items.{after_refer, can_refer_to, can_look_up, chunk_of_key, new_reference, head_after_refer, referred_to, with_got}
use Rattle.mc_core.specs.model.Codes.{word_plus, FitsBits}
use Rattle.mc_core.specs.past.Past.{Moment, Knowledge, Own, history_at, knowledge_at, known_of_place, moment_stepped, own_calls_after}
use Rattle.mc_core.specs.model.Views.{held_slabs}
use Rattle.mc_core.proofs.ItemWords.Codes.{all_are_sums}
use Rattle.mc_core.proofs.Known.Learns.{are_learned}
use Rattle.mc_words.specs.hand.View.{View, held_stripes}
use Rattle.mc_words.specs.rule.Layout.{head_word}
use Rattle.mc_words.specs.rule.Happens.{LawfulView, Happens, MayWrite}
use Rattle.mc_words.specs.item.Calls.{item_referred, key_got, with_own_call}
use Rattle.mc_words.proofs.Items.Calls.{mine_called}
use Rattle.mc_words.proofs.Chunks.Heads.{AreAll, head_is, header_written, near_here}
use Rattle.mc_words.proofs.Locks.LockViews.{may_step, view_from, stripes_set, holdings_were, looks_were, knew, slabs_were, stripes_were}
use Rattle.mc_words.proofs.Pages.Owners.{holdings_here, fits_here, needless, summed}
use Rattle.mc_words.proofs.Pages.OwnerViews.{holding_rows}
use Rattle.mc_words.proofs.Rules.Quiet.{columns}
use Rattle.mc_words.proofs.Locks.StripeChanges.{stripe_near, stripe_here}
use Rattle.mc_words.specs.hand.Views.{with_event}

-- the hand has the stripe of the key, which leads to this chunk
pub record LeadsTo (view : View) (stripe : ℕ) (value : ReadyStripe) (key : ℕ) (chunk : ChunkId) (stamp : ℕ) : Type 0 where
  pub mine : slice_index_or view.stripes stripe None ≡ Some value
  pub of_key : key % view.setup.config.stripes ≡ stripe
  pub leads : chunk_and_stamp value.state key ≡ Some (chunk, stamp)

module _ (view : View) (stripe : ℕ) (value : ReadyStripe) (key : ℕ) (chunk : ChunkId) (stamp : ℕ) (to : LeadsTo view stripe value key chunk stamp) (was : LawfulView view) where
  abbrev s : State
  s = was.moment.state

  pub stripe_is : stripe_of s key ≡ stripe
  stripe_is = ap (λ n. key % n) was.stripes ∙ to.of_key

  pub value_is : stripe_at s (stripe_of s key) ≡ value
  value_is = ap (stripe_at s) stripe_is ∙ (stripe_here view stripe value to.mine was).1

  pub leads_here : chunk_of_key s key ≡ Some (chunk, stamp)
  leads_here = ap (λ (v : ReadyStripe). chunk_and_stamp v.state key) value_is ∙ to.leads

  pub entry_near : has_chunk view.setup.table chunk ≡ true
  entry_near = ap (λ table. has_chunk table chunk) (sym was.same_table) ∙ ((needless view was).entry key (chunk, stamp) leads_here).0

-- a reference is taken
pub may_refer : (view : View) (stripe : ℕ) (value : ReadyStripe) (key : ℕ) (chunk : ChunkId) (stamp : ℕ) → LeadsTo view stripe value key chunk stamp → value.ready ≡ true → is_aside value.state key ≡ false → length view.row.holdings < most_holdings
    → MayWrite view (core.Refer key) (head_word view.setup chunk) (word_plus 1)
may_refer view stripe value key chunk stamp to ready inside within_limit was fits =
    let m = was.moment in
    let s : State = m.state in
    let word = slice_index was.words (head_word view.setup chunk) in
    let in_range = entry_near view stripe value key chunk stamp to was in
    let here = near_here view chunk in_range was in
    let leads = leads_here view stripe value key chunk stamp to was in
    let same = value_is view stripe value key chunk stamp to was in
    let all = needless view was in
    let linked = (all.entry key (chunk, stamp) leads).1 in
    let is : head_at s chunk ≡ decode word = head_is view chunk in_range was in
    let small : FitsBits (decode word) = subst FitsBits is (fits_here view was chunk in_range) in
    let most : (decode word).count ≤ 16385 = subst (λ (h : Head). h.count ≤ 16385) is (all.most chunk here) in
    let more : decode (word_plus 1 word) ≡ head_after_refer (head_at s chunk) =
    summed word fits head_after_refer (word_plus 1) ((all_are_sums (decode word) small).refer (omega arith)) (record { issue = small.issue; count = omega arith }) ∙ ap head_after_refer (sym is) in
    let place : has_place s was.hand ≡ true = lt-ltb (length (holdings_at s was.hand)) most_holdings (let e = ap length (holdings_here view was) in omega arith) in
    let has : has_stripe s was.hand (stripe_of s key) ≡ true = ap (has_stripe s was.hand) (stripe_is view stripe value key chunk stamp to was) ∙ (stripe_here view stripe value to.mine was).0 in
    let look : can_look_up s was.hand key ≡ true =
    and_from _ _ (and_from _ _ has (ap (λ (v : ReadyStripe). v.ready) same ∙ ready)) (ap (λ (v : ReadyStripe). not (is_aside v.state key)) same ∙ ap not inside) in
    let can : can_refer_to s (chunk_of_key s key) ≡ true = ap (can_refer_to s) leads ∙ and_from _ _ (ap is_linked linked) (all.room chunk here) in
    let after : columns (after_refer s was.hand key) ≡ (s.slabs_lock, s.stripe_locks, slice_set s.heads (head_place s.table chunk) (head_after_refer (head_at s chunk)), s.words) =
    ap (λ (o : Option (ChunkId × ℕ)). columns (referred_to (with_got s was.hand key) was.hand o)) leads in (
      and_from _ _ (and_from _ _ look place) can,
      subst (AreAll view.setup was.cuts (slice_set was.words (head_word view.setup chunk) (word_plus 1 word))) (sym after) (header_written view chunk in_range was (word_plus 1 word) (head_after_refer (head_at s chunk)) more),
    )

-- what the hand has of the key's stripe, and what it knows, after it looked the key up and got a reference
module _ (view : View) (stripe : ℕ) (value : ReadyStripe) (key : ℕ) (chunk : ChunkId) (stamp : ℕ) (to : LeadsTo view stripe value key chunk stamp) (number : ℕ) (numbered : view.row.ids.number ≡ Some number) (now : View) (h : Happens view [] (core.Refer key) now) where
  abbrev m : Moment
  m = h.was.moment

  abbrev id : ℕ
  id = h.was.hand

  abbrev got : ReadyStripe
  got = used_up (after_got value.state number key)

  -- the reference, and the room of its chunk
  abbrev pub new_one : Holding
  new_one = new_reference m.state chunk

  abbrev pub new_room : ℕ
  new_room = chunk_room m.state chunk

  abbrev next : State
  next = after_refer m.state id key

  leads : chunk_of_key m.state key ≡ Some (chunk, stamp)
  leads = leads_here view stripe value key chunk stamp to h.was

  next_is : next ≡ referred_to (with_got m.state id key) id (Some (chunk, stamp))
  next_is = ap (referred_to (with_got m.state id key) id) leads

  number_is : number_at m.state id ≡ Some number
  number_is = ap (λ (v : View). v.row.ids.number) (sym h.was.is) ∙ numbered

  writer : writer_of m.state id ≡ number
  writer = ap (λ o. unwrap_or o 0) number_is

  got_here : stripe_at next stripe ≡ got
  got_here =
      let at = stripe_is view stripe value key chunk stamp to h.was in
      ap (λ (s : State). stripe_at s stripe) next_is
      ∙ (ap (λ (i : ℕ). slice_index_or (slice_set m.state.stripes i (used_up (after_got (stripe_at m.state (stripe_of m.state key)).state (writer_of m.state id) key))) stripe new_stripe) at
      ∙ (get_or-set_same m.state.stripes stripe (used_up (after_got (stripe_at m.state (stripe_of m.state key)).state (writer_of m.state id) key)) new_stripe (let in_range = stripe_near view stripe value to.mine h.was in let count = h.was.stripes in omega arith)
      ∙ (λ k. used_up (after_got (value_is view stripe value key chunk stamp to h.was k).state (writer k) key))))

  got_other : (i : ℕ) → i ≢ stripe → stripe_at next i ≡ stripe_at m.state i
  got_other i apart =
      let at = stripe_is view stripe value key chunk stamp to h.was in
      ap (λ (s : State). stripe_at s i) next_is
      ∙ (ap (λ (j : ℕ). slice_index_or (slice_set m.state.stripes j (used_up (after_got (stripe_at m.state (stripe_of m.state key)).state (writer_of m.state id) key))) i new_stripe) at
      ∙ get_or-set_other m.state.stripes stripe i (used_up (after_got (stripe_at m.state (stripe_of m.state key)).state (writer_of m.state id) key)) new_stripe apart)

  stripes_got : held_stripes view.setup next id ≡ slice_set view.stripes stripe (Some got)
  stripes_got =
      let locks : (i : ℕ) → has_stripe next id i ≡ has_stripe m.state id i = λ i. ap (λ (s : State). has_stripe s id i) next_is in
      let held = stripe_here view stripe value to.mine h.was in
      stripes_set view.setup m.state next id stripe (Some got) (stripe_near view stripe value to.mine h.was) ((λ k. if (locks stripe ∙ held.0) k then Some (got_here k) else None))
      (λ i apart k. if locks i k then Some (got_other i apart k) else None)
      ∙ ap (λ (all : List (Option ReadyStripe)). slice_set all stripe (Some got)) (stripes_were view view h.was)

  -- the call came into the stripe's history
  history_got : history_at next stripe ≡ history_at m.state stripe ++ Get number key (stamp_of_key value.state key) ∷ []
  history_got =
      ap (λ (v : ReadyStripe). v.state.history) got_here
      ∙ ap (λ (v : ReadyStripe). v.state.history ++ Get number key (stamp_of_key value.state key) ∷ []) (sym (stripe_here view stripe value to.mine h.was).1)

  mine_got : (mine : List Own) → own_calls_after m.state next id mine ≡ Rattle.std.specs.Prelude.map (with_own_call number stripe (Get number key (stamp_of_key value.state key))) mine
  mine_got mine = mine_called m.state next stripe (Get number key (stamp_of_key value.state key)) history_got (λ i apart. ap (λ (v : ReadyStripe). v.state.history) (got_other i apart)) id number number_is mine

  abbrev after : Moment
  after = moment_stepped m id (core.Refer key)

  abbrev told : View
  told = with_event [] (core.Refer key) (item_referred new_one new_room (key_got number stripe value key view))

  knows_got : knowledge_at after.past id ≡ told.row.knows
  knows_got =
      are_learned.steps m id (core.Refer key) (may_step h) (λ kept spent e. absurd (cc))
      ∙ (λ k. let knows : Knowledge = knew view view h.was k in record {
        seen_words = append-nil knows.seen_words k;
        hold = knows.hold;
        mine = mine_got knows.mine k;
        seen = knows.seen;
        stored = append-nil knows.stored k;
        known = knows.known ++ known_of_place m.state (leads k);
      })

  -- all that the hand has then
  pub referred_view : now ≡ told
  referred_view =
      h.is
      ∙ view_from view h.was _ after (ap (λ (s : State). ids_at s id) next_is) (view.row.holdings ++ new_one ∷ [])
      (ap (λ (s : State). holdings_at s id) next_is ∙ (get_or-set_same m.state.holdings id (holdings_at m.state id ++ new_one ∷ []) [] (holding_rows view h.was) ∙ ap (λ (holdings : List Holding). holdings ++ new_one ∷ []) (holdings_were view view h.was)))
      view.row.looks (ap (λ (s : State). looks_at s id) next_is ∙ looks_were view view h.was) told.row.knows knows_got
      view.slabs (ap (λ (s : State). held_slabs s id) next_is ∙ slabs_were view view h.was) (slice_set view.stripes stripe (Some got)) stripes_got
