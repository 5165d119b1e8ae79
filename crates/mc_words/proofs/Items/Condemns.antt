-- An item is taken away under both locks: why the core allows it, which word it writes, and what the hand knows then.
use Rattle.std.proofs.Common.{◌≡◌, ◌≢◌, ◌+◌, length, min, is_none, inl, inr, not, slice_index, zero-add, ℕ, ◌%◌, ◌^◌, ◌<◌, ◌||◌, Bool, true, false, List, [], ◌∷◌, ◌++◌, map, Option, Some, None, refl, sym, ap, ap₂, subst, ◌∙◌, arith, is_some, if◌then◌else◌, slice_set, slice_index_or, unwrap_or, get_or-set_same, get_or-set_other, append-nil}
use Rattle.std.specs.List.{fold, list_any}
use Rattle.std.proofs.lemmas.Bool.{and_from, and_parts, cases_Bool, cases_eq}
use Rattle.std.proofs.lemmas.List.{length-map}
use Rattle.std.proofs.lemmas.List.FromFn.{get_or-map-range_with_len, length-map-range_with_len}
use Rattle.mc_pages.specs.Accounted.{truth}
use Rattle.mc_pages.specs.declared.ids.ChunkId.{ChunkId}
use Rattle.mc_pages.specs.SlabState.{SlabState}
use Rattle.mc_stripe.specs.declared.history.Call.TheVariants.{Evict}
use Rattle.mc_stripe.specs.StripeState.{ReadyStripe, new_stripe, chunk_and_stamp}
use Rattle.mc_stripe.specs.Changes.{after_evict, after_lift, used_up}
use Rattle.mc_core.specs.declared.head.Head.{Head}
use Rattle.mc_core.specs.declared.head.Tag.TheVariants.{Linked}
use Rattle.mc_core.specs.declared.holding.Holding.{Holding}
use Rattle.mc_core.specs.declared.look.Look.{Look}
use Rattle.mc_core.specs.declared.look.Look.TheVariants.{Condemned}
use Rattle.mc_core.specs.declared.event.Step.TheVariants as core
use Rattle.mc_core.specs.model.Codes.{word_minus, FitsBits}
use Rattle.mc_core.specs.run.Evictions.{after_condemn, as_rescue, can_lose_entry, head_after_condemn, has_copy, has_reason, is_linked_unheld, key_at, stripe_condemned}
use Rattle.mc_core.specs.model.Head.{decode}
use Rattle.mc_core.specs.model.Holdings.{change_each, is_copy_kind, is_copy_of, is_fresh, is_fresh_kind, key_of, length_of_item, stamp_in_words}
use Rattle.mc_core.specs.declared.holding.Kind.{Kind}
use Rattle.mc_core.specs.declared.holding.Kind.TheVariants.{Fresh, Reference}
use Rattle.mc_core.specs.law.Indexed.{IsEntry}
use Rattle.mc_core.proofs.Known.KnownChunks.{entry_of}
use Rattle.mc_words.specs.item.Originals.{original_condemned}
use Rattle.mc_words.specs.hand.Tallies.{fresh_count}
use Rattle.mc_words.proofs.Items.GetsItems.{item_word}
use Rattle.mc_words.proofs.Hands.Knows.{mine_alike}
use Rattle.mc_core.specs.past.Past.{Moment, Knowledge, Own, history_at, knowledge_at, moment_stepped, own_calls_after}
use Rattle.mc_core.specs.law.Seen.{last_read}
use Rattle.mc_core.specs.run.Silent.{writer_of}
use Rattle.mc_core.specs.model.State.{State, has_chunk, has_stripe, head_at, holdings_at, item_at, looks_at, number_at, chunk_room, stripe_at, stripe_of, word_at}
use Rattle.mc_core.proofs.ItemWords.Codes.{all_are_sums}
use Rattle.mc_core.proofs.Index.Entered.{tag_linked}
use Rattle.mc_core.proofs.Known.Learns.{are_learned}
use Rattle.mc_words.specs.hand.View.{View, held_stripes}
use Rattle.mc_words.specs.rule.Layout.{head_word}
use Rattle.mc_words.specs.rule.Happens.{LawfulView, Happens, MayExchange}
use Rattle.mc_words.specs.item.Calls.{item_condemned, with_own_call}
use Rattle.mc_words.specs.item.Removal.{key_read, knows_reason}
use Rattle.mc_words.proofs.Items.Calls.{mine_called}
use Rattle.mc_words.proofs.Chunks.Heads.{head_is, header_written, near_here}
use Rattle.mc_words.proofs.Locks.LockViews.{may_step, view_from, stripes_set, holdings_were, looks_were, knew, rows, slabs_were, stripes_were}
use Rattle.mc_words.proofs.Pages.Owners.{fits_here, holdings_here, judged, looks_here, slabs_here, summed}
use Rattle.mc_words.proofs.Pages.OwnerViews.{holding_rows}
use Rattle.mc_words.proofs.Items.Reasoned.{reason_here}
use Rattle.mc_words.proofs.Locks.StripeChanges.{stripe_near, stripe_here}

-- who holds no copy changes none
no_copies : (chunk : ChunkId) (change : Holding → Holding) (holdings : List Holding) → has_copy holdings chunk ≡ false → change_each (is_copy_of chunk) change holdings ≡ holdings
no_copies chunk change [] none = refl
no_copies chunk change (holding ∷ holdings) none =
    let parts = neither (is_copy_of chunk holding) (list_any (is_copy_of chunk) holdings) none in
    ap₂ (λ (h : Holding) (hs : List Holding). h ∷ hs) (ap (λ (b : Bool). if b then change holding else holding) parts.0) (no_copies chunk change holdings parts.1)
  where
    neither : (a b : Bool) → (a || b) ≡ false → (a ≡ false) × (b ≡ false)
    neither true b is = absurd (cc)
    neither false b is = (refl, is)

-- the hand has pages and lists, and the stripe of the key that it read of the chunk
pub record HasBoth (view : View) (slabs : SlabState) (stripe : ℕ) (value : ReadyStripe) (chunk : ChunkId) (key : ℕ) : Type 0 where
  pub in_range : has_chunk view.setup.table chunk ≡ true
  pub mine : view.slabs ≡ Some slabs
  pub held : slice_index_or view.stripes stripe None ≡ Some value
  pub read : key_read view chunk ≡ Some key
  pub of_key : key % view.setup.config.stripes ≡ stripe

module _ (view : View) (slabs : SlabState) (stripe : ℕ) (value : ReadyStripe) (chunk : ChunkId) (key : ℕ) (has : HasBoth view slabs stripe value chunk key) where
  module _ (was : LawfulView view) where
    abbrev s : State
    s = was.moment.state

    near_there : has_chunk s.table chunk ≡ true
    near_there = near_here view chunk has.in_range was

    -- it is still the key
    pub key_is : key_at s chunk ≡ key
    key_is = (judged view was slabs has.mine).key chunk key near_there (ap (λ (looks : List Look). fold (last_read chunk 0) None looks) (looks_here view was) ∙ has.read)

    stripe_is : stripe_of s (key_at s chunk) ≡ stripe
    stripe_is = (λ k. key_is k % was.stripes k) ∙ has.of_key

    value_is : stripe_at s (stripe_of s (key_at s chunk)) ≡ value
    value_is = ap (stripe_at s) stripe_is ∙ (stripe_here view stripe value has.held was).1

    -- a linked chunk is where its key leads
    pub leads_there : (head_at s chunk).tag ≡ Linked → chunk_and_stamp value.state key ≡ Some (chunk, word_at s chunk 1)
    leads_there tag = (λ k. chunk_and_stamp (sym value_is k).state (sym key_is k)) ∙ was.lawful.indexed.linked chunk near_there tag

  -- its item is taken away
  pub may_take_away : (rescues : Bool) → (not rescues || is_none value.state.aside) ≡ true → value.ready ≡ true → has_copy view.row.holdings chunk ≡ rescues → knows_reason slabs view.row.looks view.row.holdings chunk ≡ true → (word : ℕ) → is_linked_unheld (decode word) ≡ true
      → MayExchange view (core.Condemn chunk) (head_word view.setup chunk) word (word_minus 65537 word)
  may_take_away rescues free ready none reason word unheld was fits hit =
      let m : Moment = was.moment in
      let held = slabs_here view was slabs has.mine in
      let fits' : word < 2 ^ 64 = subst (λ (n : ℕ). n < 2 ^ 64) hit fits in
      let is : head_at m.state chunk ≡ decode word = head_is view chunk has.in_range was ∙ ap decode hit in
      let unheld' : is_linked_unheld (head_at m.state chunk) ≡ true = ap is_linked_unheld is ∙ unheld in
      let tag : (head_at m.state chunk).tag ≡ Linked = tag_linked (head_at m.state chunk).tag (and_parts _ _ unheld').0 in
      let small : FitsBits (decode word) = subst FitsBits is (fits_here view was chunk has.in_range) in
      let less : decode (word_minus 65537 word) ≡ head_after_condemn (head_at m.state chunk) =
      summed word fits' head_after_condemn (word_minus 65537) ((all_are_sums (decode word) small).condemn unheld) (record { issue = small.issue; count = omega arith }) ∙ ap head_after_condemn (sym is) in
      let stripe_held : has_stripe m.state was.hand (stripe_of m.state (key_at m.state chunk)) ≡ true = ap (has_stripe m.state was.hand) (stripe_is was) ∙ (stripe_here view stripe value has.held was).0 in
      let loses : can_lose_entry (stripe_at m.state (stripe_of m.state (key_at m.state chunk))) (key_at m.state chunk) (has_copy (holdings_at m.state was.hand) chunk) ≡ true =
      (λ k. can_lose_entry (value_is was k) (key_is was k) (has_copy (holdings_here view was k) chunk)) ∙ (ap (can_lose_entry value key) none ∙ and_from _ _ (and_from _ _ ready (ap is_some (leads_there was tag))) free) in
      let why : has_reason m.state.table m.state.heads m.state.slabs (looks_at m.state was.hand) (holdings_at m.state was.hand) chunk ≡ true =
      reason_here m was.hand (judged view was slabs has.mine) chunk ((λ k. knows_reason (held.1 k) (looks_here view was k) (holdings_here view was k) chunk) ∙ reason) in (
        and_from _ _ (and_from _ _ (and_from _ _ (and_from _ _ (and_from _ _ held.0 (near_there was)) unheld') stripe_held) loses) why,
        header_written view chunk has.in_range was (word_minus 65537 word) (head_after_condemn (head_at m.state chunk)) less,
      )

  pub may_condemn : value.ready ≡ true → has_copy view.row.holdings chunk ≡ false → knows_reason slabs view.row.looks view.row.holdings chunk ≡ true → (word : ℕ) → is_linked_unheld (decode word) ≡ true
      → MayExchange view (core.Condemn chunk) (head_word view.setup chunk) word (word_minus 65537 word)
  may_condemn = may_take_away false refl

  pub may_condemn_original : value.state.aside ≡ None → value.ready ≡ true → has_copy view.row.holdings chunk ≡ true → knows_reason slabs view.row.looks view.row.holdings chunk ≡ true → (word : ℕ) → is_linked_unheld (decode word) ≡ true
      → MayExchange view (core.Condemn chunk) (head_word view.setup chunk) word (word_minus 65537 word)
  may_condemn_original empty = may_take_away true (ap is_none empty)

  -- what the hand knows then
  module _ (number : ℕ) (numbered : view.row.ids.number ≡ Some number) (none : has_copy view.row.holdings chunk ≡ false) (now : View) (head : Head) (h : Happens view [] (core.Condemn chunk) now) (is : head_at h.was.moment.state chunk ≡ head) where
    abbrev m : Moment
    m = h.was.moment

    abbrev id : ℕ
    id = h.was.hand

    abbrev left : ReadyStripe
    left = used_up (after_evict value.state number key)

    abbrev next : State
    next = after_condemn m.state id chunk

    number_is : number_at m.state id ≡ Some number
    number_is = ap (λ (v : View). v.row.ids.number) (sym h.was.is) ∙ numbered

    writer : writer_of m.state id ≡ number
    writer = ap (λ o. unwrap_or o 0) number_is

    none_there : has_copy (holdings_at m.state id) chunk ≡ false
    none_there = ap (λ (holdings : List Holding). has_copy holdings chunk) (holdings_here view h.was) ∙ none

    -- what becomes of the stripe of the key
    abbrev told_there : ReadyStripe
    told_there = stripe_condemned (stripe_at m.state (stripe_of m.state (key_at m.state chunk))) (has_copy (holdings_at m.state id) chunk) (writer_of m.state id) (key_at m.state chunk)

    told_is : told_there ≡ left
    told_is = λ k. stripe_condemned (value_is h.was k) (none_there k) (writer k) (key_is h.was k)

    left_here : stripe_at next stripe ≡ left
    left_here =
        ap (λ (i : ℕ). slice_index_or (slice_set m.state.stripes i told_there) stripe new_stripe) (stripe_is h.was)
        ∙ (get_or-set_same m.state.stripes stripe told_there new_stripe (let in_range = stripe_near view stripe value has.held h.was in let count = h.was.stripes in omega arith) ∙ told_is)

    left_other : (i : ℕ) → i ≢ stripe → stripe_at next i ≡ stripe_at m.state i
    left_other i apart =
        ap (λ (j : ℕ). slice_index_or (slice_set m.state.stripes j told_there) i new_stripe) (stripe_is h.was)
        ∙ get_or-set_other m.state.stripes stripe i told_there new_stripe apart

    stripes_left : held_stripes view.setup next id ≡ slice_set view.stripes stripe (Some left)
    stripes_left =
        let held = stripe_here view stripe value has.held h.was in
        stripes_set view.setup m.state next id stripe (Some left) (stripe_near view stripe value has.held h.was) ((λ k. if held.0 k then Some (left_here k) else None))
        (λ i apart. ap (λ (v : ReadyStripe). if has_stripe m.state id i then Some v else None) (left_other i apart))
        ∙ ap (λ (all : List (Option ReadyStripe)). slice_set all stripe (Some left)) (stripes_were view view h.was)

    -- the call came into its history
    history_left : history_at next stripe ≡ history_at m.state stripe ++ Evict number key ∷ []
    history_left =
        ap (λ (v : ReadyStripe). v.state.history) left_here
        ∙ ap (λ (v : ReadyStripe). v.state.history ++ Evict number key ∷ []) (sym (stripe_here view stripe value has.held h.was).1)

    mine_left : (mine : List Own) → own_calls_after m.state next id mine ≡ map (with_own_call number stripe (Evict number key)) mine
    mine_left mine = mine_called m.state next stripe (Evict number key) history_left (λ i apart. ap (λ (v : ReadyStripe). v.state.history) (left_other i apart)) id number number_is mine

    abbrev after : Moment
    after = moment_stepped m id (core.Condemn chunk)

    abbrev told : View
    told = item_condemned number stripe value key chunk head view

    knows_left : knowledge_at after.past id ≡ told.row.knows
    knows_left =
        are_learned.steps m id (core.Condemn chunk) (may_step h) (λ kept spent e. absurd (cc))
        ∙ (λ k. let knows : Knowledge = knew view view h.was k in record {
          seen_words = append-nil knows.seen_words k;
          hold = knows.hold;
          mine = mine_left knows.mine k;
          seen = knows.seen;
          stored = append-nil knows.stored k;
          known = append-nil knows.known k;
        })

    holdings_left : holdings_at next id ≡ view.row.holdings
    holdings_left =
        let change : Holding → Holding = as_rescue chunk (item_at m.state chunk) in
        get_or-set_same m.state.holdings id (change_each (is_copy_of chunk) change (holdings_at m.state id)) [] (holding_rows view h.was)
        ∙ (no_copies chunk change (holdings_at m.state id) none_there ∙ holdings_were view view h.was)

    -- all that the hand has then
    pub condemned_view : now ≡ told
    condemned_view =
        h.is
        ∙ view_from view h.was _ after refl view.row.holdings holdings_left
        (view.row.looks ++ Condemned chunk (head_after_condemn head) ∷ [])
        (get_or-set_same m.state.looks id (looks_at m.state id ++ Condemned chunk (head_after_condemn (head_at m.state chunk)) ∷ []) [] (rows view now h.was)
        ∙ ap₂ (λ (looks : List Look) (head : Head). looks ++ Condemned chunk (head_after_condemn head) ∷ []) (looks_were view now h.was) is)
        told.row.knows knows_left view.slabs (slabs_were view view h.was) (slice_set view.stripes stripe (Some left)) stripes_left

  -- what the item is
  module _ (was : LawfulView view) (tag : (head_at was.moment.state chunk).tag ≡ Linked) where
    abbrev item : List ℕ
    item = item_at was.moment.state chunk

    entry : IsEntry was.moment.state.table was.moment.state.slabs was.moment.state.heads was.moment.state.words (key_at was.moment.state chunk) (word_at was.moment.state chunk 1) chunk
    entry = entry_of was.moment was.lawful (key_at was.moment.state chunk) (chunk, word_at was.moment.state chunk 1) (was.lawful.indexed.linked chunk (near_there was) tag)

    item_long : length item ≡ 3 + word_at was.moment.state chunk 2
    item_long = let fits = entry.fits in length-map-range_with_len (word_at was.moment.state chunk) 0 (min (3 + word_at was.moment.state chunk 2) (chunk_room was.moment.state chunk)) ∙ omega arith

    pub item_whole : length item ≡ length_of_item item
    item_whole = item_long ∙ ap (λ (n : ℕ). 3 + n) (sym (item_word was.moment.state chunk 2 (omega arith) entry.fits))

    pub item_key : key_of item ≡ key
    item_key = item_word was.moment.state chunk 0 (omega arith) entry.fits ∙ key_is was

    pub item_stamp : stamp_in_words item ≡ word_at was.moment.state chunk 1
    item_stamp = item_word was.moment.state chunk 1 (omega arith) entry.fits

    -- what was read of it is so still
    pub item_read : (place word : ℕ) → fold (last_read chunk place) None view.row.looks ≡ Some word → place < length item → slice_index item place ≡ word
    item_read place word read in_range =
        let held = slabs_here view was slabs has.mine in
        let still = (was.lawful.seen was.hand held.0).read_words chunk place word (near_there was) (ap (λ (looks : List Look). fold (last_read chunk place) None looks) (looks_here view was) ∙ read) in
        let long = item_long in
        let fits = entry.fits in
        get_or-map-range_with_len (word_at was.moment.state chunk) 0 (min (3 + word_at was.moment.state chunk 2) (chunk_room was.moment.state chunk)) place place 0 (omega arith) (zero-add place) ∙ still.same

  -- what the hand knows where it has a copy
  module _ (copies : has_copy view.row.holdings chunk ≡ true) (now : View) (head : Head) (h : Happens view [] (core.Condemn chunk) now) (is : head_at h.was.moment.state chunk ≡ head) where
    abbrev mc : Moment
    mc = h.was.moment

    abbrev hand : ℕ
    hand = h.was.hand

    abbrev lifted : ReadyStripe
    lifted = record value { state = after_lift value.state key }

    abbrev then_state : State
    then_state = after_condemn mc.state hand chunk

    abbrev told_stripe : ReadyStripe
    told_stripe = stripe_condemned (stripe_at mc.state (stripe_of mc.state (key_at mc.state chunk))) (has_copy (holdings_at mc.state hand) chunk) (writer_of mc.state hand) (key_at mc.state chunk)

    told_lifted : told_stripe ≡ lifted
    told_lifted = λ k. stripe_condemned (value_is h.was k) ((ap (λ (holdings : List Holding). has_copy holdings chunk) (holdings_here view h.was) ∙ copies) k) (writer_of mc.state hand) (key_is h.was k)

    lifted_here : stripe_at then_state stripe ≡ lifted
    lifted_here =
        ap (λ (i : ℕ). slice_index_or (slice_set mc.state.stripes i told_stripe) stripe new_stripe) (stripe_is h.was)
        ∙ (get_or-set_same mc.state.stripes stripe told_stripe new_stripe (let in_range = stripe_near view stripe value has.held h.was in let count = h.was.stripes in omega arith) ∙ told_lifted)

    lifted_other : (i : ℕ) → i ≢ stripe → stripe_at then_state i ≡ stripe_at mc.state i
    lifted_other i apart =
        ap (λ (j : ℕ). slice_index_or (slice_set mc.state.stripes j told_stripe) i new_stripe) (stripe_is h.was)
        ∙ get_or-set_other mc.state.stripes stripe i told_stripe new_stripe apart

    stripes_lifted : held_stripes view.setup then_state hand ≡ slice_set view.stripes stripe (Some lifted)
    stripes_lifted =
        let held = stripe_here view stripe value has.held h.was in
        stripes_set view.setup mc.state then_state hand stripe (Some lifted) (stripe_near view stripe value has.held h.was) ((λ k. if held.0 k then Some (lifted_here k) else None))
        (λ i apart. ap (λ (v : ReadyStripe). if has_stripe mc.state hand i then Some v else None) (lifted_other i apart))
        ∙ ap (λ (all : List (Option ReadyStripe)). slice_set all stripe (Some lifted)) (stripes_were view view h.was)

    -- that is no call
    histories_same : (i : ℕ) → history_at then_state i ≡ history_at mc.state i
    histories_same i = elim (cases_eq i stripe) [
      | inl same ↦
          ap (history_at then_state) same
          ∙ (ap (λ (v : ReadyStripe). v.state.history) lifted_here ∙ (ap (λ (v : ReadyStripe). v.state.history) (sym (stripe_here view stripe value has.held h.was).1) ∙ ap (history_at mc.state) (sym same)))
      | inr apart ↦ ap (λ (v : ReadyStripe). v.state.history) (lifted_other i apart)
    ]

    abbrev then_moment : Moment
    then_moment = moment_stepped mc hand (core.Condemn chunk)

    knows_lifted : knowledge_at then_moment.past hand ≡ view.row.knows
    knows_lifted =
        are_learned.steps mc hand (core.Condemn chunk) (may_step h) (λ kept spent e. absurd (cc))
        ∙ (λ k. let knows : Knowledge = knew view view h.was k in record {
          seen_words = append-nil knows.seen_words k;
          hold = knows.hold;
          mine = mine_alike mc.state then_state histories_same hand knows.mine k;
          seen = knows.seen;
          stored = append-nil knows.stored k;
          known = append-nil knows.known k;
        })

    abbrev bound : Holding → Holding
    bound = as_rescue chunk (item_at mc.state chunk)

    holdings_bound : holdings_at then_state hand ≡ change_each (is_copy_of chunk) bound view.row.holdings
    holdings_bound =
        get_or-set_same mc.state.holdings hand (change_each (is_copy_of chunk) bound (holdings_at mc.state hand)) [] (holding_rows view h.was)
        ∙ ap (change_each (is_copy_of chunk) bound) (holdings_were view view h.was)

    pub original_view : now ≡ original_condemned stripe value key chunk (item_at mc.state chunk) head view
    original_view =
        h.is
        ∙ view_from view h.was _ then_moment refl (change_each (is_copy_of chunk) bound view.row.holdings) holdings_bound
        (view.row.looks ++ Condemned chunk (head_after_condemn head) ∷ [])
        (get_or-set_same mc.state.looks hand (looks_at mc.state hand ++ Condemned chunk (head_after_condemn (head_at mc.state chunk)) ∷ []) [] (rows view now h.was)
        ∙ ap₂ (λ (looks : List Look) (head : Head). looks ++ Condemned chunk (head_after_condemn head) ∷ []) (looks_were view now h.was) is)
        view.row.knows knows_lifted view.slabs (slabs_were view view h.was) (slice_set view.stripes stripe (Some lifted)) stripes_lifted

-- a copy that is bound is fresh still
bound_fresh : (chunk : ChunkId) (item : List ℕ) (kind : Kind) (holding : Holding) → holding.kind ≡ kind → is_copy_kind chunk kind ≡ true → is_fresh_kind kind ≡ true
bound_fresh chunk item (Fresh purpose words) holding is copy = refl
bound_fresh chunk item (Reference words) holding is copy = absurd (cc)

pub bound_count : (chunk : ChunkId) (item : List ℕ) (holdings : List Holding) → fresh_count (change_each (is_copy_of chunk) (as_rescue chunk item) holdings) ≡ fresh_count holdings
bound_count chunk item [] = refl
bound_count chunk item (holding ∷ holdings) = elim (cases_Bool (is_copy_of chunk holding)) [
  | inl copy ↦
      let here : truth (is_fresh holding) ≡ 1 = ap truth (bound_fresh chunk item holding.kind holding refl copy) in
      let same = ap (λ (b : Bool). truth (is_fresh (if b then as_rescue chunk item holding else holding))) copy in
      let rest = bound_count chunk item holdings in
      omega arith
  | inr other ↦
      let same = ap (λ (b : Bool). truth (is_fresh (if b then as_rescue chunk item holding else holding))) other in
      let rest = bound_count chunk item holdings in
      omega arith
]

pub bound_length : (chunk : ChunkId) (item : List ℕ) (holdings : List Holding) → length (change_each (is_copy_of chunk) (as_rescue chunk item) holdings) ≡ length holdings
bound_length chunk item holdings = length-map holdings (λ holding. if is_copy_of chunk holding then as_rescue chunk item holding else holding)
