-- An item that is linked: what the core allows of a hand that filled it and has its key's stripe, and what it knows then.
use Rattle.std.proofs.Common.{◌≡◌, ◌≢◌, ℕ, ◌+◌, ◌*◌, ◌/◌, ◌%◌, ◌^◌, ◌<◌, ◌≤◌, true, false, ◌&&◌, ◌||◌, List, [], ◌∷◌, ◌++◌, length, Option, Some, None, IfSome, Contains, ◌==◌, eqb-true, leb-true, inl, inr, is_none, refl, sym, ap, subst, ◌∙◌, arith, unwrap_or, nat_lt, nat_eq, eq-eqb, ltb-true, length-set, slice_set, slice_index, slice_index_or, get_or-set_same, get_or-set_other, if◌then◌else◌, append-nil}
use Rattle.std.specs.Option.{option_eq, option_map, option_map_or}
use Rattle.std.proofs.lemmas.List.Elements.{Contains-push}
use Rattle.std.proofs.lemmas.Bool.{and_from, and_parts, cases_Bool}
use Rattle.std.proofs.lemmas.Nat.{div-mul-add, mod-mul-add}
use Rattle.mc_pages.specs.declared.ids.ChunkId.{ChunkId}
use Rattle.mc_stripe.specs.declared.history.Call.TheVariants.{Set}
use Rattle.mc_stripe.specs.StripeState.{ReadyStripe, StripeState, key_aside, chunk_and_stamp, new_stripe, can_store}
use Rattle.mc_stripe.specs.Changes.{after_link, used_up}
use Rattle.mc_core.specs.declared.head.Head.{Head}
use Rattle.mc_core.specs.declared.holding.Holding.{Holding}
use Rattle.mc_core.specs.declared.ids.Ids.{Ids}
use Rattle.mc_core.specs.declared.event.Step.TheVariants as core
use Rattle.mc_core.specs.model.Head.{decode, is_unlinked}
use Rattle.mc_core.specs.model.Holdings.{Words, has_whole_item, holding_of, is_of_chunk, words_of_item, known_key, without_first, numbers_of_known, stamp_in, word_in}
use Rattle.mc_core.specs.model.State.{State, no_ids, is_held_by, has_stripe, head_at, head_place, holdings_at, ids_at, looks_at, number_at, chunk_room, stripe_at, stripe_of, without_holding}
use Rattle.mc_core.specs.run.Silent.{writer_of}
use Rattle.mc_core.specs.run.Items as items
use Rattle.mc_core.specs.run.Items.{after_link_of, can_link, can_link_holding, is_next_stamp, is_none_else_aside, head_after_link, most_stamps, ids_after_stamp}
use Rattle.mc_core.specs.model.Codes.{word_plus, FitsBits}
use Rattle.mc_core.specs.past.Past.{Moment, Knowledge, Own, history_at, knowledge_at, known_by, known_of_holding, moment_stepped, own_calls_after, item_stored_by_link}
use Rattle.mc_core.specs.model.Views.{held_slabs}
use Rattle.mc_core.proofs.ItemWords.Codes.{all_are_sums}
use Rattle.mc_core.proofs.Known.Learns.{are_learned}
use Rattle.mc_core.proofs.Seen.SeenQuiet.{held_handed_out}
use Rattle.mc_words.specs.hand.View.{View, held_stripes, made}
use Rattle.mc_words.specs.rule.Layout.{head_word}
use Rattle.mc_words.specs.rule.Happens.{LawfulView, Happens, MayWrite}
use Rattle.mc_words.specs.item.Calls.{with_own_call}
use Rattle.mc_words.specs.item.Links.{IsItemFilled, item_linked, own_item}
use Rattle.mc_words.specs.item.References.{reference_to}
use Rattle.mc_words.specs.item.Items.{held_item}
use Rattle.mc_words.specs.item.Refs.{IsRefOf, IsIssueOf}
use Rattle.mc_words.specs.hand.Tallies.{next_stamp}
use Rattle.mc_words.proofs.Items.Calls.{mine_called}
use Rattle.mc_words.proofs.Items.GetsItems.{word_issue}
use Rattle.mc_words.proofs.Items.References.{is_ref, is_issue, is_item}
use Rattle.mc_words.proofs.Chunks.Heads.{AreAll, head_is, header_written, near_here}
use Rattle.mc_words.proofs.Locks.LockViews.{may_step, rows_there, stripes_set, holdings_were, looks_were, knew, slabs_were, stripes_were}
use Rattle.mc_words.proofs.Pages.Owners.{holdings_here, holding_near, fits_here, needless, room_is, summed}
use Rattle.mc_words.proofs.Pages.OwnerViews.{holding_rows}
use Rattle.mc_words.proofs.Rules.Quiet.{columns}
use Rattle.mc_words.proofs.Locks.StripeChanges.{stripe_near, stripe_here}

-- the next stamp is a stamp of the hand's number, one behind those that it gave out
next_is : (ids : Ids) (number stamp : ℕ) → ids.number ≡ Some number → next_stamp ids ≡ Some stamp → is_next_stamp ids stamp ≡ true
next_is ids number stamp numbered next = elim (cases_Bool (nat_lt ids.stamps most_stamps)) [
  | inl left ↦
      let below = ltb-true ids.stamps most_stamps left in
      let is : unwrap_or ids.number 0 * 2 ^ 48 + (ids.stamps + 1) ≡ stamp = same (ap (λ b. if b then Some (unwrap_or ids.number 0 * 2 ^ 48 + (ids.stamps + 1)) else None) (sym left) ∙ next) in
      let whose : unwrap_or ids.number 0 ≡ number = ap (λ (o : Option ℕ). unwrap_or o 0) numbered in
      let high : stamp / 2 ^ 48 ≡ number = ap (λ n. n / 2 ^ 48) (sym is) ∙ (div-mul-add (unwrap_or ids.number 0) (2 ^ 48) (ids.stamps + 1) (omega arith) ∙ whose) in
      let low : stamp % 2 ^ 48 ≡ ids.stamps + 1 = ap (λ n. n % 2 ^ 48) (sym is) ∙ mod-mul-add (unwrap_or ids.number 0) (2 ^ 48) (ids.stamps + 1) (omega arith) in
      and_from _ _ (and_from _ _ left ((λ k. option_eq nat_eq (numbered k) (Some (high k))) ∙ nat_same number)) (ap (λ n. nat_eq n (ids.stamps + 1)) low ∙ nat_same (ids.stamps + 1))
  | inr none ↦ absurd (none_some (ap (λ b. if b then Some (unwrap_or ids.number 0 * 2 ^ 48 + (ids.stamps + 1)) else None) (sym none) ∙ next))
]
  where
    same : {a b : ℕ} → Some a ≡ Some b → a ≡ b
    same e = cc

    none_some : {b : ℕ} → None ≡ Some b → ⊥
    none_some e = cc

    nat_same : (n : ℕ) → nat_eq n n ≡ true
    nat_same n = eq-eqb n n refl

-- the hand has the stripe of the key, with room for a call, and the key leads nowhere
pub record MayStore (view : View) (stripe : ℕ) (value : ReadyStripe) (key : ℕ) : Type 0 where
  pub mine : slice_index_or view.stripes stripe None ≡ Some value
  pub of_key : key % view.setup.config.stripes ≡ stripe
  pub room : can_store value ≡ true
  pub new : chunk_and_stamp value.state key ≡ None
  pub alone : is_none_else_aside value.state key ≡ true

module _ (view : View) (stripe : ℕ) (value : ReadyStripe) (key : ℕ) (may : MayStore view stripe value key) (was : LawfulView view) where
  abbrev s : State
  s = was.moment.state

  pub stripe_is : stripe_of s key ≡ stripe
  stripe_is = ap (λ n. key % n) was.stripes ∙ may.of_key

  pub value_is : stripe_at s (stripe_of s key) ≡ value
  value_is = ap (stripe_at s) stripe_is ∙ (stripe_here view stripe value may.mine was).1

-- an item is linked
pub may_link : (view : View) (stripe : ℕ) (value : ReadyStripe) (key stamp number : ℕ) (chunk : ChunkId) (issue : ℕ) (words : Words) → MayStore view stripe value key → IsItemFilled view chunk issue words key stamp → view.row.ids.number ≡ Some number → next_stamp view.row.ids ≡ Some stamp
    → MayWrite view (core.Link chunk) (head_word view.setup chunk) (word_plus 65537)
may_link view stripe value key stamp number chunk issue words may item numbered next was fits =
    let m = was.moment in
    let s : State = m.state in
    let word = slice_index was.words (head_word view.setup chunk) in
    let in_range = holding_near view was chunk (own_item chunk issue words) item.found refl in
    let here = near_here view chunk in_range was in
    let all = needless view was in
    let found : holding_of chunk (holdings_at s was.hand) ≡ Some (own_item chunk issue words) = ap (holding_of chunk) (holdings_here view was) ∙ item.found in
    let is : head_at s chunk ≡ decode word = head_is view chunk in_range was in
    let small : FitsBits (decode word) = subst FitsBits is (fits_here view was chunk in_range) in
    let most : (decode word).count ≤ 16385 = subst (λ (h : Head). h.count ≤ 16385) is (all.most chunk here) in
    let fresh = (all.fresh was.hand chunk (own_item chunk issue words) found refl).1 in
    let more : decode (word_plus 65537 word) ≡ head_after_link (head_at s chunk) =
    summed word fits head_after_link (word_plus 65537) ((all_are_sums (decode word) small).link (sym (ap (λ (h : Head). h.tag) is) ∙ fresh) (omega arith)) (record { issue = small.issue; count = omega arith }) ∙ ap head_after_link (sym is) in
    let at = stripe_is view stripe value key may was in
    let same = value_is view stripe value key may was in
    let has : has_stripe s was.hand (stripe_of s key) ≡ true = ap (has_stripe s was.hand) at ∙ (stripe_here view stripe value may.mine was).0 in
    let can_key : items.can_link_key s was.hand key ≡ true =
    and_from _ _ (and_from _ _ has (ap can_store same ∙ may.room)) (ap (λ (v : ReadyStripe). is_none (chunk_and_stamp v.state key)) same ∙ ap is_none may.new) in
    let ids : ids_at s was.hand ≡ view.row.ids = ap (λ (v : View). v.row.ids) (sym was.is) in
    let suits : is_next_stamp (ids_at s was.hand) stamp && is_none_else_aside (stripe_at s (stripe_of s key)).state key ≡ true =
    and_from _ _ (ap (λ i. is_next_stamp i stamp) ids ∙ next_is view.row.ids number stamp numbered next) (ap (λ (v : ReadyStripe). is_none_else_aside v.state key) same ∙ may.alone) in
    let tells : items.can_record_link s was.hand (own_item chunk issue words) ≡ true =
    (λ k. items.can_link_key s was.hand (item.same_key k) && (is_next_stamp (ids_at s was.hand) (item.same_stamp k) && is_none_else_aside (stripe_at s (stripe_of s (item.same_key k))).state (item.same_key k))) ∙ and_from _ _ can_key suits in
    let can : can_link s was.hand chunk ≡ true = ap (can_link_holding s was.hand chunk) found ∙ and_from _ _ (and_from _ _ (and_from _ _ item.complete tells) (ap is_unlinked fresh)) (all.room chunk here) in
    let after : columns (items.state_after_link s was.hand chunk) ≡ (s.slabs_lock, s.stripe_locks, slice_set s.heads (head_place s.table chunk) (head_after_link (head_at s chunk)), s.words) =
    ap (λ (o : Option Holding). columns (after_link_of (without_holding s was.hand (is_of_chunk chunk)) was.hand chunk o)) found in (
      can,
      subst (AreAll view.setup was.cuts (slice_set was.words (head_word view.setup chunk) (word_plus 65537 word))) (sym after) (header_written view chunk in_range was (word_plus 65537 word) (head_after_link (head_at s chunk)) more),
    )

-- what the hand has and knows after it linked the item
module _ (view : View) (stripe : ℕ) (value : ReadyStripe) (key stamp number : ℕ) (chunk : ChunkId) (issue : ℕ) (words : Words) (may : MayStore view stripe value key) (item : IsItemFilled view chunk issue words key stamp) (numbered : view.row.ids.number ≡ Some number) (now : View) (h : Happens view [] (core.Link chunk) now) where
  abbrev m : Moment
  m = h.was.moment

  abbrev id : ℕ
  id = h.was.hand

  -- the room of the chunk
  abbrev pub linked_room : ℕ
  linked_room = chunk_room m.state chunk

  abbrev stored : ReadyStripe
  stored = used_up (after_link value.state number key chunk stamp)

  abbrev next : State
  next = items.state_after_link m.state id chunk

  found : holding_of chunk (holdings_at m.state id) ≡ Some (own_item chunk issue words)
  found = ap (holding_of chunk) (holdings_here view h.was) ∙ item.found

  number_is : number_at m.state id ≡ Some number
  number_is = ap (λ (v : View). v.row.ids.number) (sym h.was.is) ∙ numbered

  writer : writer_of m.state id ≡ number
  writer = ap (λ o. unwrap_or o 0) number_is

  -- the state, with all that is known put in
  abbrev lost : State
  lost = without_holding m.state id (is_of_chunk chunk)

  next_is_of : next ≡ after_link_of lost id chunk (Some (own_item chunk issue words))
  next_is_of = ap (λ (o : Option Holding). after_link_of lost id chunk o) found

  key_at : stripe_of m.state (known_key words) ≡ stripe
  key_at = ap (stripe_of m.state) item.same_key ∙ stripe_is view stripe value key may h.was

  abbrev told_value : ReadyStripe
  told_value = used_up (after_link (stripe_at m.state (stripe_of m.state (known_key words))).state (writer_of m.state id) (known_key words) chunk (stamp_in words))

  told_is : told_value ≡ stored
  told_is = λ k. used_up (after_link ((ap (stripe_at m.state) key_at ∙ (stripe_here view stripe value may.mine h.was).1) k).state (writer k) (item.same_key k) chunk (item.same_stamp k))

  stored_here : stripe_at next stripe ≡ stored
  stored_here =
      ap (λ (s : State). stripe_at s stripe) next_is_of
      ∙ (ap (λ (i : ℕ). slice_index_or (slice_set m.state.stripes i told_value) stripe new_stripe) key_at
      ∙ (get_or-set_same m.state.stripes stripe told_value new_stripe (let in_range = stripe_near view stripe value may.mine h.was in let count = h.was.stripes in omega arith) ∙ told_is))

  stored_other : (i : ℕ) → i ≢ stripe → stripe_at next i ≡ stripe_at m.state i
  stored_other i apart =
      ap (λ (s : State). stripe_at s i) next_is_of
      ∙ (ap (λ (j : ℕ). slice_index_or (slice_set m.state.stripes j told_value) i new_stripe) key_at
      ∙ get_or-set_other m.state.stripes stripe i told_value new_stripe apart)

  ids_were : ids_at m.state id ≡ view.row.ids
  ids_were = ap (λ (v : View). v.row.ids) (sym h.was.is)

  ids_linked : ids_at next id ≡ ids_after_stamp view.row.ids
  ids_linked = ap (λ (s : State). ids_at s id) next_is_of ∙ (get_or-set_same m.state.ids id (ids_after_stamp (ids_at m.state id)) no_ids (rows_there view h.was) ∙ ap ids_after_stamp ids_were)

  number_stays : number_at next id ≡ number_at m.state id
  number_stays = ap (λ (i : Ids). i.number) ids_linked ∙ ap (λ (i : Ids). i.number) (sym ids_were)

  slabs_stay : held_slabs next id ≡ view.slabs
  slabs_stay =
      (λ k. if is_held_by (ap (λ (s : State). s.slabs_lock) next_is_of k) (number_stays k) then Some (ap (λ (s : State). s.slabs) next_is_of k) else None)
      ∙ slabs_were view view h.was

  stripes_stored : held_stripes view.setup next id ≡ slice_set view.stripes stripe (Some stored)
  stripes_stored =
      let locks : (i : ℕ) → has_stripe next id i ≡ has_stripe m.state id i = λ i k. is_held_by (slice_index (ap (λ (s : State). s.stripe_locks) next_is_of k) i) (number_stays k) in
      let held = stripe_here view stripe value may.mine h.was in
      stripes_set view.setup m.state next id stripe (Some stored) (stripe_near view stripe value may.mine h.was) ((λ k. if (locks stripe ∙ held.0) k then Some (stored_here k) else None))
      (λ i apart k. if locks i k then Some (stored_other i apart k) else None)
      ∙ ap (λ (all : List (Option ReadyStripe)). slice_set all stripe (Some stored)) (stripes_were view view h.was)

  -- the call came into the stripe's history
  history_stored : history_at next stripe ≡ history_at m.state stripe ++ Set number key stamp ∷ []
  history_stored =
      ap (λ (v : ReadyStripe). v.state.history) stored_here
      ∙ ap (λ (v : ReadyStripe). v.state.history ++ Set number key stamp ∷ []) (sym (stripe_here view stripe value may.mine h.was).1)

  mine_stored : (mine : List Own) → own_calls_after m.state next id mine ≡ Rattle.std.specs.Prelude.map (with_own_call number stripe (Set number key stamp)) mine
  mine_stored mine = mine_called m.state next stripe (Set number key stamp) history_stored (λ i apart. ap (λ (v : ReadyStripe). v.state.history) (stored_other i apart)) id number number_is mine

  abbrev after : Moment
  after = moment_stepped m id (core.Link chunk)

  abbrev told : View
  told = item_linked number stripe value key stamp chunk issue words linked_room view

  said_is : (item_stored_by_link (holding_of chunk (holdings_at m.state id))) ≡ record { stamp = stamp; words = numbers_of_known (words_of_item words) } ∷ []
  said_is = ap item_stored_by_link found ∙ ap (λ n. record { stamp = n; words = numbers_of_known (words_of_item words) } ∷ []) item.same_stamp

  knows_linked : knowledge_at after.past id ≡ told.row.knows
  knows_linked =
      are_learned.steps m id (core.Link chunk) (may_step h) (λ kept spent e. absurd (cc))
      ∙ (λ k. let knows : Knowledge = knew view view h.was k in record {
        seen_words = append-nil knows.seen_words k;
        hold = knows.hold;
        mine = mine_stored knows.mine k;
        seen = knows.seen;
        stored = knows.stored ++ said_is k;
        known = knows.known ++ known_of_holding linked_room (found k);
      })

  holdings_linked : holdings_at next id ≡ told.row.holdings
  holdings_linked =
      let lost_row = get_or-set_same m.state.holdings id (without_first (is_of_chunk chunk) (holdings_at m.state id)) [] (holding_rows view h.was) in
      let in_range : id < length lost.holdings = let in_range = holding_rows view h.was in let long = length-set m.state.holdings id (without_first (is_of_chunk chunk) (holdings_at m.state id)) in omega arith in
      ap (λ (s : State). holdings_at s id) next_is_of
      ∙ (get_or-set_same lost.holdings id (holdings_at lost id ++ reference_to chunk issue (numbers_of_known (words_of_item words)) ∷ []) [] in_range
      ∙ ap (λ (l : List Holding). l ++ reference_to chunk issue (numbers_of_known (words_of_item words)) ∷ []) (lost_row ∙ ap (without_first (is_of_chunk chunk)) (holdings_were view view h.was)))

  -- all that the hand has then
  pub linked_view : now ≡ told
  linked_view = h.is ∙ (λ k. record {
    setup = view.setup;
    spare = view.spare;
    events = view.events ++ made [] (core.Link chunk) ∷ [];
    row = record {
      ids = ids_linked k;
      holdings = holdings_linked k;
      looks = (ap (λ (s : State). looks_at s id) next_is_of ∙ looks_were view view h.was) k;
      knows = knows_linked k;
    };
    slabs = slabs_stay k;
    stripes = stripes_stored k;
    made_of = ap (λ (v : View). v.made_of) (sym h.was.is) k;
  })

  -- the chunk has the room of what fills it
  pub linked_room_is : linked_room ≡ length words
  linked_room_is =
      let long = fits_length words (and_parts _ _ item.complete).0 in
      room_is view chunk (own_item chunk issue words) 0 item.found refl (omega arith) h.was
    where
      fits_length : (words : Words) → has_whole_item words ≡ true → 3 ≤ length words
      fits_length words fit = let at = leb-true (3 + word_in words 2) (length words) fit in omega arith

  module _ (lawful : LawfulView now) where
    abbrev one : Holding
    one = reference_to chunk issue (numbers_of_known (words_of_item words))

    has : Contains now.row.holdings one
    has = subst (λ (v : View). Contains v.row.holdings one) (sym linked_view) (Contains-push (without_first (is_of_chunk chunk) view.row.holdings) one)

    knows : Contains now.row.knows.known (known_by linked_room one)
    knows = subst (λ (v : View). Contains v.row.knows.known (known_by linked_room one)) (sym linked_view) (Contains-push view.row.knows.known (known_by linked_room one))

    -- it refers to the item
    pub linked_ref : IsRefOf now chunk linked_room
    linked_ref = is_ref now lawful one linked_room refl has knows

    pub linked_issue : IsIssueOf now chunk issue
    linked_issue = is_issue now lawful one linked_room refl has knows

    -- which has the words that were filled
    pub linked_item : held_item now chunk ≡ numbers_of_known (words_of_item words)
    linked_item = is_item now lawful one linked_room refl has knows

  -- the issue number that the header had
  pub issue_was : (word : ℕ) → slice_index h.was.words (head_word view.setup chunk) ≡ word → word / 262144 ≡ issue
  issue_was word at =
      let in_range = holding_near view h.was chunk (own_item chunk issue words) item.found refl in
      let out = held_handed_out m h.was.lawful id chunk (own_item chunk issue words) found in
      sym (ap (λ (head : Head). head.issue) (head_is view chunk in_range h.was) ∙ (ap (λ (n : ℕ). (decode n).issue) at ∙ word_issue word)) ∙ out.1

-- where no other key is aside, one that is aside is this key
pub alone_from : (state : StripeState) (key : ℕ) → is_none_else_aside state key ≡ true → IfSome (key_aside state) (λ other. other ≡ key)
alone_from state key alone = by state.aside alone
  where
    by : (aside : Option (ℕ × (ChunkId × ℕ))) → (is_none aside || option_map_or (λ other. other == key) (option_map (λ entry. entry.0) aside) false) ≡ true → IfSome (option_map (λ entry. entry.0) aside) (λ other. other ≡ key)
    by None alone = tt
    by (Some entry) alone = eqb-true entry.0 key alone
