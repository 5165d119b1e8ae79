-- Each event keeps the histories those of the hands.
use Rattle.std.proofs.Common.{◌≡◌, ◌⊎◌, ℕ, zero, suc, ◌+◌, ◌/◌, ◌%◌, ◌^◌, ◌<◌, ◌==◌, true, false, cond, List, [], ◌∷◌, length, map, Option, Some, None, refl, sym, ap, ◌∙◌, subst, slice_set, slice_get, slice_index_or, is_some, unwrap_or, nat_le, All, Contains, inl, inr, arith, add-zero, mod-lt, length-set, get_or-set_same, get_or-take}
use Rattle.std.proofs.lemmas.Bool.{cases_lt}
use Rattle.std.proofs.lemmas.Option.{get_or_from_slice_get}
use Rattle.std.proofs.lemmas.List.{append-nil, get_or_past}
use Rattle.std.proofs.lemmas.List.Elements.{All-nil, All-cons, All-set, All-weaker, All-get_or, Contains-push}
use Rattle.mc_pages.specs.declared.ids.ChunkId.{ChunkId}
use Rattle.mc_stripe.specs.declared.history.Call.{Call}
use Rattle.mc_stripe.specs.declared.history.Call.TheVariants.{Set}
use Rattle.mc_pages.specs.Accounted.{truth}
use Rattle.mc_stripe.specs.StripeState.{ReadyStripe, new_stripe}
use Rattle.mc_stripe.specs.Changes.{after_link, used_up}
use Rattle.mc_core.specs.declared.event.Step.{Step}
use Rattle.mc_core.specs.declared.event.Step.TheVariants as step
use Rattle.mc_core.specs.declared.holding.Holding.{Holding}
use Rattle.mc_core.specs.model.Holdings.{Words, known_key, stamp_in, words_of_item, item_length, holding_of, numbers_of_known, holding_words}
use Rattle.mc_core.specs.model.State.{State, number_at, is_hand, stripe_at, stripe_of, ids_at, holdings_at}
use Rattle.mc_core.specs.run.Silent.{writer_of, after_change}
use Rattle.mc_core.specs.past.Past.{Past, Moment, Own, StoredItem, own_after, with_calls, with_more, items_stored_by_step, seen_after, history_at, longer_each, moment_stepped}
use Rattle.mc_core.specs.model.Columns.{Each}
use Rattle.mc_core.specs.law.Identities.{count_in_hands, stored_times, stored_count, AreNumbered}
use Rattle.mc_core.specs.law.Indexed.{stripe_for}
use Rattle.mc_core.specs.law.Histories.{hand_of, IsStored, AreRecorded}
use Rattle.mc_core.specs.law.Lawful.{RecordedIn}
use Rattle.mc_core.specs.law.Laws.{MayStep, ChangesKeep, StepsKeep}
use Rattle.mc_core.specs.run.Run.{after_step}
use Rattle.mc_core.proofs.Steps.Base.{each_map}
use Rattle.mc_core.proofs.Histories.Grown.{history_in}
use Rattle.mc_core.proofs.Known.Learned.{is_join, learned_is, same_numbers}
use Rattle.mc_core.proofs.Histories.LinkKinds as link
use Rattle.mc_core.proofs.Hands.MoreRows.{row_of, each_more, each_joined, joined_rows}
use Rattle.mc_core.proofs.Hands.NumberedSteps.{hand_within, join_facts}
use Rattle.mc_core.proofs.Histories.StripesKept.{get_set}
use Rattle.mc_core.proofs.Histories.ToldBy.{MayTell, own_stamp, told_by_change, told_by_step}
use Rattle.mc_core.proofs.Histories.ToldKept.{grown_told, set_count_told, IsBegun, begun_grown, stored_grown, sets_grown, writers_grown, IsOwnIn, one_owner, own_calls_grown}
use Rattle.mc_core.proofs.Counts.Totals.{total_more, total_joined, said_total, owned_total}
use Rattle.mc_core.proofs.ItemWords.Numbers.{numbers_at}

-- the number of a hand that is there is what it writes
number_is : (state : State) (hand : ℕ) (number : Option ℕ) → number_at state hand ≡ number → is_some number ≡ true → number_at state hand ≡ Some (writer_of state hand)
number_is state hand None is there = absurd (cc)
number_is state hand (Some number) is there = is ∙ ap Some (sym (ap (λ (o : Option ℕ). unwrap_or o 0) is))

-- what the histories say after one telling
told_next : (m : Moment) (hand : ℕ) (after : State) (more : List StoredItem) (seen' : List (List (List Call))) (said' : List (List StoredItem)) → RecordedIn m → AreNumbered m.state.ids m.past.mine m.past.stored m.past.known → length m.past.mine ≡ length m.state.ids
    → is_hand m.state hand ≡ true → MayTell m.state after.stripes hand more → All (IsBegun after.stripes) seen' → ((stamp : ℕ) → stored_count stamp said' ≡ stored_count stamp m.past.stored + stored_times stamp more)
    → Each (IsStored after.stripes) said' → AreRecorded after.stripes (with_calls m.state after m.past hand).mine seen' said'
told_next m hand after more seen' said' l numbered rows there told begun counts stored =
    let writer = writer_of m.state hand in
    let number = number_is m.state hand (number_at m.state hand) refl there in
    let g = grown_told m.state after.stripes hand more told in
    let mine' = (with_calls m.state after m.past hand).mine in
    let same = same_numbers m.state after m.past hand in
    let within = hand_within m.state.ids hand there in
    record {
      own_calls = subst (λ (n : Option ℕ). Each (IsOwnIn after.stripes) (slice_set m.past.mine hand (map (own_after m.state after n) (row_of m.past.mine hand)))) (sym number)
          (own_calls_grown m.state after hand writer m.state.ids m.past.mine m.past.stored m.past.known numbered number g (omega (arith, within, rows)) l.own_calls);
      begun = begun;
      writers = writers_grown writer m.state.stripes after.stripes g m.past.mine mine' same (one_owner m.state after hand writer m.state.ids m.past.mine m.past.stored m.past.known numbered number g) l.writers;
      sets = sets_grown writer m.state.stripes after.stripes g l.sets;
      stored_once = λ stamp. set_count_told m.state after.stripes hand more stamp told ∙ ap (λ n. n + stored_times stamp more) (l.stored_once stamp) ∙ sym (counts stamp);
      stored = stored;
    }

pub told_changes : ChangesKeep RecordedIn
told_changes m hand change may =
    let after = after_change m.state hand change in
    let told = told_by_change m.state hand may.lawful.legal change may.allowed in
    let g = grown_told m.state after.stripes hand [] told in
    let l = may.lawful.told in
    told_next m hand after [] m.past.seen m.past.stored l may.lawful.numbered may.lawful.rows.mine may.there told
    (All-weaker (IsBegun m.state.stripes) (IsBegun after.stripes) (begun_grown (writer_of m.state hand) m.state.stripes after.stripes g) m.past.seen l.begun)
    (λ stamp. sym (add-zero (stored_count stamp m.past.stored)))
    (each_map (IsStored m.state.stripes) (IsStored after.stripes) m.past.stored (stored_grown (writer_of m.state hand) m.state.stripes after.stripes g) l.stored)

-- a step by which the hand alone learns
alone : (m : Moment) (hand : ℕ) (next : Step) → is_join next ≡ false → MayStep m hand next → IsBegun (after_step m.state hand next).stripes (seen_after m.state next (slice_index_or m.past.seen hand []))
    → All (IsStored (after_step m.state hand next).stripes) (items_stored_by_step m.state hand next) → RecordedIn (moment_stepped m hand next)
alone m hand next is_alone may begun stored =
    let after = after_step m.state hand next in
    let more = items_stored_by_step m.state hand next in
    let told = told_by_step m.state hand may.lawful.legal next may.allowed in
    let g = grown_told m.state after.stripes hand more told in
    let writer = writer_of m.state hand in
    let l = may.lawful.told in
    let within = hand_within m.state.ids hand may.there in
    let said_within : hand < length m.past.stored = omega (arith, within, may.lawful.rows.stored) in
    let seen' = slice_set m.past.seen hand (seen_after m.state next (slice_index_or m.past.seen hand [])) in
    let said' = with_more m.past.stored hand more in
    subst (λ (p : Past). AreRecorded after.stripes p.mine p.seen p.stored) (sym (learned_is m.state after m.past hand next is_alone))
    (told_next m hand after more seen' said' l may.lawful.numbered may.lawful.rows.mine may.there told
    (All-set (IsBegun after.stripes) m.past.seen hand (seen_after m.state next (slice_index_or m.past.seen hand [])) begun
    (All-weaker (IsBegun m.state.stripes) (IsBegun after.stripes) (begun_grown writer m.state.stripes after.stripes g) m.past.seen l.begun))
    (λ stamp. said_total stamp said' ∙ total_more (λ (s : StoredItem). truth (s.stamp == stamp)) m.past.stored hand more said_within ∙ ap (λ n. n + stored_times stamp more) (sym (said_total stamp m.past.stored)))
    (each_more (IsStored after.stripes) m.past.stored hand more
    (each_map (IsStored m.state.stripes) (IsStored after.stripes) m.past.stored (stored_grown writer m.state.stripes after.stripes g) l.stored) stored))

begun_nothing : (stripes : List ReadyStripe) → IsBegun stripes []
begun_nothing stripes stripe calls value at is = absurd (cc)

-- what a hand saw
pub begun_row : (stripes : List ReadyStripe) (seen : List (List (List Call))) (hand : ℕ) → All (IsBegun stripes) seen → IsBegun stripes (slice_index_or seen hand [])
begun_row stripes seen hand all = elim (cases_lt hand (length seen)) [
  | inl within ↦ All-get_or (IsBegun stripes) seen hand [] within all
  | inr past ↦ subst (IsBegun stripes) (sym (get_or_past seen hand [] past)) (begun_nothing stripes)
]

-- and it sees one whole history
begun_seen : (state : State) (row : List (List Call)) (at : ℕ) → IsBegun state.stripes row → IsBegun state.stripes (slice_set row at (history_at state at))
begun_seen state row at begun stripe calls value is there = elim (get_set row at stripe (history_at state at) calls is) [
  | inl both ↦ ([], sym (ap (λ (v : ReadyStripe). v.state.history) (get_or_from_slice_get state.stripes stripe value new_stripe there)) ∙ ap (λ s. history_at state s) (sym both.0) ∙ both.1 ∙ sym (append-nil calls))
  | inr else ↦ begun stripe calls value else.1 there
]

quiet : (m : Moment) (hand : ℕ) (next : Step) → is_join next ≡ false → seen_after m.state next (slice_index_or m.past.seen hand []) ≡ slice_index_or m.past.seen hand [] → items_stored_by_step m.state hand next ≡ [] → MayStep m hand next → RecordedIn (moment_stepped m hand next)
quiet m hand next is_alone same stores_nothing may =
    let after = after_step m.state hand next in
    let told = told_by_step m.state hand may.lawful.legal next may.allowed in
    let g = grown_told m.state after.stripes hand (items_stored_by_step m.state hand next) told in
    alone m hand next is_alone may
    (subst (IsBegun after.stripes) (sym same) (begun_grown (writer_of m.state hand) m.state.stripes after.stripes g (slice_index_or m.past.seen hand []) (begun_row m.state.stripes m.past.seen hand may.lawful.told.begun)))
    (subst (All (IsStored after.stripes)) (sym stores_nothing) (All-nil (IsStored after.stripes)))

-- the key of an item is that of its words
key_of_item : (words : Words) → known_key (words_of_item words) ≡ known_key words
key_of_item words = ap (λ (o : Option ℕ). unwrap_or o 0) (get_or-take (item_length words) words 0 None (omega arith))

-- a new item is stored under its key
stored_new : (m : Moment) (hand : ℕ) (chunk : ChunkId) (holding : Holding) → MayStep m hand (step.Link chunk)
    → link.IsStored m.state hand chunk holding (after_step m.state hand (step.Link chunk)) (items_stored_by_step m.state hand (step.Link chunk))
    → All (IsStored (after_step m.state hand (step.Link chunk)).stripes) (items_stored_by_step m.state hand (step.Link chunk))
stored_new m hand chunk holding may is =
    let stamp = stamp_in (holding_words holding) in
    let key = known_key (holding_words holding) in
    let at = stripe_of m.state key in
    let old = (stripe_at m.state at).state in
    let writer = writer_of m.state hand in
    let value : ReadyStripe = used_up (after_link old writer key holding.chunk stamp) in
    let s : StoredItem = record { stamp = stamp; words = numbers_of_known (words_of_item (holding_words holding)) } in
    let stripes = slice_set m.state.stripes at value in
    let some = may.lawful.legal.some in
    let within : at < length m.state.stripes = mod-lt key some in
    let here : (stripe_for stripes key).state.history ≡ value.state.history =
    ap (λ n. history_in stripes (key % n)) (length-set m.state.stripes at value) ∙ ap (λ (v : ReadyStripe). v.state.history) (get_or-set_same m.state.stripes at value new_stripe within) in
    let own : stamp / 2 ^ 48 ≡ writer = own_stamp (ids_at m.state hand) stamp is.next in
    let set : Contains value.state.history (Set writer key stamp) = Contains-push old.history (Set writer key stamp) in
    let stored : IsStored stripes s =
    rw (numbers_at (words_of_item (holding_words holding)) 0 ∙ key_of_item (holding_words holding), own) (subst (λ (calls : List Call). Contains calls (Set writer key stamp)) (sym here) set) in
    subst (λ (xs : List ReadyStripe). All (IsStored xs) (items_stored_by_step m.state hand (step.Link chunk))) (sym is.stripes)
    (subst (All (IsStored stripes)) (sym is.says) (All-cons (IsStored stripes) s [] stored (All-nil (IsStored stripes))))

linked : (m : Moment) (hand : ℕ) (chunk : ChunkId) → MayStep m hand (step.Link chunk) → RecordedIn (moment_stepped m hand (step.Link chunk))
linked m hand chunk may =
    let after = after_step m.state hand (step.Link chunk) in
    let kind = link.link_kind m.state hand chunk (holding_of chunk (holdings_at m.state hand)) may.allowed in
    elim kind.2 [
      | inl is ↦
          let told = told_by_step m.state hand may.lawful.legal (step.Link chunk) may.allowed in
          let g = grown_told m.state after.stripes hand (items_stored_by_step m.state hand (step.Link chunk)) told in
          alone m hand (step.Link chunk) refl may
          (begun_grown (writer_of m.state hand) m.state.stripes after.stripes g (slice_index_or m.past.seen hand []) (begun_row m.state.stripes m.past.seen hand may.lawful.told.begun))
          (stored_new m hand chunk kind.0 may is)
      | inr is ↦ quiet m hand (step.Link chunk) refl refl is.says may
    ]

-- the longer of two beginnings
longer_of : (xs ys : List (List Call)) (stripe : ℕ) (calls : List Call) → slice_get (longer_each xs ys) stripe ≡ Some calls → (slice_get xs stripe ≡ Some calls) ⊎ (slice_get ys stripe ≡ Some calls)
longer_of [] ys stripe calls is = inr is
longer_of (x ∷ xs) [] stripe calls is = inl is
longer_of (x ∷ xs) (y ∷ ys) zero calls is =
    elim (nat_le (length y) (length x)) as (λ b. Some (cond b x y) ≡ Some calls → (Some x ≡ Some calls) ⊎ (Some y ≡ Some calls)) [ true ↦ λ e. inl e | false ↦ λ e. inr e ] is
longer_of (x ∷ xs) (y ∷ ys) (suc stripe) calls is = longer_of xs ys stripe calls is

begun_longer : (stripes : List ReadyStripe) (xs ys : List (List Call)) → IsBegun stripes xs → IsBegun stripes ys → IsBegun stripes (longer_each xs ys)
begun_longer stripes xs ys p q stripe calls value at is = elim (longer_of xs ys stripe calls at) [ inl e ↦ p stripe calls value e is | inr e ↦ q stripe calls value e is ]

join : (m : Moment) (hand kept spent : ℕ) → MayStep m hand (step.Join kept spent) → RecordedIn (moment_stepped m hand (step.Join kept spent))
join m hand kept spent may =
    let l = may.lawful.told in
    let facts = join_facts m hand kept spent may in
    let rows = may.lawful.rows in
    let stripes = m.state.stripes in
    let owned : (number : ℕ) → count_in_hands number (joined_rows m.past.mine kept spent) ≡ count_in_hands number m.past.mine = λ number.
    owned_total number (joined_rows m.past.mine kept spent)
    ∙ (total_joined (λ (own : Own). truth (own.number == number)) m.past.mine kept spent facts.0 (omega (arith, facts.1, rows.mine)) (omega (arith, facts.2, rows.mine)) ∙ sym (owned_total number m.past.mine)) in
    let counted : (stamp : ℕ) → stored_count stamp (joined_rows m.past.stored kept spent) ≡ stored_count stamp m.past.stored = λ stamp.
    said_total stamp (joined_rows m.past.stored kept spent)
    ∙ (total_joined (λ (s : StoredItem). truth (s.stamp == stamp)) m.past.stored kept spent facts.0 (omega (arith, facts.1, rows.stored)) (omega (arith, facts.2, rows.stored)) ∙ sym (said_total stamp m.past.stored)) in
    let seen_of = λ (h : ℕ). begun_row stripes m.past.seen h l.begun in
    record {
      own_calls = each_joined (IsOwnIn stripes) m.past.mine kept spent l.own_calls;
      begun = All-set (IsBegun stripes) _ spent [] (begun_nothing stripes) (All-set (IsBegun stripes) m.past.seen kept _ (begun_longer stripes _ _ (seen_of kept) (seen_of spent)) l.begun);
      writers = All-weaker (λ (value : ReadyStripe). All (λ call. count_in_hands (hand_of call) m.past.mine ≡ 1) value.state.history) (λ (value : ReadyStripe). All (λ call. count_in_hands (hand_of call) (joined_rows m.past.mine kept spent) ≡ 1) value.state.history)
          (λ value all. All-weaker (λ call. count_in_hands (hand_of call) m.past.mine ≡ 1) (λ call. count_in_hands (hand_of call) (joined_rows m.past.mine kept spent) ≡ 1) (λ call is. owned (hand_of call) ∙ is) value.state.history all) stripes l.writers;
      sets = l.sets;
      stored_once = λ stamp. l.stored_once stamp ∙ sym (counted stamp);
      stored = each_joined (IsStored stripes) m.past.stored kept spent l.stored;
    }

pub told_steps : StepsKeep RecordedIn
told_steps m hand step.TakeSlabs may = quiet m hand step.TakeSlabs refl refl refl may
told_steps m hand (step.TakeStripe stripe) may =
    alone m hand (step.TakeStripe stripe) refl may (begun_seen m.state _ stripe (begun_row m.state.stripes m.past.seen hand may.lawful.told.begun)) (All-nil (IsStored m.state.stripes))
told_steps m hand step.MissSlabs may = quiet m hand step.MissSlabs refl refl refl may
told_steps m hand (step.MissStripe stripe) may = quiet m hand (step.MissStripe stripe) refl refl refl may
told_steps m hand step.GiveSlabs may = quiet m hand step.GiveSlabs refl refl refl may
told_steps m hand (step.GiveStripe stripe) may =
    alone m hand (step.GiveStripe stripe) refl may (begun_seen m.state _ stripe (begun_row m.state.stripes m.past.seen hand may.lawful.told.begun)) (All-nil (IsStored m.state.stripes))
told_steps m hand (step.Head chunk) may = quiet m hand (step.Head chunk) refl refl refl may
told_steps m hand (step.Pop class) may = quiet m hand (step.Pop class) refl refl refl may
told_steps m hand (step.PopOff old) may = quiet m hand (step.PopOff old) refl refl refl may
told_steps m hand (step.Fill chunk place word) may = quiet m hand (step.Fill chunk place word) refl refl refl may
told_steps m hand (step.Word chunk place) may = quiet m hand (step.Word chunk place) refl refl refl may
told_steps m hand (step.WordHeld chunk place) may = quiet m hand (step.WordHeld chunk place) refl refl refl may
told_steps m hand (step.Link chunk) may = linked m hand chunk may
told_steps m hand (step.Refer key) may = quiet m hand (step.Refer key) refl refl refl may
told_steps m hand (step.Unlink key) may = quiet m hand (step.Unlink key) refl refl refl may
told_steps m hand (step.Release chunk) may = quiet m hand (step.Release chunk) refl refl refl may
told_steps m hand (step.Discard chunk) may = quiet m hand (step.Discard chunk) refl refl refl may
told_steps m hand (step.Condemn chunk) may = quiet m hand (step.Condemn chunk) refl refl refl may
told_steps m hand (step.PutBack chunk) may = quiet m hand (step.PutBack chunk) refl refl refl may
told_steps m hand (step.Clear chunk) may = quiet m hand (step.Clear chunk) refl refl refl may
told_steps m hand (step.Cut page index) may = quiet m hand (step.Cut page index) refl refl refl may
told_steps m hand (step.Again chunk issue) may = quiet m hand (step.Again chunk issue) refl refl refl may
told_steps m hand (step.Join kept spent) may = join m hand kept spent may
