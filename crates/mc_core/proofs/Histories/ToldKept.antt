-- Histories that grow stay those of their hands: own calls, what was seen, writers, and what was stored.
use Rattle.std.proofs.Common.{◌≡◌, ◌≢◌, ℕ, zero, suc, ◌+◌, ◌/◌, ◌%◌, ◌^◌, ◌<◌, ◌≤◌, ◌==◌, true, false, List, [], ◌∷◌, ◌++◌, length, map, Some, refl, sym, ap, ◌∙◌, subst, slice_set, slice_get, slice_index_or, count_by, All, Contains, inl, inr, arith, add-zero, eq-eqb, ne_eqb}
use Rattle.std.proofs.lemmas.Bool.{cases_eq}
use Rattle.std.proofs.lemmas.Option.{get_or_from_slice_get, slice_get-get_or}
use Rattle.std.proofs.lemmas.List.{append_assoc}
use Rattle.std.proofs.lemmas.List.Elements.{All-append, All-map, All-weaker, All-get_or, All-from_get_or, All-contains, Contains-append_left}
use Rattle.std.proofs.lemmas.List.Sums.{sum_by-append}
use Rattle.mc_pages.specs.Accounted.{truth}
use Rattle.mc_stripe.specs.declared.history.Call.{Call}
use Rattle.mc_stripe.specs.declared.history.Call.TheVariants.{Set}
use Rattle.mc_stripe.specs.StripeState.{ReadyStripe, new_stripe}
use Rattle.mc_core.specs.declared.ids.Ids.{Ids}
use Rattle.mc_core.specs.model.State.{State}
use Rattle.mc_core.specs.run.Silent.{writer_of}
use Rattle.mc_core.specs.past.Past.{Own, StoredItem, KnownItem, own_after, calls_with_new}
use Rattle.mc_core.specs.model.Holdings.{key_of}
use Rattle.mc_core.specs.model.Columns.{Each}
use Rattle.mc_core.specs.law.Identities.{count_in_hand, count_in_hands, number_in, stored_times, AreNumbered}
use Rattle.mc_core.specs.law.Indexed.{stripe_for}
use Rattle.mc_core.specs.law.Histories.{hand_of, is_set_of, set_count, IsBeginning, IsSetIn, IsStored}
use Rattle.mc_core.proofs.Histories.Grown.{AreGrown, grown_quiet, grown_at, history_in, calls_in, else_calls, own_calls}
use Rattle.mc_core.proofs.Known.Learned.{SameNumbers, owners_same}
use Rattle.mc_core.proofs.Steps.Base.{each_row}
use Rattle.mc_core.proofs.Steps.Lists.{there}
use Rattle.mc_core.proofs.Hands.MoreRows.{row_of, row_same, row_other, each_from_contained, each_contained}
use Rattle.mc_core.proofs.Hands.NumberedJoin.{own_counts}
use Rattle.mc_core.proofs.Histories.ToldBy.{MayTell}
use Rattle.mc_core.proofs.Counts.Totals.{total_two, total_at, owned_total}

-- what is told is growth
pub grown_told : (state : State) (now : List ReadyStripe) (hand : ℕ) (said : List StoredItem) → MayTell state now hand said → AreGrown (writer_of state hand) state.stripes now
grown_told state now hand said (inl quiet) = subst (AreGrown (writer_of state hand) state.stripes) (sym quiet.0) (grown_quiet (writer_of state hand) state.stripes)
grown_told state now hand said (inr t) =
    subst (AreGrown (writer_of state hand) state.stripes) (sym t.stripes)
    (grown_at (writer_of state hand) state.stripes t.at t.value t.within (record { more = t.more; grown = t.grown; own = t.own; sets = t.sets }))

-- how often a stamp was stored, after one stripe was written
set_count_written : (stamp : ℕ) (stripes : List ReadyStripe) (at : ℕ) (value : ReadyStripe) → at < length stripes →
    set_count stamp (slice_set stripes at value) + count_by (is_set_of stamp) (history_in stripes at) ≡ set_count stamp stripes + count_by (is_set_of stamp) value.state.history
set_count_written stamp [] at value within = absurd (omega arith)
set_count_written stamp (x ∷ stripes) zero value within = omega arith
set_count_written stamp (x ∷ stripes) (suc at) value within = let rest = set_count_written stamp stripes at value (omega arith) in omega arith

-- stored as often as before, and where it is said
pub set_count_told : (state : State) (now : List ReadyStripe) (hand : ℕ) (said : List StoredItem) (stamp : ℕ) → MayTell state now hand said → set_count stamp now ≡ set_count stamp state.stripes + stored_times stamp said
set_count_told state now hand said stamp (inl quiet) = rw (quiet.0, quiet.1) (sym (add-zero (set_count stamp state.stripes)))
set_count_told state now hand said stamp (inr t) =
    let written = set_count_written stamp state.stripes t.at t.value t.within in
    let grown : count_by (is_set_of stamp) t.value.state.history ≡ count_by (is_set_of stamp) (history_in state.stripes t.at) + count_by (is_set_of stamp) t.more =
    ap (count_by (is_set_of stamp)) t.grown ∙ sum_by-append (λ call. truth (is_set_of stamp call)) (history_in state.stripes t.at) t.more in
    let stores = t.stores stamp in
    ap (set_count stamp) t.stripes ∙ omega arith

-- what a row saw begins the histories
abbrev pub IsBegun : List ReadyStripe → List (List Call) → Type 0
IsBegun stripes row = (stripe : ℕ) (calls : List Call) (value : ReadyStripe) → slice_get row stripe ≡ Some calls → slice_get stripes stripe ≡ Some value → IsBeginning calls value.state.history

module _ (writer : ℕ) (old now : List ReadyStripe) (g : AreGrown writer old now) where
  -- a stripe was there, and its history was a beginning
  pub begun_grown : (row : List (List Call)) → IsBegun old row → IsBegun now row
  begun_grown row begun stripe calls value at is =
      let is_now : history_in now stripe ≡ value.state.history = ap (λ (v : ReadyStripe). v.state.history) (get_or_from_slice_get now stripe value new_stripe is) in
      let within : stripe < length old = omega (arith, there now stripe value is, g.long) in
      let was = begun stripe calls (slice_index_or old stripe new_stripe) at (slice_get-get_or old stripe new_stripe within) in
      let grown = g.each stripe in
      (was.0 ++ grown.more, sym is_now ∙ grown.grown ∙ ap (λ (cs : List Call). cs ++ grown.more) was.1 ∙ append_assoc calls was.0 grown.more)

  -- what was stored is stored
  pub stored_grown : (s : StoredItem) → IsStored old s → IsStored now s
  stored_grown s was =
      let key = key_of s.words in
      let grown = g.each (key % length old) in
      let set : Call = Set (s.stamp / 2 ^ 48) key s.stamp in
      let here : (stripe_for now key).state.history ≡ (stripe_for old key).state.history ++ grown.more = ap (λ (n : ℕ). history_in now (key % n)) g.long ∙ grown.grown in
      subst (λ (calls : List Call). Contains calls set) (sym here) (Contains-append_left (stripe_for old key).state.history grown.more set was)

  -- each set is in its stripe
  pub sets_grown : ((stripe : ℕ) (value : ReadyStripe) → slice_get old stripe ≡ Some value → All (IsSetIn (length old) stripe) value.state.history)
      → (stripe : ℕ) (value : ReadyStripe) → slice_get now stripe ≡ Some value → All (IsSetIn (length now) stripe) value.state.history
  sets_grown sets stripe value is =
      let is_now : history_in now stripe ≡ value.state.history = ap (λ (v : ReadyStripe). v.state.history) (get_or_from_slice_get now stripe value new_stripe is) in
      let within : stripe < length old = omega (arith, there now stripe value is, g.long) in
      let was = sets stripe (slice_index_or old stripe new_stripe) (slice_get-get_or old stripe new_stripe within) in
      let grown = g.each stripe in
      subst (λ (n : ℕ). All (IsSetIn n stripe) value.state.history) (sym g.long)
      (subst (All (IsSetIn (length old) stripe)) (sym grown.grown ∙ is_now) (All-append (IsSetIn (length old) stripe) (history_in old stripe) grown.more was grown.sets))

  -- each call is of one hand's number
  pub writers_grown : (mine mine' : List (List Own)) → SameNumbers mine mine' → count_in_hands writer mine ≡ 1 → All (λ (value : ReadyStripe). All (λ call. count_in_hands (hand_of call) mine ≡ 1) value.state.history) old
      → All (λ (value : ReadyStripe). All (λ call. count_in_hands (hand_of call) mine' ≡ 1) value.state.history) now
  writers_grown mine mine' same one writers =
      All-from_get_or (λ (value : ReadyStripe). All (λ call. count_in_hands (hand_of call) mine' ≡ 1) value.state.history) now new_stripe (λ stripe within.
      let was = All-get_or (λ (value : ReadyStripe). All (λ call. count_in_hands (hand_of call) mine ≡ 1) value.state.history) old stripe new_stripe (omega (arith, within, g.long)) writers in
      let grown = g.each stripe in
      subst (All (λ call. count_in_hands (hand_of call) mine' ≡ 1)) (sym grown.grown) (All-append (λ call. count_in_hands (hand_of call) mine' ≡ 1) (history_in old stripe) grown.more
      (All-weaker (λ call. count_in_hands (hand_of call) mine ≡ 1) (λ call. count_in_hands (hand_of call) mine' ≡ 1) (λ call is. owners_same mine mine' (hand_of call) same ∙ is) (history_in old stripe) was)
      (All-weaker (λ call. hand_of call ≡ writer) (λ call. count_in_hands (hand_of call) mine' ≡ 1) (λ call is. owners_same mine mine' (hand_of call) same ∙ (ap (λ n. count_in_hands n mine) is ∙ one)) grown.more grown.own)))

-- the calls of a number are its own
abbrev pub IsOwnIn : List ReadyStripe → Own → Type 0
IsOwnIn stripes own = own.calls ≡ calls_in own.number stripes

module _ (before after : State) (hand writer : ℕ) (ids : List Ids) (mine : List (List Own)) (said : List (List StoredItem)) (known : List (List KnownItem)) (l : AreNumbered ids mine said known)
    (is : number_in ids hand ≡ Some writer) (g : AreGrown writer before.stripes after.stripes) where
  -- the hand has the number alone
  pub one_owner : count_in_hands writer mine ≡ 1
  one_owner =
      let own = l.own hand writer is in
      let at = total_at (count_in_hand writer) mine hand refl in
      let all = owned_total writer mine in
      let most = l.apart writer in omega arith

  else_own : (other : ℕ) → other ≢ hand → (own : Own) → Contains (row_of mine other) own → writer ≢ own.number
  else_own other apart own among same =
      let some : 1 ≤ count_in_hand writer (row_of mine other) = subst (λ n. 1 ≤ count_in_hand n (row_of mine other)) (sym same) (own_counts (row_of mine other) own among) in
      let mine_is = l.own hand writer is in
      let two = total_two (count_in_hand writer) mine other hand refl apart in
      let all = owned_total writer mine in
      let most = l.apart writer in absurd (omega arith)

  own_one : (own : Own) → IsOwnIn before.stripes own → IsOwnIn after.stripes (own_after before after (Some writer) own)
  own_one own was = elim (cases_eq own.number writer) [
    | inl same ↦
        let test : (own.number == writer) ≡ true = eq-eqb own.number writer same in
        let calls : calls_with_new before after 0 own.calls ≡ calls_in own.number after.stripes = ap (calls_with_new before after 0) (was ∙ ap (λ n. calls_in n before.stripes) same) ∙ (own_calls before after writer g ∙ ap (λ n. calls_in n after.stripes) (sym same)) in
        rw test calls
    | inr apart ↦
        let test : (own.number == writer) ≡ false = ne_eqb own.number writer apart in
        rw test (was ∙ sym (else_calls writer own.number before.stripes after.stripes (λ e. apart (sym e)) g))
  ]

  pub own_calls_grown : hand < length mine → Each (IsOwnIn before.stripes) mine → Each (IsOwnIn after.stripes) (slice_set mine hand (map (own_after before after (Some writer)) (row_of mine hand)))
  own_calls_grown within each =
      let row = map (own_after before after (Some writer)) (row_of mine hand) in
      let own_row : All (IsOwnIn after.stripes) row = All-map (IsOwnIn after.stripes) (own_after before after (Some writer)) (row_of mine hand)
      (All-weaker (IsOwnIn before.stripes) (λ own. IsOwnIn after.stripes (own_after before after (Some writer) own)) own_one (row_of mine hand) (each_row (IsOwnIn before.stripes) mine hand each)) in
      each_from_contained (IsOwnIn after.stripes) (slice_set mine hand row) (λ other own among. elim (cases_eq other hand) [
        | inl same ↦
            let here : row_of (slice_set mine hand row) other ≡ row = ap (row_of (slice_set mine hand row)) same ∙ row_same mine hand row within in
            All-contains (IsOwnIn after.stripes) row own own_row (subst (λ (r : List Own). Contains r own) here among)
        | inr apart ↦
            let among_old : Contains (row_of mine other) own = subst (λ (r : List Own). Contains r own) (row_other mine hand other row apart) among in
            each_contained (IsOwnIn before.stripes) mine other own each among_old ∙ sym (else_calls writer own.number before.stripes after.stripes (else_own other apart own among_old) g)
      ])
