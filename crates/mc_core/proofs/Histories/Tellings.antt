-- What an event tells a stripe: one stripe whose lock is held is written, and its history grows by calls of the hand.
use Rattle.std.proofs.Common.{◌≡◌, ◌≢◌, ℕ, ◌/◌, ◌%◌, ◌^◌, ◌<◌, ◌==◌, Bool, true, false, List, [], ◌∷◌, ◌++◌, length, Option, Some, None, refl, sym, ap, subst, ◌∙◌, arith, eq-eqb, slice_set, slice_index, is_some, is_none, All, count_by, IfSome}
use Rattle.std.specs.Option.{option_map, option_map_or}
use Rattle.std.proofs.lemmas.List.{append-nil}
use Rattle.std.proofs.lemmas.List.Elements.{All-nil, All-cons, All-get_or}
use Rattle.std.proofs.lemmas.Option.{slice_get-get_or}
use Rattle.std.proofs.lemmas.Bool.{false≢true}
use Rattle.mc_pages.specs.declared.ids.ChunkId.{ChunkId}
use Rattle.mc_stripe.specs.declared.history.Call.{Call}
use Rattle.mc_stripe.specs.declared.history.Call.TheVariants.{Set, Get, Delete, Evict, Rescue}
use Rattle.mc_stripe.specs.StripeState.{StripeState, ReadyStripe, new_stripe, key_aside, chunk_and_stamp, stamp_of_key}
use Rattle.mc_stripe.specs.Changes.{after_got, after_lift, after_evict, after_rescue, used_up}
use Rattle.mc_stripe.specs.Changes as stripe_changes
use Rattle.mc_stripe.specs.Legal.{IsLegal}
use Rattle.mc_stripe.proofs.Kept.{IsLegal-after_got, IsLegal-after_unlink, IsLegal-after_lift, IsLegal-after_evict, IsLegal-after_link, IsLegal-after_rescue, IsLegal-after_trim, IsLegal-after_forget}
use Rattle.mc_core.specs.declared.event.StripeChange.{StripeChange}
use Rattle.mc_core.specs.declared.event.StripeChange.TheVariants.{Reserve, ReserveCall, Trim, Forget}
use Rattle.mc_core.specs.model.State.{State, has_stripe, stripe_of, stripe_at, number_at}
use Rattle.mc_core.specs.run.Silent.{is_aside, writer_of, stripe_after}
use Rattle.mc_core.specs.law.Indexed.{AreLegal}
use Rattle.mc_core.specs.past.Past.{StoredItem}
use Rattle.mc_core.specs.law.Identities.{stored_times}
use Rattle.mc_core.specs.law.Histories.{hand_of, is_set_of, IsSetIn}
use Rattle.mc_core.proofs.Histories.StripesKept.{held_word, stripe_within, legal_written}

pub record Tells (state : State) (now : List ReadyStripe) (hand : ℕ) (said : List StoredItem) : Type 0 where
  pub at : ℕ
  pub value : ReadyStripe
  pub stripes : now ≡ slice_set state.stripes at value
  pub within : at < length state.stripes
  pub held : slice_index state.stripe_locks at ≢ 0
  pub legal : IsLegal value.state
  pub aside : (entry : ℕ × (ChunkId × ℕ)) → value.state.aside ≡ Some entry → entry.0 % length state.stripes ≡ at
  pub more : List Call
  pub grown : value.state.history ≡ (stripe_at state at).state.history ++ more
  pub own : All (λ call. hand_of call ≡ writer_of state hand) more
  pub sets : All (IsSetIn (length state.stripes) at) more
  pub stores : (stamp : ℕ) → count_by (is_set_of stamp) more ≡ stored_times stamp said

-- one set counts as one saying
stored_one : (hand key stamp other : ℕ) (words : List ℕ) → count_by (is_set_of other) (Set hand key stamp ∷ []) ≡ stored_times other (record { stamp = stamp; words = words } ∷ [])
stored_one hand key stamp other words = refl

-- what is told keeps the stripes legal
pub tells_legal : (state : State) (now : List ReadyStripe) (hand : ℕ) (said : List StoredItem) → AreLegal state.stripes state.stripe_locks → Tells state now hand said → AreLegal now state.stripe_locks
tells_legal state now hand said l t =
    subst (λ (xs : List ReadyStripe). AreLegal xs state.stripe_locks) (sym t.stripes) (legal_written state.stripes state.stripe_locks t.at t.value l t.legal t.held t.aside)

-- the key isn't aside
pub other_aside : (aside : Option ℕ) (key : ℕ) → option_map_or (λ (other : ℕ). other == key) aside false ≡ false → IfSome aside (λ other. other ≢ key)
other_aside None key h = tt
other_aside (Some other) key h = λ is. false≢true (sym h ∙ eq-eqb other key is)

pub is_there : {X : Type 0} (o : Option X) → is_none o ≡ false → is_some o ≡ true
is_there None h = absurd (cc)
is_there (Some x) h = refl

module _ (state : State) (hand : ℕ) (l : AreLegal state.stripes state.stripe_locks) (at : ℕ) (has : has_stripe state hand at ≡ true) where
  abbrev old : StripeState
  old = (stripe_at state at).state

  within : at < length state.stripes
  within = omega (arith, stripe_within state hand at has, l.lock_count)

  held : slice_index state.stripe_locks at ≢ 0
  held = held_word (slice_index state.stripe_locks at) (number_at state hand) has

  legal : IsLegal old
  legal = All-get_or (λ (v : ReadyStripe). IsLegal v.state) state.stripes at new_stripe within l.legal

  -- what was aside is of this stripe
  was_aside : (entry : ℕ × (ChunkId × ℕ)) → old.aside ≡ Some entry → entry.0 % length state.stripes ≡ at
  was_aside entry is = l.aside at (stripe_at state at) entry (slice_get-get_or state.stripes at new_stripe within) is

  -- nothing was told: the value has the same calls, and what was aside
  told_nothing : (value : ReadyStripe) → IsLegal value.state → value.state.aside ≡ old.aside → value.state.history ≡ old.history → Tells state (slice_set state.stripes at value) hand []
  told_nothing value lawful same_aside same_history = record {
    at = at;
    value = value;
    stripes = refl;
    within = within;
    held = held;
    legal = lawful;
    aside = λ entry is. was_aside entry (sym same_aside ∙ is);
    more = [];
    grown = same_history ∙ sym (append-nil old.history);
    own = All-nil (λ call. hand_of call ≡ writer_of state hand);
    sets = All-nil (IsSetIn (length state.stripes) at);
    stores = λ stamp. refl;
  }

  -- room was made, or calls were trimmed or forgotten
  pub tells_change : (how : StripeChange) → Tells state (slice_set state.stripes at (stripe_after how (stripe_at state at))) hand []
  tells_change Reserve = told_nothing (stripe_after Reserve (stripe_at state at)) legal refl refl
  tells_change ReserveCall = told_nothing (stripe_after ReserveCall (stripe_at state at)) legal refl refl
  tells_change Trim = told_nothing (stripe_after Trim (stripe_at state at)) (IsLegal-after_trim old legal) refl refl
  tells_change Forget = told_nothing (stripe_after Forget (stripe_at state at)) (IsLegal-after_forget old legal) refl refl

  -- the key was looked up
  pub tells_got : (key : ℕ) → is_aside old key ≡ false → Tells state (slice_set state.stripes at (used_up (after_got old (writer_of state hand) key))) hand []
  tells_got key apart = record {
    at = at;
    value = used_up (after_got old (writer_of state hand) key);
    stripes = refl;
    within = within;
    held = held;
    legal = IsLegal-after_got old (writer_of state hand) key legal (other_aside (key_aside old) key apart);
    aside = was_aside;
    more = Get (writer_of state hand) key (stamp_of_key old key) ∷ [];
    grown = refl;
    own = All-cons (λ call. hand_of call ≡ writer_of state hand) _ [] refl (All-nil (λ call. hand_of call ≡ writer_of state hand));
    sets = All-cons (IsSetIn (length state.stripes) at) _ [] tt (All-nil (IsSetIn (length state.stripes) at));
    stores = λ stamp. refl;
  }

  -- the key was deleted
  pub tells_deleted : (key : ℕ) → is_aside old key ≡ false → Tells state (slice_set state.stripes at (used_up (stripe_changes.after_unlink old (writer_of state hand) key))) hand []
  tells_deleted key apart = record {
    at = at;
    value = used_up (stripe_changes.after_unlink old (writer_of state hand) key);
    stripes = refl;
    within = within;
    held = held;
    legal = IsLegal-after_unlink old (writer_of state hand) key legal (other_aside (key_aside old) key apart);
    aside = was_aside;
    more = Delete (writer_of state hand) key (is_some (chunk_and_stamp old key)) ∷ [];
    grown = refl;
    own = All-cons (λ call. hand_of call ≡ writer_of state hand) _ [] refl (All-nil (λ call. hand_of call ≡ writer_of state hand));
    sets = All-cons (IsSetIn (length state.stripes) at) _ [] tt (All-nil (IsSetIn (length state.stripes) at));
    stores = λ stamp. refl;
  }

  -- its item was evicted
  pub tells_evicted : (key : ℕ) → is_some (chunk_and_stamp old key) ≡ true → Tells state (slice_set state.stripes at (used_up (after_evict old (writer_of state hand) key))) hand []
  tells_evicted key there = record {
    at = at;
    value = used_up (after_evict old (writer_of state hand) key);
    stripes = refl;
    within = within;
    held = held;
    legal = IsLegal-after_evict old (writer_of state hand) key legal there;
    aside = was_aside;
    more = Evict (writer_of state hand) key ∷ [];
    grown = refl;
    own = All-cons (λ call. hand_of call ≡ writer_of state hand) _ [] refl (All-nil (λ call. hand_of call ≡ writer_of state hand));
    sets = All-cons (IsSetIn (length state.stripes) at) _ [] tt (All-nil (IsSetIn (length state.stripes) at));
    stores = λ stamp. refl;
  }

  lifted_of : (key : ℕ) (place : Option (ChunkId × ℕ)) (entry : ℕ × (ChunkId × ℕ)) → option_map (λ (p : ChunkId × ℕ). (key, p)) place ≡ Some entry → entry.0 ≡ key
  lifted_of key None entry is = absurd (cc)
  lifted_of key (Some place) entry is = let same : (key, place) ≡ entry = cc in ap (λ (e : ℕ × (ChunkId × ℕ)). e.0) (sym same)

  -- its entry was put aside
  pub tells_lifted : (key : ℕ) (room entry : Bool) → stripe_of state key ≡ at → is_some (chunk_and_stamp old key) ≡ true → old.aside ≡ None → Tells state (slice_set state.stripes at (record { state = after_lift old key; ready = room; entry = entry })) hand []
  tells_lifted key room entry here there none = record {
    at = at;
    value = record { state = after_lift old key; ready = room; entry = entry };
    stripes = refl;
    within = within;
    held = held;
    legal = IsLegal-after_lift old key legal there none;
    aside = λ entry is. ap (λ (k : ℕ). k % length state.stripes) (lifted_of key (chunk_and_stamp old key) entry is) ∙ here;
    more = [];
    grown = sym (append-nil old.history);
    own = All-nil (λ call. hand_of call ≡ writer_of state hand);
    sets = All-nil (IsSetIn (length state.stripes) at);
    stores = λ stamp. refl;
  }

  no_entry : (entry : ℕ × (ChunkId × ℕ)) → None ≡ Some entry → entry.0 % length state.stripes ≡ at
  no_entry entry is = absurd (cc)

  -- an item was stored under it
  pub tells_set : (key : ℕ) (chunk : ChunkId) (stamp : ℕ) (words : List ℕ) → stripe_of state key ≡ at → stamp / 2 ^ 48 ≡ writer_of state hand → IfSome (key_aside old) (λ other. other ≡ key) → Tells state (slice_set state.stripes at (used_up (stripe_changes.after_link old (writer_of state hand) key chunk stamp))) hand (record { stamp = stamp; words = words } ∷ [])
  tells_set key chunk stamp words here own_stamp same = record {
    at = at;
    value = used_up (stripe_changes.after_link old (writer_of state hand) key chunk stamp);
    stripes = refl;
    within = within;
    held = held;
    legal = IsLegal-after_link old (writer_of state hand) key chunk stamp legal same;
    aside = no_entry;
    more = Set (writer_of state hand) key stamp ∷ [];
    grown = refl;
    own = All-cons (λ call. hand_of call ≡ writer_of state hand) _ [] refl (All-nil (λ call. hand_of call ≡ writer_of state hand));
    sets = All-cons (IsSetIn (length state.stripes) at) _ [] (here, own_stamp) (All-nil (IsSetIn (length state.stripes) at));
    stores = λ other. stored_one (writer_of state hand) key stamp other words;
  }

  -- its entry came back with another chunk
  pub tells_rescued : (key : ℕ) (chunk : ChunkId) → key_aside old ≡ Some key → Tells state (slice_set state.stripes at (used_up (after_rescue old (writer_of state hand) key chunk))) hand []
  tells_rescued key chunk is = record {
    at = at;
    value = used_up (after_rescue old (writer_of state hand) key chunk);
    stripes = refl;
    within = within;
    held = held;
    legal = IsLegal-after_rescue old (writer_of state hand) key chunk legal is;
    aside = no_entry;
    more = Rescue (writer_of state hand) key ∷ [];
    grown = refl;
    own = All-cons (λ call. hand_of call ≡ writer_of state hand) _ [] refl (All-nil (λ call. hand_of call ≡ writer_of state hand));
    sets = All-cons (IsSetIn (length state.stripes) at) _ [] tt (All-nil (IsSetIn (length state.stripes) at));
    stores = λ stamp. refl;
  }
