-- Each step keeps what hands are.
use Rattle.std.proofs.Common.{◌≡◌, ◌≢◌, ℕ, zero, suc, ◌+◌, ◌/◌, ◌%◌, ◌^◌, ◌<◌, ◌==◌, ◌&&◌, Bool, true, false, not, List, [], ◌∷◌, length, get_or, Option, Some, None, refl, sym, ap, subst, ◌∙◌, inl, inr, arith, slice_set, slice_index_or, is_some, nat_lt, nat_eq, All, eqb-true, eq-eqb, ltb-true, length-set, get_or-set_other}
use Rattle.std.specs.List.{list_all}
use Rattle.std.specs.Option.{option_map_or, option_eq}
use Rattle.std.proofs.lemmas.Bool.{and_parts, cases_eq, false≢true}
use Rattle.std.proofs.lemmas.List.Elements.{All-set, All-nil, All-cons, All-head, All-tail}
use Rattle.mc_pages.specs.declared.ids.ChunkId.{ChunkId}
use Rattle.mc_core.specs.declared.event.Step.{Step}
use Rattle.mc_core.specs.declared.event.Step.TheVariants as step
use Rattle.mc_core.specs.declared.ids.Ids.{Ids}
use Rattle.mc_core.specs.declared.holding.Holding.{Holding}
use Rattle.mc_core.specs.declared.holding.Kind.{Kind}
use Rattle.mc_core.specs.declared.holding.Kind.TheVariants.{Reference, Fresh}
use Rattle.mc_core.specs.declared.holding.Purpose.TheVariants.{Item, Copy, Rescue}
use Rattle.mc_core.specs.model.Head.{is_unlinked}
use Rattle.mc_core.specs.model.Holdings.{known_key, stamp_in, is_complete, holding_of, is_of_chunk, holding_words}
use Rattle.mc_core.specs.model.State.{State, no_ids, is_held_by, is_hand, number_at, ids_at, head_at, holdings_at, has_slabs, without_holding}
use Rattle.mc_core.specs.run.Locks.{lock_word}
use Rattle.mc_core.specs.run.Hands.{hand_has_no_stripe}
use Rattle.mc_core.specs.run.Hands as hands
use Rattle.mc_core.specs.run.Items.{most_stamps, recorded_link, after_link_of, can_link_holding, can_record_link, can_link_key, can_count, is_allowed_for, is_next_stamp, ids_after_stamp}
use Rattle.mc_core.specs.run.Run.{after_step}
use Rattle.mc_core.specs.law.Identities.{AreHands, IsFreeOrHeld, number_in, stamps_given}
use Rattle.mc_core.specs.past.Past.{Moment}
use Rattle.mc_core.specs.law.Lawful.{HandsIn}
use Rattle.mc_core.specs.law.Laws.{MayStep, StepsKeep}
use Rattle.mc_core.proofs.Frame.Own.{is_plain, own_step}
use Rattle.mc_core.proofs.Hands.HandsKept.{hands_own, ids_step, leaves_ids}

-- what is so of a written entry and of the old ones is so of all
pub set_or : {X : Type 0} (P : X → Type 0) (xs : List X) (i j : ℕ) (v d : X) → P v → P (get_or xs j d) → P (get_or (slice_set xs i v) j d)
set_or P [] i j v d new old = old
set_or P (x ∷ xs) zero zero v d new old = new
set_or P (x ∷ xs) zero (suc j) v d new old = old
set_or P (x ∷ xs) (suc i) zero v d new old = old
set_or P (x ∷ xs) (suc i) (suc j) v d new old = set_or P xs i j v d new old

-- what is told of a link: it may be by cases of what the chunk is for
pub link_parts : (state : State) (hand : ℕ) (chunk : ChunkId) (holding : Holding) → can_link_holding state hand chunk (Some holding) ≡ true →
    (is_complete (holding_words holding) ≡ true) × (can_link_key state hand (known_key (holding_words holding)) ≡ true) × (is_allowed_for state hand (holding_words holding) holding.kind ≡ true)
link_parts state hand chunk holding h =
    let key = known_key (holding_words holding) in
    let parts = and_parts (is_complete (holding_words holding) && can_record_link state hand holding && is_unlinked (head_at state chunk).tag) (can_count (head_at state chunk)) h in
    let more = and_parts (is_complete (holding_words holding) && can_record_link state hand holding) (is_unlinked (head_at state chunk).tag) parts.0 in
    let first = and_parts (is_complete (holding_words holding)) (can_record_link state hand holding) more.0 in
    let both = and_parts (can_link_key state hand key) (is_allowed_for state hand (holding_words holding) holding.kind) first.1 in
    (first.0, both.0, both.1)

-- a next stamp
pub stamp_left : (ids : Ids) (stamp : ℕ) (others : Bool) → (is_next_stamp ids stamp && others) ≡ true → ids.stamps < most_stamps
stamp_left ids stamp others h =
    let next = (and_parts (is_next_stamp ids stamp) others h).0 in
    let both = and_parts (nat_lt ids.stamps most_stamps && option_eq nat_eq ids.number (Some (stamp / 2 ^ 48))) (stamp % 2 ^ 48 == ids.stamps + 1) next in
    ltb-true ids.stamps most_stamps (and_parts (nat_lt ids.stamps most_stamps) (option_eq nat_eq ids.number (Some (stamp / 2 ^ 48))) both.0).0

module _ (state : State) (hand : ℕ) (s : State) (same : s.ids ≡ state.ids) (below : (other : ℕ) → stamps_given state.ids other < 2 ^ 48) where
  old_stamps : (other : ℕ) → stamps_given s.ids other < 2 ^ 48
  old_stamps other = subst (λ (ids : List Ids). stamps_given ids other < 2 ^ 48) (sym same) (below other)

  new_stamps : (ids_at state hand).stamps < most_stamps → (other : ℕ) → stamps_given (slice_set s.ids hand (ids_after_stamp (ids_at s hand))) other < 2 ^ 48
  new_stamps left other =
      let here : (ids_at s hand).stamps ≡ (ids_at state hand).stamps = ap (λ (ids : List Ids). (slice_index_or ids hand no_ids).stamps) same in
      set_or (λ (i : Ids). i.stamps < 2 ^ 48) s.ids hand other (ids_after_stamp (ids_at s hand)) no_ids (omega (arith, here, left)) (old_stamps other)

  stamps_told : (holding : Holding) (kind : Kind) → is_allowed_for state hand (holding_words holding) kind ≡ true → (other : ℕ) → stamps_given (recorded_link s hand holding kind).ids other < 2 ^ 48
  stamps_told holding (Reference own) h other = absurd (cc)
  stamps_told holding (Fresh Item own) h other = new_stamps (stamp_left (ids_at state hand) (stamp_in (holding_words holding)) _ h) other
  stamps_told holding (Fresh (Copy old) own) h other = new_stamps (stamp_left (ids_at state hand) (stamp_in (holding_words holding)) _ h) other
  stamps_told holding (Fresh (Rescue old item) own) h other = old_stamps other

link_stamps : (state : State) (hand : ℕ) (chunk : ChunkId) (holding : Option Holding) → ((other : ℕ) → stamps_given state.ids other < 2 ^ 48) → can_link_holding state hand chunk holding ≡ true
    → (other : ℕ) → stamps_given (after_link_of (without_holding state hand (is_of_chunk chunk)) hand chunk holding).ids other < 2 ^ 48
link_stamps state hand chunk None below h other = absurd (cc)
link_stamps state hand chunk (Some holding) below h other =
    stamps_told state hand (without_holding state hand (is_of_chunk chunk)) refl below holding holding.kind (link_parts state hand chunk holding h).2 other

-- a hand writes a lock's word that says its number
lock_is_held : (state : State) (hand : ℕ) (number : Option ℕ) → number_at state hand ≡ number → is_some number ≡ true → is_held_by (lock_word state hand) (number_at state hand) ≡ true
lock_is_held state hand None is there = absurd (cc)
lock_is_held state hand (Some number) is there =
    let word : lock_word state hand ≡ number + 1 = ap (λ (o : Option ℕ). option_map_or (λ (n : ℕ). n + 1) o 0) is in
    ap (is_held_by (lock_word state hand)) is ∙ eq-eqb (lock_word state hand) (number + 1) word

-- numbers after one hand is gone
pub gone_set : (ids : List Ids) (spent other number : ℕ) → number_in (slice_set ids spent no_ids) other ≡ Some number → (other ≢ spent) × (number_in ids other ≡ Some number)
gone_set [] spent other number h = absurd (cc)
gone_set (x ∷ ids) zero zero number h = absurd (cc)
gone_set (x ∷ ids) zero (suc other) number h = ((λ e. absurd (omega (arith, e))), h)
gone_set (x ∷ ids) (suc spent) zero number h = ((λ e. absurd (omega (arith, e))), h)
gone_set (x ∷ ids) (suc spent) (suc other) number h = let rest = gone_set ids spent other number h in ((λ e. rest.0 (omega (arith, e))), rest.1)

not_true : (b : Bool) → not b ≡ true → b ≡ false
not_true true h = absurd (cc)
not_true false h = refl

-- two facts of each entry make a third
pub All-both : {X : Type 0} (P Q R : X → Type 0) → ((x : X) → P x → Q x → R x) → (xs : List X) → All P xs → All Q xs → All R xs
All-both P Q R f [] p q = All-nil R
All-both P Q R f (x ∷ xs) p q = All-cons R x xs (f x (All-head P x xs p) (All-head Q x xs q)) (All-both P Q R f xs (All-tail P x xs p) (All-tail Q x xs q))

-- no word of these says the number
none_held : (number : Option ℕ) (locks : List ℕ) → list_all (λ word. not (is_held_by word number)) locks ≡ true → All (λ word. is_held_by word number ≡ false) locks
none_held number [] h = All-nil (λ word. is_held_by word number ≡ false)
none_held number (word ∷ locks) h =
    let parts = and_parts (not (is_held_by word number)) (list_all (λ w. not (is_held_by w number)) locks) h in
    All-cons (λ w. is_held_by w number ≡ false) word locks (not_true (is_held_by word number) parts.0) (none_held number locks parts.1)

-- a lock that the spent hand doesn't have is free or held as before
held_without : (ids : List Ids) (spent word : ℕ) → is_held_by word (number_in ids spent) ≡ false → IsFreeOrHeld ids word → IsFreeOrHeld (slice_set ids spent no_ids) word
held_without ids spent word not_spent (inl free) = inl free
held_without ids spent word not_spent (inr (hand, held)) =
    inr (hand, ap (is_held_by word) (ap (λ (i : Ids). i.number) (get_or-set_other ids spent hand no_ids no_ids (λ same. false≢true (sym not_spent ∙ ap (λ (h : ℕ). is_held_by word (number_in ids h)) (sym same) ∙ held)))) ∙ held)

empty_row : (row : List Holding) → length row ≡ 0 → row ≡ []
empty_row [] h = refl
empty_row (x ∷ row) h = absurd (omega (arith, h))

join_hands : (state : State) (hand kept spent : ℕ) → AreHands state.ids state.slabs_lock state.stripe_locks state.holdings state.looks → hands.can_join state hand kept spent ≡ true →
    AreHands (hands.after_join state spent).ids state.slabs_lock state.stripe_locks state.holdings (hands.after_join state spent).looks
join_hands state hand kept spent l h =
    let idle = (and_parts (hand == kept && not (kept == spent) && is_hand state spent && hands.is_hand_idle state kept) (hands.is_hand_idle state spent) h).1 in
    let parts = and_parts (not (has_slabs state spent) && hand_has_no_stripe state spent) (length (holdings_at state spent) == 0) idle in
    let locks = and_parts (not (has_slabs state spent)) (hand_has_no_stripe state spent) parts.0 in
    let long = length-set state.ids spent no_ids in
    record {
      count = (omega (arith, l.count.0, long), omega (arith, l.count.1, long));
      holding_rows = l.holding_rows ∙ sym long;
      look_rows = length-set state.looks spent [] ∙ l.look_rows ∙ sym long;
      numbers = λ other number is. l.numbers other number (gone_set state.ids spent other number is).1;
      apart = λ a b number at_a at_b. l.apart a b number (gone_set state.ids spent a number at_a).1 (gone_set state.ids spent b number at_b).1;
      stamps = λ other. set_or (λ (i : Ids). i.stamps < 2 ^ 48) state.ids spent other no_ids no_ids (omega arith) (l.stamps other);
      slabs = held_without state.ids spent state.slabs_lock (not_true (has_slabs state spent) locks.0) l.slabs;
      stripes = All-both (λ word. is_held_by word (number_in state.ids spent) ≡ false) (IsFreeOrHeld state.ids) (IsFreeOrHeld (slice_set state.ids spent no_ids))
          (λ word. held_without state.ids spent word) state.stripe_locks (none_held (number_at state spent) state.stripe_locks locks.1) l.stripes;
      nothing = λ other none. elim (cases_eq other spent) [
        | inl same ↦ subst (λ (i : ℕ). slice_index_or state.holdings i [] ≡ []) (sym same) (empty_row (holdings_at state spent) (eqb-true (length (holdings_at state spent)) 0 parts.1))
        | inr apart ↦ l.nothing other (sym (ap (λ (i : Ids). i.number) (get_or-set_other state.ids spent other no_ids no_ids apart)) ∙ none)
      ];
    }

plain : (m : Moment) (hand : ℕ) (step : Step) → is_plain step ≡ true → leaves_ids step ≡ true → MayStep m hand step
    → AreHands (after_step m.state hand step).ids (after_step m.state hand step).slabs_lock (after_step m.state hand step).stripe_locks (after_step m.state hand step).holdings (after_step m.state hand step).looks
plain m hand step h same may =
    hands_own m.state _ hand may.lawful.hands may.there (own_step m.state hand step h)
    (λ other. subst (λ (ids : List Ids). stamps_given ids other < 2 ^ 48) (sym (ids_step m.state hand step same)) (may.lawful.hands.stamps other))

pub hands_steps : StepsKeep HandsIn
hands_steps m hand step.TakeSlabs may = let l = may.lawful.hands in record {
  count = l.count;
  holding_rows = l.holding_rows;
  look_rows = length-set m.state.looks hand [] ∙ l.look_rows;
  numbers = l.numbers;
  apart = l.apart;
  stamps = l.stamps;
  slabs = inr (hand, lock_is_held m.state hand (number_at m.state hand) refl may.there);
  stripes = l.stripes;
  nothing = l.nothing;
}
hands_steps m hand (step.TakeStripe stripe) may = let l = may.lawful.hands in record {
  count = l.count;
  holding_rows = l.holding_rows;
  look_rows = l.look_rows;
  numbers = l.numbers;
  apart = l.apart;
  stamps = l.stamps;
  slabs = l.slabs;
  stripes = All-set (IsFreeOrHeld m.state.ids) m.state.stripe_locks stripe (lock_word m.state hand) (inr (hand, lock_is_held m.state hand (number_at m.state hand) refl may.there)) l.stripes;
  nothing = l.nothing;
}
hands_steps m hand step.MissSlabs may = plain m hand step.MissSlabs refl refl may
hands_steps m hand (step.MissStripe stripe) may = plain m hand (step.MissStripe stripe) refl refl may
hands_steps m hand step.GiveSlabs may = let l = may.lawful.hands in record {
  count = l.count;
  holding_rows = l.holding_rows;
  look_rows = l.look_rows;
  numbers = l.numbers;
  apart = l.apart;
  stamps = l.stamps;
  slabs = inl refl;
  stripes = l.stripes;
  nothing = l.nothing;
}
hands_steps m hand (step.GiveStripe stripe) may = let l = may.lawful.hands in record {
  count = l.count;
  holding_rows = l.holding_rows;
  look_rows = l.look_rows;
  numbers = l.numbers;
  apart = l.apart;
  stamps = l.stamps;
  slabs = l.slabs;
  stripes = All-set (IsFreeOrHeld m.state.ids) m.state.stripe_locks stripe 0 (inl refl) l.stripes;
  nothing = l.nothing;
}
hands_steps m hand (step.Head chunk) may = plain m hand (step.Head chunk) refl refl may
hands_steps m hand (step.Pop class) may = plain m hand (step.Pop class) refl refl may
hands_steps m hand (step.PopOff old) may = plain m hand (step.PopOff old) refl refl may
hands_steps m hand (step.Fill chunk place word) may = plain m hand (step.Fill chunk place word) refl refl may
hands_steps m hand (step.Word chunk place) may = plain m hand (step.Word chunk place) refl refl may
hands_steps m hand (step.WordHeld chunk place) may = plain m hand (step.WordHeld chunk place) refl refl may
hands_steps m hand (step.Link chunk) may =
    hands_own m.state _ hand may.lawful.hands may.there (own_step m.state hand (step.Link chunk) refl)
    (link_stamps m.state hand chunk (holding_of chunk (holdings_at m.state hand)) may.lawful.hands.stamps may.allowed)
hands_steps m hand (step.Refer key) may = plain m hand (step.Refer key) refl refl may
hands_steps m hand (step.Unlink key) may = plain m hand (step.Unlink key) refl refl may
hands_steps m hand (step.Release chunk) may = plain m hand (step.Release chunk) refl refl may
hands_steps m hand (step.Discard chunk) may = plain m hand (step.Discard chunk) refl refl may
hands_steps m hand (step.Condemn chunk) may = plain m hand (step.Condemn chunk) refl refl may
hands_steps m hand (step.PutBack chunk) may = plain m hand (step.PutBack chunk) refl refl may
hands_steps m hand (step.Clear chunk) may = plain m hand (step.Clear chunk) refl refl may
hands_steps m hand (step.Cut page index) may = plain m hand (step.Cut page index) refl refl may
hands_steps m hand (step.Again chunk issue) may = plain m hand (step.Again chunk issue) refl refl may
hands_steps m hand (step.Join kept spent) may = join_hands m.state hand kept spent may.lawful.hands may.allowed
