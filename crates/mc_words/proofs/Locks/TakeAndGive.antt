-- A lock is taken and given: its value leaves its slot, and comes back.
use Rattle.std.proofs.Common.{◌≡◌, ◌≢◌, ℕ, zero, suc, ◌+◌, ◌<◌, ◌≤◌, ◌==◌, eqb, Bool, true, false, List, [], ◌∷◌, ◌++◌, map, length, Some, None, refl, sym, ap, ap₂, subst, ◌∙◌, inl, inr, arith, slice_set, slice_index, slice_index_or, is_some, is_none, get_or-set_same, get_or-set_other, eq-eqb, ne_eqb, lt-ltb, length-set, zero-add, if◌then◌else◌}
use Rattle.std.specs.List.{range_with_len}
use Rattle.std.specs.Option.{option_map_or}
use Rattle.std.proofs.lemmas.Bool.{and_from, cases_eq}
use Rattle.std.proofs.lemmas.List.FromFn.{get_or-map-range_with_len}
use mathlib.Core.Option.{some, none}
use mathlib.Core.Option as maybe
use lib.ListN.{get_elem?}
use prog.Atomic.{either}
use Rattle.atomic_table.specs.Table as table
use Rattle.atomic_table.specs.Table.{takes, gives, rest, Allows}
use Rattle.atomic_table.proofs.Lists.{exchanged, set_else, set_here}
use Rattle.mc_stripe.specs.StripeState.{ReadyStripe, new_stripe}
use Rattle.mc_core.specs.declared.event.Step.{Step}
use Rattle.mc_core.specs.model.State.{State, is_held_by, is_hand, number_at, has_slabs, has_stripe, stripe_at}
use Rattle.mc_core.specs.run.Locks as core_locks
use Rattle.mc_core.specs.past.Past.{Moment, moment_stepped}
use Rattle.mc_core.specs.model.Views.{held_stripe}
use Rattle.mc_core.specs.run.Run.{allows_step, after_step}
use Rattle.mc_core.specs.law.Laws.{MayStep}
use Rattle.mc_core.proofs.Known.Learned.{is_join}
use Rattle.mc_core.proofs.Frame.Framed.{free_lock, step_next}
use Rattle.mc_core.proofs.Law.Next.{IsNext}
use Rattle.mc_core.proofs.Frame.SameSlabs.{looked_keeps}
use Rattle.mc_words.specs.declared.lock.slot.Slot.{Slot}
use Rattle.mc_words.specs.declared.lock.slot.Slot.TheVariants.{Empty, OfSlabs, OfStripe}
use Rattle.mc_words.specs.declared.lock.locks.Lock.{Lock}
use Rattle.mc_words.specs.declared.lock.locks.Lock.TheVariants.{SlabsLock, StripeLock}
use Rattle.mc_words.specs.hand.View.{OwnEvent, Setup, View, events_of, own_event, view_at}
use Rattle.mc_words.specs.rule.Layout.{lock_address, slabs_word}
use Rattle.mc_words.specs.rule.Meaning.{WordsOfTable, WordsAreColumns, WordsOf, AreCut, Has, IsRuled}
use Rattle.mc_words.specs.rule.Happens.{LawfulView, Happens, event_of, keeps_locks_and_hands}
use Rattle.mc_words.specs.rule.Told.{Sits}
use Rattle.mc_words.specs.lock.Slots.{lock_number, slot_at, slot_of}
use Rattle.mc_words.specs.lock.Tries.{take_of, miss_of, give_of, IsLockOf, HasValue, may_be_given_back, HasStripes, Gains, Loses, IsOneHand, TakesValue, Takes, GivesValue}
use Rattle.mc_words.specs.rule.Joins.{Rule}
use Rattle.mc_words.proofs.Rules.Settled.{IsSettled, lifts}
use Rattle.mc_words.proofs.Rules.NextMoments.{is_view_now, others_made, own_made, ruled_next}
use Rattle.mc_words.proofs.Rules.Reached.{leads_stepped}
use Rattle.mc_words.proofs.Rules.Written.{slabs_lock_written, lock_written, slabs_lock_read, lock_read, unwritten}
use Rattle.mc_words.proofs.Rules.Quiet.{Columns, columns, Goes, goes, was, map_map, has_if}

-- what a hand has, from what its view says that it has
pub held_from : {X : Type 0} (b : Bool) (x y : X) → (if b then Some x else None) ≡ Some y → (b ≡ true) × (x ≡ y)
held_from true x y e = (refl, cc)
held_from false x y e = absurd (cc)

-- the same pages, lists and stripes
has_same : (s now : State) → now.slabs ≡ s.slabs → now.stripes ≡ s.stripes → (k : ℕ) (slot : Slot) → Has s k slot → Has now k slot
has_same s now slabs stripes zero Empty has = absurd has
has_same s now slabs stripes zero (OfSlabs value) has = has ∙ sym slabs
has_same s now slabs stripes zero (OfStripe value) has = absurd has
has_same s now slabs stripes (suc i) Empty has = absurd has
has_same s now slabs stripes (suc i) (OfSlabs value) has = absurd has
has_same s now slabs stripes (suc i) (OfStripe value) has = has ∙ ap (λ all. slice_index_or all i new_stripe) (sym stripes)

-- where two tests agree on a list, so do others that follow from them
map_follows : {A : Type 0} (f g h k : A → Bool) (xs : List A) → ((x : A) → f x ≡ g x → h x ≡ k x) → map f xs ≡ map g xs → map h xs ≡ map k xs
map_follows f g h k [] follows same = refl
map_follows f g h k (x ∷ xs) follows same =
    let first : f x ≡ g x = cc in
    let more : map f xs ≡ map g xs = cc in
    ap₂ (λ (b : Bool) (bs : List Bool). b ∷ bs) (follows x first) (map_follows f g h k xs follows more)

-- steps on locks take and give no other step's place, and change no value
take_alone : (lock : Lock) → is_join (take_of lock) ≡ false
take_alone SlabsLock = refl
take_alone (StripeLock stripe) = refl

give_alone : (lock : Lock) → is_join (give_of lock) ≡ false
give_alone SlabsLock = refl
give_alone (StripeLock stripe) = refl

miss_quiet : (lock : Lock) → keeps_locks_and_hands (miss_of lock) ≡ true
miss_quiet SlabsLock = refl
miss_quiet (StripeLock stripe) = refl

take_slabs : (s : State) (id : ℕ) (lock : Lock) → (after_step s id (take_of lock)).slabs ≡ s.slabs
take_slabs s id SlabsLock = refl
take_slabs s id (StripeLock stripe) = refl

take_stripes : (s : State) (id : ℕ) (lock : Lock) → (after_step s id (take_of lock)).stripes ≡ s.stripes
take_stripes s id SlabsLock = refl
take_stripes s id (StripeLock stripe) = refl

give_slabs : (s : State) (id : ℕ) (lock : Lock) → (after_step s id (give_of lock)).slabs ≡ s.slabs
give_slabs s id SlabsLock = refl
give_slabs s id (StripeLock stripe) = refl

give_stripes : (s : State) (id : ℕ) (lock : Lock) → (after_step s id (give_of lock)).stripes ≡ s.stripes
give_stripes s id SlabsLock = refl
give_stripes s id (StripeLock stripe) = refl

-- the word of the lock, as the state has it
abbrev word_of : State → Lock → ℕ
word_of s SlabsLock = s.slabs_lock
word_of s (StripeLock stripe) = slice_index s.stripe_locks stripe

module _ (setup : Setup) (cuts words : List ℕ) (s : State) (are : WordsOf setup cuts words s) where
  word_read : (lock : Lock) → IsLockOf setup lock → slice_index words (lock_address (lock_number lock)) ≡ word_of s lock
  word_read SlabsLock in_range = slabs_lock_read setup cuts words s.slabs_lock s.stripe_locks s.heads s.words are
  word_read (StripeLock stripe) in_range = lock_read setup cuts words s.slabs_lock s.stripe_locks s.heads s.words are stripe (omega arith)

  take_words : (id word : ℕ) (lock : Lock) → IsLockOf setup lock → core_locks.lock_word s id ≡ word → WordsOf setup cuts (slice_set words (lock_address (lock_number lock)) word) (after_step s id (take_of lock))
  take_words id word SlabsLock in_range is =
      subst (λ (n : ℕ). WordsOf setup cuts (slice_set words slabs_word n) (after_step s id (take_of SlabsLock))) is (slabs_lock_written setup cuts words s.slabs_lock s.stripe_locks s.heads s.words are (core_locks.lock_word s id))
  take_words id word (StripeLock stripe) in_range is =
      subst (λ (n : ℕ). WordsOf setup cuts (slice_set words (lock_address (suc stripe)) n) (after_step s id (take_of (StripeLock stripe)))) is
      (lock_written setup cuts words s.slabs_lock s.stripe_locks s.heads s.words are stripe (core_locks.lock_word s id) (omega arith))

  give_words : (id : ℕ) (lock : Lock) → IsLockOf setup lock → WordsOf setup cuts (slice_set words (lock_address (lock_number lock)) 0) (after_step s id (give_of lock))
  give_words id SlabsLock in_range = slabs_lock_written setup cuts words s.slabs_lock s.stripe_locks s.heads s.words are 0
  give_words id (StripeLock stripe) in_range = lock_written setup cuts words s.slabs_lock s.stripe_locks s.heads s.words are stripe 0 (omega arith)

  miss_words : (id : ℕ) (lock : Lock) → WordsOf setup cuts (slice_set words (lock_address (lock_number lock)) (slice_index words (lock_address (lock_number lock)))) (after_step s id (miss_of lock))
  miss_words id SlabsLock = unwritten setup cuts words s.slabs_lock s.stripe_locks s.heads s.words are slabs_word
  miss_words id (StripeLock stripe) =
      subst (λ (c : Columns). WordsAreColumns setup cuts (slice_set words (lock_address (suc stripe)) (slice_index words (lock_address (suc stripe)))) c.0 c.1 c.2 c.3) (sym (looked_keeps columns s id _ refl))
      (unwritten setup cuts words s.slabs_lock s.stripe_locks s.heads s.words are (lock_address (suc stripe)))

module _ (setup : Setup) (slots id : ℕ) (me : Sits) (live : IsSettled me.0) (of : me.0.setup ≡ setup) (lock : Lock) (in_range : IsLockOf setup lock) where
  -- the lock's number, slot and word
  abbrev which : ℕ
  which = lock_number lock

  abbrev home_at : ℕ
  home_at = slot_of lock

  abbrev place : ℕ
  place = lock_address which

  module _ (t : WordsOfTable) (r : IsRuled setup t) (at : get_elem? t.views id ≡ some me.0) where
    abbrev m : Moment
    m = r.moment

    there : is_hand m.state id ≡ true
    there = (was setup slots id me live of t r at).there

    own : me.0 ≡ view_at setup me.0.spare (events_of id r.run) m id
    own = (was setup slots id me live of t r at).is ∙ ap (λ (s : Setup). view_at s me.0.spare (events_of id r.run) m id) of

    -- what the hand has made with this step
    abbrev made_with : Step → List OwnEvent
    made_with next = me.0.events ++ own_event [] next ∷ []

    made_before : me.0.events ≡ events_of id r.run
    made_before = ap (λ (v : View). v.events) own

    may : (next : Step) → allows_step m.state id next ≡ true → MayStep m id next
    may next allowed = record { lawful = r.lawful; there = there; allowed = allowed }

    lock_count : length m.state.stripe_locks ≡ setup.config.stripes
    lock_count = r.lawful.legal.lock_count ∙ r.means.stripes

    place_within : place < length t.words
    place_within = let wide = r.means.words.wide in omega arith

    -- all other locks' values are as they were
    home_elsewhere : (now : State) (homes : List (maybe.Option Slot)) (word : ℕ) → now.slabs ≡ m.state.slabs → now.stripes ≡ m.state.stripes → ((k : ℕ) → k ≢ home_at → get_elem? homes k ≡ get_elem? t.homes k)
        → (k : ℕ) → k ≤ setup.config.stripes → k ≢ which → slice_index (slice_set t.words place word) (lock_address k) ≡ 0 → (slot : Slot) × (get_elem? homes (slot_at k) ≡ some (some slot)) × Has now k slot
    home_elsewhere now homes word slabs stripes same k within apart free =
        let (slot, home, has) = r.means.homes k within (sym (get_or-set_other t.words place (lock_address k) word 0 (λ e. apart (omega arith))) ∙ free) in
        (slot, same (slot_at k) (λ e. apart (omega arith)) ∙ home, has_same m.state now slabs stripes k slot has)

    -- what the hand knows of a next moment is of a lawful one
    lawful_next : (step : Step) → MayStep m id step → (words : List ℕ) → IsNext m (moment_stepped m id step) id → WordsOf setup r.cuts words (moment_stepped m id step).state → (moment_stepped m id step).state.slabs ≡ m.state.slabs
        → LawfulView (view_at setup me.0.spare (made_with step) (moment_stepped m id step) id)
    lawful_next step can words next are slabs = record {
      moment = moment_stepped m id step;
      hand = id;
      lawful = next.lawful;
      same_table = next.table ∙ r.means.same_table;
      hands = next.count ∙ r.means.hands;
      stripes = next.stripe_count ∙ r.means.stripes;
      there = ap is_some next.number ∙ there;
      run = r.run ++ event_of id [] step ∷ [];
      reached = leads_stepped setup r.run m id step r.reached there can.allowed;
      is = ap (λ (events : List OwnEvent). view_at setup me.0.spare events (moment_stepped m id step) id) (own_made setup t r id me.0 at (event_of id [] step) refl made_before);
      words = words;
      cuts = r.cuts;
      are = are;
      cut = subst (AreCut r.cuts) (sym slabs) r.means.cut;
    }

    one_hand : (events : List OwnEvent) (now : Moment) → IsNext m now id → IsOneHand me.0 (view_at setup me.0.spare events now id)
    one_hand events now next = (sym of, refl, next.number ∙ ap (λ (v : View). v.row.ids.number) (sym own))

    happens_by : (next : Step) → MayStep m id next → Happens me.0 [] next (view_at setup me.0.spare (made_with next) (moment_stepped m id next) id)
    happens_by next can = record {
      was = was setup slots id me live of t r at;
      allowed = and_from _ _ there can.allowed;
      is = ap (λ (s : Setup). view_at s me.0.spare (made_with next) (moment_stepped m id next) id) (sym of);
    }

    -- who has which stripe, before
    stripes_had : (has : ℕ → Bool) → HasStripes me.0 has → map (λ i. is_some (held_stripe m.state id i)) (range_with_len 0 setup.config.stripes) ≡ map has (range_with_len 0 setup.config.stripes)
    stripes_had has had =
        sym (map_map (held_stripe m.state id) is_some (range_with_len 0 setup.config.stripes))
        ∙ (ap (λ (v : View). map is_some v.stripes) (sym own) ∙ (had ∙ ap (λ (s : Setup). map has (range_with_len 0 s.config.stripes)) of))

    module _ (number : ℕ) (number_is : number_at m.state id ≡ Some number) (free : slice_index t.words place ≡ 0) where
      word_free : word_of m.state lock ≡ 0
      word_free = sym (word_read setup r.cuts t.words m.state r.means.words lock in_range) ∙ free

      allowed_take : (l : Lock) → IsLockOf setup l → word_of m.state l ≡ 0 → allows_step m.state id (take_of l) ≡ true
      allowed_take SlabsLock within zero_is = eq-eqb m.state.slabs_lock 0 zero_is
      allowed_take (StripeLock stripe) within zero_is =
          let count = lock_count in
          and_from _ _ (lt-ltb stripe (length m.state.stripe_locks) (omega arith)) (eq-eqb (slice_index m.state.stripe_locks stripe) 0 zero_is)

      can_take : MayStep m id (take_of lock)
      can_take = may (take_of lock) (allowed_take lock in_range word_free)

      abbrev taken : Moment
      taken = moment_stepped m id (take_of lock)

      word_is : core_locks.lock_word m.state id ≡ number + 1
      word_is = ap (λ o. option_map_or (λ n. n + 1) o 0) number_is

      take_next : IsNext m taken id
      take_next = step_next m id (take_of lock) (take_alone lock) can_take

      written : WordsOf setup r.cuts (slice_set t.words place (number + 1)) taken.state
      written = take_words setup r.cuts t.words m.state r.means.words id (number + 1) lock in_range word_is

      has_it : is_held_by (number + 1) (number_at m.state id) ≡ true
      has_it = ap (is_held_by (number + 1)) number_is ∙ eq-eqb (number + 1) (number + 1) refl

      has_value : (l : Lock) (slot : Slot) → IsLockOf setup l → Has m.state (lock_number l) slot → HasValue (view_at setup me.0.spare (made_with (take_of l)) (moment_stepped m id (take_of l)) id) l slot
      has_value SlabsLock Empty within has = absurd has
      has_value SlabsLock (OfSlabs value) within has = ap (λ w. if is_held_by w (number_at m.state id) then Some m.state.slabs else None) word_is ∙ (ap (λ b. if b then Some m.state.slabs else None) has_it ∙ ap Some (sym has))
      has_value SlabsLock (OfStripe value) within has = absurd has
      has_value (StripeLock stripe) Empty within has = absurd has
      has_value (StripeLock stripe) (OfSlabs value) within has = absurd has
      has_value (StripeLock stripe) (OfStripe value) within has =
          let count = lock_count in
          get_or-map-range_with_len (held_stripe (moment_stepped m id (take_of (StripeLock stripe))).state id) 0 setup.config.stripes stripe stripe None (omega arith) (zero-add stripe)
          ∙ (ap (λ w. if is_held_by w (number_at m.state id) then Some (stripe_at m.state stripe) else None) (get_or-set_same m.state.stripe_locks stripe (core_locks.lock_word m.state id) 0 (omega arith) ∙ word_is)
          ∙ (ap (λ b. if b then Some (stripe_at m.state stripe) else None) has_it ∙ ap Some (sym has)))

      gains : (l : Lock) → IsLockOf setup l → word_of m.state l ≡ 0 → Gains l me.0 (view_at setup me.0.spare (made_with (take_of l)) (moment_stepped m id (take_of l)) id)
      gains SlabsLock within zero_is = (
        ap (λ (v : View). is_some v.slabs) own ∙ (has_if (has_slabs m.state id) m.state.slabs ∙ (ap (λ w. is_held_by w (number_at m.state id)) zero_is ∙ free_lock (number_at m.state id))),
        has_if (is_held_by (core_locks.lock_word m.state id) (number_at m.state id)) m.state.slabs ∙ (ap (λ w. is_held_by w (number_at m.state id)) word_is ∙ has_it),
        ap (λ (v : View). map is_some v.stripes) (sym own),
      )
      gains (StripeLock stripe) within zero_is =
          let count = lock_count in
          let now : State = (moment_stepped m id (take_of (StripeLock stripe))).state in
          let each : (i : ℕ) → is_some (held_stripe m.state id i) ≡ false → is_some (held_stripe now id i) ≡ (stripe == i) = λ i none. elim (cases_eq stripe i) [
            | inl same ↦
                has_if (has_stripe now id i) (stripe_at m.state i)
                ∙ (ap (λ j. is_held_by (slice_index (slice_set m.state.stripe_locks stripe (core_locks.lock_word m.state id)) j) (number_at m.state id)) (sym same)
                ∙ (ap (λ w. is_held_by w (number_at m.state id)) (get_or-set_same m.state.stripe_locks stripe (core_locks.lock_word m.state id) 0 (omega arith) ∙ word_is) ∙ (has_it ∙ sym (eq-eqb stripe i same))))
            | inr apart ↦
                has_if (has_stripe now id i) (stripe_at m.state i)
                ∙ (ap (λ w. is_held_by w (number_at m.state id)) (get_or-set_other m.state.stripe_locks stripe i (core_locks.lock_word m.state id) 0 (λ e. apart (sym e)))
                ∙ (sym (has_if (has_stripe m.state id i) (stripe_at m.state i)) ∙ (none ∙ sym (ne_eqb stripe i apart))))
          ] in (
            ap (λ (v : View). is_some v.slabs) (sym own),
            λ had.
                map_map (held_stripe now id) is_some (range_with_len 0 setup.config.stripes)
                ∙ map_follows (λ i. is_some (held_stripe m.state id i)) (λ i. false) (λ i. is_some (held_stripe now id i)) (λ i. stripe == i) (range_with_len 0 setup.config.stripes) each (stripes_had (λ i. false) had),
          )

      pub take_goes : (told : ℕ → Sits → Type 0) → ((now : Sits) → TakesValue lock me now → told (slice_index t.words place) now) → Goes setup slots id me live of t place told (number + 1)
      take_goes told tells =
          let (slot, home, has) = r.means.homes which in_range free in
          let w : View = view_at setup me.0.spare (made_with (take_of lock)) taken id in (
            w,
            takes home_at slot,
            home,
            ruled_next setup t r id me.0 at r.cuts taken (r.run ++ event_of id [] (take_of lock) ∷ []) (slice_set t.words place (number + 1)) (slice_set t.homes home_at none) w take_next (leads_stepped setup r.run m id (take_of lock) r.reached there can_take.allowed) (others_made setup t r id me.0 at (event_of id [] (take_of lock)) refl) written (subst (AreCut r.cuts) (sym (take_slabs m.state id lock)) r.means.cut) (λ k. by_place k)
                (length-set t.homes home_at none) (is_view_now setup t r id me.0 at taken (r.run ++ event_of id [] (take_of lock) ∷ []) (made_with (take_of lock)) (own_made setup t r id me.0 at (event_of id [] (take_of lock)) refl made_before) take_next there) refl,
            tells (w, (home_at, slot) ∷ me.1) (record {
              slot = slot;
              out = refl;
              value = has_value lock slot in_range has;
              gains = gains lock in_range word_free;
              same = one_hand (made_with (take_of lock)) taken take_next;
              lawful = lawful_next (take_of lock) can_take (slice_set t.words place (number + 1)) take_next written (take_slabs m.state id lock);
              happens = happens_by (take_of lock) can_take;
            }),
          )
        where
          by_place : (k : ℕ) → k ≤ setup.config.stripes → slice_index (slice_set t.words place (number + 1)) (lock_address k) ≡ 0 → (slot : Slot) × (get_elem? (slice_set t.homes home_at none) (slot_at k) ≡ some (some slot)) × Has taken.state k slot
          by_place k within zero_is = elim (cases_eq k which) [
            | inl same ↦
                let inside = place_within in
                absurd (let z : number + 1 ≡ 0 = sym (get_or-set_same t.words place (number + 1) 0 inside) ∙ (ap (λ j. slice_index (slice_set t.words place (number + 1)) (lock_address j)) (sym same) ∙ zero_is) in omega arith)
            | inr differs ↦ home_elsewhere taken.state (slice_set t.homes home_at none) (number + 1) (take_slabs m.state id lock) (take_stripes m.state id lock) (λ j apart. set_else t.homes home_at j none apart) k within differs zero_is
          ]

    module _ (slot : Slot) (value : HasValue me.0 lock slot) (whole : may_be_given_back slot ≡ true) where
      abbrev given : Moment
      given = moment_stepped m id (give_of lock)

      own_value : HasValue (view_at setup me.0.spare (events_of id r.run) m id) lock slot
      own_value = subst (λ (v : View). HasValue v lock slot) own value

      -- the lock is the hand's, and its value is the state's
      is_held : (l : Lock) → IsLockOf setup l → HasValue (view_at setup me.0.spare (events_of id r.run) m id) l slot → (is_held_by (word_of m.state l) (number_at m.state id) ≡ true) × Has m.state (lock_number l) slot
      is_held l within has = by_slot l slot within has
        where
          by_slot : (l : Lock) (slot : Slot) → IsLockOf setup l → HasValue (view_at setup me.0.spare (events_of id r.run) m id) l slot → (is_held_by (word_of m.state l) (number_at m.state id) ≡ true) × Has m.state (lock_number l) slot
          by_slot SlabsLock Empty within has = absurd has
          by_slot SlabsLock (OfSlabs value) within has = let both = held_from (has_slabs m.state id) m.state.slabs value has in (both.0, sym both.1)
          by_slot SlabsLock (OfStripe value) within has = absurd has
          by_slot (StripeLock stripe) Empty within has = absurd has
          by_slot (StripeLock stripe) (OfSlabs value) within has = absurd has
          by_slot (StripeLock stripe) (OfStripe value) within has =
              let both = held_from (has_stripe m.state id stripe) (stripe_at m.state stripe) value
              (sym (get_or-map-range_with_len (held_stripe m.state id) 0 setup.config.stripes stripe stripe None (omega arith) (zero-add stripe)) ∙ has) in
              (both.0, sym both.1)

      allowed_give : (l : Lock) (y : Slot) → Has m.state (lock_number l) y → is_held_by (word_of m.state l) (number_at m.state id) ≡ true → may_be_given_back y ≡ true → allows_step m.state id (give_of l) ≡ true
      allowed_give SlabsLock Empty has held can = absurd has
      allowed_give SlabsLock (OfSlabs y) has held can = and_from _ _ held (ap Rattle.mc_core.specs.run.Silent.none_half_cut (sym has) ∙ can)
      allowed_give SlabsLock (OfStripe y) has held can = absurd has
      allowed_give (StripeLock stripe) Empty has held can = absurd has
      allowed_give (StripeLock stripe) (OfSlabs y) has held can = absurd has
      allowed_give (StripeLock stripe) (OfStripe y) has held can = and_from _ _ held (ap (λ (v : ReadyStripe). is_none v.state.aside) (sym has) ∙ can)

      can_give_it : MayStep m id (give_of lock)
      can_give_it = let held = is_held lock in_range own_value in may (give_of lock) (allowed_give lock slot held.1 held.0 whole)

      give_next : IsNext m given id
      give_next = step_next m id (give_of lock) (give_alone lock) can_give_it

      written_back : WordsOf setup r.cuts (slice_set t.words place 0) given.state
      written_back = give_words setup r.cuts t.words m.state r.means.words id lock in_range

      loses : (l : Lock) → IsLockOf setup l → Loses l me.0 (view_at setup me.0.spare (made_with (give_of l)) (moment_stepped m id (give_of l)) id)
      loses SlabsLock within = (
        has_if (is_held_by 0 (number_at m.state id)) m.state.slabs ∙ free_lock (number_at m.state id),
        ap (λ (v : View). map is_some v.stripes) (sym own),
      )
      loses (StripeLock stripe) within =
          let count = lock_count in
          let now : State = (moment_stepped m id (give_of (StripeLock stripe))).state in
          let each : (i : ℕ) → is_some (held_stripe m.state id i) ≡ (stripe == i) → is_some (held_stripe now id i) ≡ false = λ i had. elim (cases_eq stripe i) [
            | inl same ↦
                has_if (has_stripe now id i) (stripe_at m.state i)
                ∙ (ap (λ j. is_held_by (slice_index (slice_set m.state.stripe_locks stripe 0) j) (number_at m.state id)) (sym same)
                ∙ (ap (λ w. is_held_by w (number_at m.state id)) (get_or-set_same m.state.stripe_locks stripe 0 0 (omega arith)) ∙ free_lock (number_at m.state id)))
            | inr apart ↦
                has_if (has_stripe now id i) (stripe_at m.state i)
                ∙ (ap (λ w. is_held_by w (number_at m.state id)) (get_or-set_other m.state.stripe_locks stripe i 0 0 (λ e. apart (sym e)))
                ∙ (sym (has_if (has_stripe m.state id i) (stripe_at m.state i)) ∙ (had ∙ ne_eqb stripe i apart)))
          ] in (
            ap (λ (v : View). is_some v.slabs) (sym own),
            λ had.
                map_map (held_stripe now id) is_some (range_with_len 0 setup.config.stripes)
                ∙ map_follows (λ i. is_some (held_stripe m.state id i)) (λ i. stripe == i) (λ i. is_some (held_stripe now id i)) (λ i. false) (range_with_len 0 setup.config.stripes) each (stripes_had (λ i. stripe == i) had),
          )

      pub give_goes : me.1 ≡ (home_at, slot) ∷ rest me.1 → Goes setup slots id me live of t place (λ _. GivesValue lock me) 0
      give_goes out =
          let w : View = view_at setup me.0.spare (made_with (give_of lock)) given id in
          let back : table.put_back t.homes me.1 ≡ slice_set t.homes home_at (some slot) = ap (table.put_back t.homes) out in
          let rule : IsRuled setup (record { words = slice_set t.words place 0; homes = slice_set t.homes home_at (some slot); views = slice_set t.views id w }) =
          ruled_next setup t r id me.0 at r.cuts given (r.run ++ event_of id [] (give_of lock) ∷ []) (slice_set t.words place 0) (slice_set t.homes home_at (some slot)) w give_next (leads_stepped setup r.run m id (give_of lock) r.reached there can_give_it.allowed) (others_made setup t r id me.0 at (event_of id [] (give_of lock)) refl) written_back (subst (AreCut r.cuts) (sym (give_slabs m.state id lock)) r.means.cut) (λ k. by_place k)
          (length-set t.homes home_at (some slot)) (is_view_now setup t r id me.0 at given (r.run ++ event_of id [] (give_of lock) ∷ []) (made_with (give_of lock)) (own_made setup t r id me.0 at (event_of id [] (give_of lock)) refl made_before) give_next there) refl in (
            w,
            gives,
            tt,
            subst (λ (homes : List (maybe.Option Slot)). IsRuled setup (record { words = slice_set t.words place 0; homes = homes; views = slice_set t.views id w })) (sym back) rule,
            record {
              out = refl;
              loses = loses lock in_range;
              same = one_hand (made_with (give_of lock)) given give_next;
              lawful = lawful_next (give_of lock) can_give_it (slice_set t.words place 0) give_next written_back (give_slabs m.state id lock);
              happens = happens_by (give_of lock) can_give_it;
            },
          )
        where
          by_place : (k : ℕ) → k ≤ setup.config.stripes → slice_index (slice_set t.words place 0) (lock_address k) ≡ 0 → (y : Slot) × (get_elem? (slice_set t.homes home_at (some slot)) (slot_at k) ≡ some (some y)) × Has given.state k y
          by_place k within zero_is = elim (cases_eq k which) [
            | inl same ↦
                let count = r.means.slots in
                subst (λ (j : ℕ). (y : Slot) × (get_elem? (slice_set t.homes home_at (some slot)) (slot_at j) ≡ some (some y)) × Has given.state j y) (sym same)
                (slot, set_here t.homes home_at (some slot) (omega arith), has_same m.state given.state (give_slabs m.state id lock) (give_stripes m.state id lock) which slot (is_held lock in_range own_value).1)
            | inr differs ↦ home_elsewhere given.state (slice_set t.homes home_at (some slot)) 0 (give_slabs m.state id lock) (give_stripes m.state id lock) (λ j apart. set_else t.homes home_at j (some slot) apart) k within differs zero_is
          ]

  -- the exchange of a try
  pub tries : (number : ℕ) → me.0.row.ids.number ≡ Some number → Allows (Rule setup) slots id me place (λ n. either (eqb n 0) (number + 1) n) (Takes lock (table.step slots place 0 (number + 1) none) me)
  tries number is =
      let told : ℕ → Sits → Type 0 = Takes lock (table.step slots place 0 (number + 1) none) me in
      lifts setup slots id me live.1 place (λ n. either (eqb n 0) (number + 1) n) told
      (λ t r _ at fits.
      let m : Moment = r.moment in
      let number_is : number_at m.state id ≡ Some number = ap (λ (v : View). v.row.ids.number) (sym (own t r at)) ∙ is in
      exchanged (slice_index t.words place) 0 (number + 1) (Goes setup slots id me live of t place told)
      (λ free. take_goes t r at number number_is free told (λ now takes. ((λ _. takes), λ busy. absurd (busy free))))
      (λ busy.
      goes setup slots id me live of t r at (miss_of lock) (miss_quiet lock) place (slice_index t.words place) (allowed_miss t r at lock in_range) (miss_words setup r.cuts t.words m.state r.means.words id lock) told
      (λ out happens. ((λ free. absurd (busy free)), λ _. (out, happens)))))
    where
      allowed_miss : (t : WordsOfTable) (r : IsRuled setup t) (at : get_elem? t.views id ≡ some me.0) (l : Lock) → IsLockOf setup l → allows_step r.moment.state id (miss_of l) ≡ true
      allowed_miss t r at SlabsLock within = refl
      allowed_miss t r at (StripeLock stripe) within = let count = lock_count t r at in lt-ltb stripe (length r.moment.state.stripe_locks) (omega arith)

  -- the store of a give
  pub gives_back : (slot : Slot) → HasValue me.0 lock slot → may_be_given_back slot ≡ true → me.1 ≡ (slot_of lock, slot) ∷ rest me.1 → Allows (Rule setup) slots id me place (λ _. 0) (λ _. GivesValue lock me)
  gives_back slot value whole out = lifts setup slots id me live.1 place (λ _. 0) (λ _. GivesValue lock me) (λ t r _ at fits. give_goes t r at slot value whole out)
