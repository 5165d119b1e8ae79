-- The frame of takes, gives and joins, and so of every step and change.
use Rattle.std.proofs.Common.{◌≡◌, ◌≢◌, ℕ, ◌+◌, ◌==◌, Bool, true, false, List, [], ◌++◌, length, Option, Some, None, refl, sym, ap, ◌∙◌, subst, inl, inr, arith, is_some, slice_index, slice_index_or, slice_set, if◌then◌else◌, eqb-true, length-set, get_or-set_same, get_or-set_other}
use Rattle.std.specs.Option.{option_map_or}
use Rattle.std.proofs.lemmas.Bool.{and_parts, cases_eq, cases_lt, cases_Bool, ne_eqb, eqb-false}
use Rattle.std.proofs.lemmas.List.{set_past}
use Rattle.mc_core.specs.declared.event.Step.{Step}
use Rattle.mc_core.specs.declared.event.Step.TheVariants.{TakeSlabs, TakeStripe, GiveSlabs, GiveStripe, Join}
use Rattle.mc_core.specs.declared.event.Step.TheVariants as step
use Rattle.mc_core.specs.declared.event.Change.{Change}
use Rattle.mc_core.specs.model.State.{no_ids, is_held_by, number_at, has_slabs, has_stripe, stripe_at}
use Rattle.mc_core.specs.run.Locks.{lock_word, has_stripes}
use Rattle.mc_core.specs.run.Silent.{none_half_cut}
use Rattle.mc_core.specs.past.Past.{Moment, no_hold, with_more, longer_each, moment_stepped, moment_changed}
use Rattle.mc_core.specs.law.Frame.{IsFramed, HasSame, AreFramed, takes_over}
use Rattle.mc_core.specs.law.Laws.{MayStep, MayChange}
use Rattle.mc_core.proofs.Law.LawKept.{lawful_steps}
use Rattle.mc_core.proofs.Hands.MoreRows.{row_of}
use Rattle.mc_core.proofs.Known.KnownCondemned.{are_joined}
use Rattle.mc_core.proofs.Known.Learned.{is_join}
use Rattle.mc_core.proofs.Hands.RowsKept.{by_join}
use Rattle.mc_core.proofs.Seen.SeenHolder.{one_holder}
use Rattle.mc_core.proofs.Frame.Guards.{guards_step, guards_change}
use Rattle.mc_core.proofs.Frame.Frames.{row_stays}
use Rattle.mc_core.proofs.Law.Next.{IsNext, one_stripe_holder, quiet_step, quiet_change}

-- nobody has a lock that is free
pub free_lock : (number : Option ℕ) → is_held_by 0 number ≡ false
free_lock None = refl
free_lock (Some n) = ne_eqb 0 (n + 1) (λ is. omega arith)

-- nor has a hand the lock that another one's number is in
pub not_others : (word number : ℕ) (other : Option ℕ) → word ≡ number + 1 → (other ≡ Some number → ⊥) → is_held_by word other ≡ false
not_others word number None is apart = refl
not_others word number (Some n) is apart = ne_eqb word (n + 1) (λ same. apart (ap Some (omega arith)))

-- where it has the lock neither before nor after, it sees nothing both times
pub both_none : {X : Type 0} (b c : Bool) (x y : X) → b ≡ false → c ≡ false → (if c then Some y else None) ≡ (if b then Some x else None)
both_none b c x y before after = ap (λ d. if d then Some y else None) after ∙ sym (ap (λ d. if d then Some x else None) before)

-- the word of a lock that the hand takes is its number plus 1
number_of_hand : (number : Option ℕ) → is_some number ≡ true → (n : ℕ) × (number ≡ Some n) × (option_map_or (λ k. k + 1) number 0 ≡ n + 1)
number_of_hand None there = absurd (cc)
number_of_hand (Some n) there = (n, refl, refl)

-- one lock's word is written, which the hand doesn't have, neither before nor after
held_elsewhere : {X : Type 0} (locks : List ℕ) (stripe word : ℕ) (number : Option ℕ) (value : ℕ → X) → is_held_by (slice_index locks stripe) number ≡ false → is_held_by word number ≡ false → (i : ℕ) →
    (if is_held_by (slice_index (slice_set locks stripe word) i) number then Some (value i) else None) ≡ (if is_held_by (slice_index locks i) number then Some (value i) else None)
held_elsewhere locks stripe word number value before after i =
    elim (cases_eq i stripe) [
      | inl same ↦
          elim (cases_lt stripe (length locks)) [
            | inl within ↦
                let here : slice_index (slice_set locks stripe word) i ≡ word = ap (λ k. slice_index (slice_set locks stripe word) k) same ∙ get_or-set_same locks stripe word 0 within in
                both_none _ _ (value i) (value i) (ap (λ k. is_held_by (slice_index locks k) number) same ∙ before) (ap (λ w. is_held_by w number) here ∙ after)
            | inr past ↦ ap (λ (ws : List ℕ). if is_held_by (slice_index ws i) number then Some (value i) else None) (set_past locks stripe word past)
          ]
      | inr apart ↦ ap (λ w. if is_held_by w number then Some (value i) else None) (get_or-set_other locks stripe i word 0 apart)
    ]

module _ (m : Moment) (id : ℕ) where
  pub take_slabs_next : MayStep m id TakeSlabs → IsNext m (moment_stepped m id TakeSlabs) id
  take_slabs_next may =
      let (n, is, word) = number_of_hand (number_at m.state id) may.there in
      let free = eqb-true m.state.slabs_lock 0 may.allowed in
      record {
        lawful = lawful_steps m id TakeSlabs may;
        table = refl;
        count = refl;
        stripe_count = refl;
        number = refl;
        rows = λ other apart. row_stays m id other TakeSlabs refl apart;
        slabs = λ other apart. both_none (has_slabs m.state other) _ m.state.slabs m.state.slabs (ap (λ w. is_held_by w (number_at m.state other)) free ∙ free_lock (number_at m.state other))
            (not_others (lock_word m.state id) n (number_at m.state other) word (λ same. apart (may.lawful.hands.apart other id n same is)));
        stripes = λ other i apart. refl;
      }

  pub give_slabs_next : MayStep m id GiveSlabs → IsNext m (moment_stepped m id GiveSlabs) id
  give_slabs_next may =
      let has = (and_parts (has_slabs m.state id) (none_half_cut m.state.slabs) may.allowed).0 in
      record {
        lawful = lawful_steps m id GiveSlabs may;
        table = refl;
        count = refl;
        stripe_count = refl;
        number = refl;
        rows = λ other apart. row_stays m id other GiveSlabs refl apart;
        slabs = λ other apart. both_none (has_slabs m.state other) _ m.state.slabs m.state.slabs
            (elim (cases_Bool (has_slabs m.state other)) [ inl theirs ↦ absurd (apart (one_holder m may.lawful other id theirs has)) | inr none ↦ none ]) (free_lock (number_at m.state other));
        stripes = λ other i apart. refl;
      }

  pub take_stripe_next : (stripe : ℕ) → MayStep m id (TakeStripe stripe) → IsNext m (moment_stepped m id (TakeStripe stripe)) id
  take_stripe_next stripe may =
      let (n, is, word) = number_of_hand (number_at m.state id) may.there in
      let free = eqb-true (slice_index m.state.stripe_locks stripe) 0 (and_parts (has_stripes m.state stripe) (slice_index m.state.stripe_locks stripe == 0) may.allowed).1 in
      record {
        lawful = lawful_steps m id (TakeStripe stripe) may;
        table = refl;
        count = refl;
        stripe_count = refl;
        number = refl;
        rows = λ other apart. row_stays m id other (TakeStripe stripe) refl apart;
        slabs = λ other apart. refl;
        stripes = λ other i apart. held_elsewhere m.state.stripe_locks stripe (lock_word m.state id) (number_at m.state other) (stripe_at m.state) (ap (λ w. is_held_by w (number_at m.state other)) free ∙ free_lock (number_at m.state other))
            (not_others (lock_word m.state id) n (number_at m.state other) word (λ same. apart (may.lawful.hands.apart other id n same is))) i;
      }

  pub give_stripe_next : (stripe : ℕ) → MayStep m id (GiveStripe stripe) → IsNext m (moment_stepped m id (GiveStripe stripe)) id
  give_stripe_next stripe may =
      let has = (and_parts (has_stripe m.state id stripe) _ may.allowed).0 in
      record {
        lawful = lawful_steps m id (GiveStripe stripe) may;
        table = refl;
        count = refl;
        stripe_count = refl;
        number = refl;
        rows = λ other apart. row_stays m id other (GiveStripe stripe) refl apart;
        slabs = λ other apart. refl;
        stripes = λ other i apart. held_elsewhere m.state.stripe_locks stripe 0 (number_at m.state other) (stripe_at m.state)
            (elim (cases_Bool (has_stripe m.state other stripe)) [ inl theirs ↦ absurd (apart (one_stripe_holder m may.lawful other id stripe theirs has)) | inr none ↦ none ])
            (free_lock (number_at m.state other)) i;
      }

  -- the same of a step in one of four ways
  pub step_next : (next : Step) → is_join next ≡ false → MayStep m id next → IsNext m (moment_stepped m id next) id
  step_next TakeSlabs alone may = take_slabs_next may
  step_next (TakeStripe stripe) alone may = take_stripe_next stripe may
  step_next step.MissSlabs alone may = (quiet_step m id step.MissSlabs refl refl may).next
  step_next (step.MissStripe stripe) alone may = (quiet_step m id (step.MissStripe stripe) refl refl may).next
  step_next GiveSlabs alone may = give_slabs_next may
  step_next (GiveStripe stripe) alone may = give_stripe_next stripe may
  step_next (step.Head chunk) alone may = (quiet_step m id (step.Head chunk) refl refl may).next
  step_next (step.Pop class) alone may = (quiet_step m id (step.Pop class) refl refl may).next
  step_next (step.PopOff old) alone may = (quiet_step m id (step.PopOff old) refl refl may).next
  step_next (step.Fill chunk place word) alone may = (quiet_step m id (step.Fill chunk place word) refl refl may).next
  step_next (step.Word chunk place) alone may = (quiet_step m id (step.Word chunk place) refl refl may).next
  step_next (step.WordHeld chunk place) alone may = (quiet_step m id (step.WordHeld chunk place) refl refl may).next
  step_next (step.Link chunk) alone may = (quiet_step m id (step.Link chunk) refl refl may).next
  step_next (step.Refer key) alone may = (quiet_step m id (step.Refer key) refl refl may).next
  step_next (step.Unlink key) alone may = (quiet_step m id (step.Unlink key) refl refl may).next
  step_next (step.Release chunk) alone may = (quiet_step m id (step.Release chunk) refl refl may).next
  step_next (step.Discard chunk) alone may = (quiet_step m id (step.Discard chunk) refl refl may).next
  step_next (step.Condemn chunk) alone may = (quiet_step m id (step.Condemn chunk) refl refl may).next
  step_next (step.PutBack chunk) alone may = (quiet_step m id (step.PutBack chunk) refl refl may).next
  step_next (step.Clear chunk) alone may = (quiet_step m id (step.Clear chunk) refl refl may).next
  step_next (step.Cut page index) alone may = (quiet_step m id (step.Cut page index) refl refl may).next
  step_next (step.Again chunk issue) alone may = (quiet_step m id (step.Again chunk issue) refl refl may).next
  step_next (Join kept spent) alone may = absurd (cc)

  -- a hand that is neither of the two that are joined
  joined_same : (kept spent other : ℕ) → other ≢ kept → other ≢ spent → HasSame m (moment_stepped m id (Join kept spent)) other
  joined_same kept spent other first second = record {
    row = λ k. record {
      ids = get_or-set_other m.state.ids spent other no_ids no_ids second k;
      holdings = slice_index_or m.state.holdings other [];
      looks = get_or-set_other m.state.looks spent other [] [] second k;
      knows = record {
        seen_words = get_or-set_other m.past.seen_words spent other [] [] second k;
        hold = get_or-set_other m.past.holds spent other no_hold no_hold second k;
        mine = (get_or-set_other (with_more m.past.mine kept (row_of m.past.mine spent)) spent other [] [] second ∙ get_or-set_other m.past.mine kept other (row_of m.past.mine kept ++ row_of m.past.mine spent) [] first) k;
        seen = (get_or-set_other (slice_set m.past.seen kept (longer_each (row_of m.past.seen kept) (row_of m.past.seen spent))) spent other [] [] second
            ∙ get_or-set_other m.past.seen kept other (longer_each (row_of m.past.seen kept) (row_of m.past.seen spent)) [] first) k;
        stored = (get_or-set_other (with_more m.past.stored kept (row_of m.past.stored spent)) spent other [] [] second ∙ get_or-set_other m.past.stored kept other (row_of m.past.stored kept ++ row_of m.past.stored spent) [] first) k;
        known = (get_or-set_other (with_more m.past.known kept (row_of m.past.known spent)) spent other [] [] second ∙ get_or-set_other m.past.known kept other (row_of m.past.known kept ++ row_of m.past.known spent) [] first) k;
      };
    };
    slabs = ap (λ ids. if is_held_by m.state.slabs_lock ids.number then Some m.state.slabs else None) (get_or-set_other m.state.ids spent other no_ids no_ids second);
    stripes = λ i. ap (λ ids. if is_held_by (slice_index m.state.stripe_locks i) ids.number then Some (stripe_at m.state i) else None) (get_or-set_other m.state.ids spent other no_ids no_ids second);
  }

next_same : (m now : Moment) (id other : ℕ) → IsNext m now id → other ≢ id → HasSame m now other
next_same m now id other next apart = record { row = next.rows other apart; slabs = next.slabs other apart; stripes = λ i. next.stripes other i apart }

framed_alone : (m : Moment) (id : ℕ) (next : Step) → is_join next ≡ false → MayStep m id next → IsFramed m (moment_stepped m id next) id (λ other. (other ≢ id) × (takes_over next other ≡ false))
framed_alone m id next alone may =
    let is = step_next m id next alone may in
    record { table = is.table; hands = is.count; guarded = guards_step m.state id next may.allowed; others = λ other apart. next_same m (moment_stepped m id next) id other is apart.0 }

framed_joined : (m : Moment) (id kept spent : ℕ) → MayStep m id (Join kept spent) → IsFramed m (moment_stepped m id (Join kept spent)) id (λ other. (other ≢ id) × (takes_over (Join kept spent) other ≡ false))
framed_joined m id kept spent may =
    let join = are_joined m id kept spent may in
    record {
      table = refl;
      hands = length-set m.state.ids spent no_ids;
      guarded = guards_step m.state id (Join kept spent) may.allowed;
      others = λ other apart. joined_same m id kept spent other (λ same. apart.0 (same ∙ sym join.same)) (λ same. eqb-false spent other apart.1 (sym same));
    }

pub framed_steps : (m : Moment) (id : ℕ) (next : Step) → MayStep m id next → IsFramed m (moment_stepped m id next) id (λ other. (other ≢ id) × (takes_over next other ≡ false))
framed_steps m id next may = elim (by_join m.state id next) [
  | inl (alone, same) ↦ framed_alone m id next alone may
  | inr (kept, spent, is) ↦
      subst (λ (s : Step). MayStep m id s → IsFramed m (moment_stepped m id s) id (λ other. (other ≢ id) × (takes_over s other ≡ false))) (sym is) (framed_joined m id kept spent) may
]

pub framed_changes : (m : Moment) (id : ℕ) (change : Change) → MayChange m id change → IsFramed m (moment_changed m id change) id (λ other. other ≢ id)
framed_changes m id change may =
    let is = (quiet_change m id change may).next in
    record { table = is.table; hands = is.count; guarded = guards_change m.state id change may.allowed; others = λ other apart. next_same m (moment_changed m id change) id other is apart }

pub are_framed : AreFramed
are_framed = record { changes = framed_changes; steps = framed_steps }
