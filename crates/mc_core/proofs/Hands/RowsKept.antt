-- Each step keeps a row for each hand, and but for a join it keeps the hands' numbers.
use Rattle.std.proofs.Common.{◌≡◌, ◌≢◌, ◌⊎◌, ℕ, true, false, List, [], length, replicate, is_some, Option, Some, None, refl, sym, ap, ◌∙◌, subst, slice_set, length-set, inl, inr, arith}
use Rattle.std.specs.List.{range_with_len}
use Rattle.std.proofs.lemmas.Bool.{cases_eq, cases_lt, false≢true}
use Rattle.std.proofs.lemmas.List.{length-replicate, length-map, set_past, get_or_past, get_or-replicate}
use Rattle.std.proofs.lemmas.List.FromFn.{length-range_with_len}
use Rattle.mc_stripe.specs.declared.history.Call.{Call}
use Rattle.mc_stripe.specs.StripeState.{new_stripe}
use Rattle.mc_core.specs.declared.ids.Ids.{Ids}
use Rattle.mc_core.specs.declared.event.Step.{Step}
use Rattle.mc_core.specs.declared.event.Step.TheVariants as step
use Rattle.mc_core.specs.model.State.{State, no_ids, number_at, new_state}
use Rattle.mc_core.specs.past.Past.{Moment, seen_after, longer_each, learned_alone, moment_stepped}
use Rattle.mc_core.specs.law.Identities.{HaveRows, number_in}
use Rattle.mc_core.specs.law.Lawful.{RowsIn}
use Rattle.mc_core.specs.law.Laws.{MayStep, ChangesKeep, StepsKeep, HoldsAtFirst}
use Rattle.mc_core.specs.run.Run.{after_step}
use Rattle.mc_core.proofs.Frame.Own.{IsOwn, own_step, own_change}
use Rattle.mc_core.proofs.Known.Learned.{is_join, learned_is}
use Rattle.mc_core.proofs.Hands.MoreRows.{row_of, row_same, row_other}
use Rattle.mc_core.proofs.Hands.HandsSteps.{gone_set}
use Rattle.mc_core.proofs.Hands.NumberedSteps.{join_facts}
use Rattle.mc_core.proofs.Histories.SeenRows.{change_long, step_long, seen_long, longer_long}

-- as many hands, and each its number
pub record SameHands (before now : State) : Type 0 where
  pub long : length now.ids ≡ length before.ids
  pub numbers : (other : ℕ) → number_at now other ≡ number_at before other

same_hands : (s : State) → SameHands s s
same_hands s = record { long = refl; numbers = λ other. refl }

from_own : (s : State) (hand : ℕ) (step : Step) → IsOwn s (after_step s hand step) hand → SameHands s (after_step s hand step)
from_own s hand step own = record { long = own.long; numbers = own.numbers }

-- a step is a join, or keeps the numbers
pub by_join : (s : State) (hand : ℕ) (next : Step) → ((is_join next ≡ false) × SameHands s (after_step s hand next)) ⊎ ((kept : ℕ) × (spent : ℕ) × (next ≡ step.Join kept spent))
by_join s hand step.TakeSlabs = inl (refl, record { long = refl; numbers = λ other. refl })
by_join s hand (step.TakeStripe stripe) = inl (refl, record { long = refl; numbers = λ other. refl })
by_join s hand step.MissSlabs = inl (refl, same_hands s)
by_join s hand (step.MissStripe stripe) = inl (refl, from_own s hand (step.MissStripe stripe) (own_step s hand (step.MissStripe stripe) refl))
by_join s hand step.GiveSlabs = inl (refl, record { long = refl; numbers = λ other. refl })
by_join s hand (step.GiveStripe stripe) = inl (refl, record { long = refl; numbers = λ other. refl })
by_join s hand (step.Head chunk) = inl (refl, from_own s hand (step.Head chunk) (own_step s hand (step.Head chunk) refl))
by_join s hand (step.Pop class) = inl (refl, from_own s hand (step.Pop class) (own_step s hand (step.Pop class) refl))
by_join s hand (step.PopOff old) = inl (refl, from_own s hand (step.PopOff old) (own_step s hand (step.PopOff old) refl))
by_join s hand (step.Fill chunk place word) = inl (refl, from_own s hand (step.Fill chunk place word) (own_step s hand (step.Fill chunk place word) refl))
by_join s hand (step.Word chunk place) = inl (refl, same_hands s)
by_join s hand (step.WordHeld chunk place) = inl (refl, from_own s hand (step.WordHeld chunk place) (own_step s hand (step.WordHeld chunk place) refl))
by_join s hand (step.Link chunk) = inl (refl, from_own s hand (step.Link chunk) (own_step s hand (step.Link chunk) refl))
by_join s hand (step.Refer key) = inl (refl, from_own s hand (step.Refer key) (own_step s hand (step.Refer key) refl))
by_join s hand (step.Unlink key) = inl (refl, from_own s hand (step.Unlink key) (own_step s hand (step.Unlink key) refl))
by_join s hand (step.Release chunk) = inl (refl, from_own s hand (step.Release chunk) (own_step s hand (step.Release chunk) refl))
by_join s hand (step.Discard chunk) = inl (refl, from_own s hand (step.Discard chunk) (own_step s hand (step.Discard chunk) refl))
by_join s hand (step.Condemn chunk) = inl (refl, from_own s hand (step.Condemn chunk) (own_step s hand (step.Condemn chunk) refl))
by_join s hand (step.PutBack chunk) = inl (refl, from_own s hand (step.PutBack chunk) (own_step s hand (step.PutBack chunk) refl))
by_join s hand (step.Clear chunk) = inl (refl, from_own s hand (step.Clear chunk) (own_step s hand (step.Clear chunk) refl))
by_join s hand (step.Cut page index) = inl (refl, from_own s hand (step.Cut page index) (own_step s hand (step.Cut page index) refl))
by_join s hand (step.Again chunk issue) = inl (refl, from_own s hand (step.Again chunk issue) (own_step s hand (step.Again chunk issue) refl))
by_join s hand (step.Join kept spent) = inr (kept, spent, refl)

-- in each row of a live hand there are so many, and so there are after one is written
seen_kept : (ids : List Ids) (rows : List (List (List Call))) (count hand : ℕ) (row : List (List Call)) → ((other : ℕ) → is_some (number_in ids other) ≡ true → length (row_of rows other) ≡ count) →
    (is_some (number_in ids hand) ≡ true → length row ≡ count) → (other : ℕ) → is_some (number_in ids other) ≡ true → length (row_of (slice_set rows hand row) other) ≡ count
seen_kept ids rows count hand row each own other there = elim (cases_eq other hand) [
  | inl same ↦ elim (cases_lt hand (length rows)) [
    | inl within ↦ ap (λ h. length (row_of (slice_set rows hand row) h)) same ∙ (ap length (row_same rows hand row within) ∙ own (subst (λ h. is_some (number_in ids h) ≡ true) same there))
    | inr past ↦ ap (λ (rs : List (List (List Call))). length (row_of rs other)) (set_past rows hand row past) ∙ each other there
  ]
  | inr apart ↦ ap length (row_other rows hand other row apart) ∙ each other there
]

rows_alone : (m : Moment) (hand : ℕ) (step : Step) → RowsIn m → SameHands m.state (after_step m.state hand step) →
    HaveRows (after_step m.state hand step).ids (length (after_step m.state hand step).stripes) (learned_alone m.state (after_step m.state hand step) m.past hand step)
rows_alone m hand step l same = let long = same.long in record {
  seen_words = length-set m.past.seen_words hand _ ∙ l.seen_words ∙ sym long;
  holds = length-set m.past.holds hand _ ∙ l.holds ∙ sym long;
  mine = length-set m.past.mine hand _ ∙ l.mine ∙ sym long;
  seen = length-set m.past.seen hand _ ∙ l.seen ∙ sym long;
  stored = length-set m.past.stored hand _ ∙ l.stored ∙ sym long;
  known = length-set m.past.known hand _ ∙ l.known ∙ sym long;
  histories = λ other there.
      let now = step_long m.state hand step in
      let was : is_some (number_in m.state.ids other) ≡ true = ap is_some (sym (same.numbers other)) ∙ there in
      seen_kept m.state.ids m.past.seen (length m.state.stripes) hand (seen_after m.state step (row_of m.past.seen hand)) l.histories
      (λ here. seen_long m.state step (row_of m.past.seen hand) ∙ l.histories hand here) other was ∙ sym now;
}

-- a hand that is there after a join is another than the spent one, and was there
there_before : (ids : List Ids) (spent other : ℕ) (number : Option ℕ) → number_in (slice_set ids spent no_ids) other ≡ number → is_some number ≡ true → (other ≢ spent) × (is_some (number_in ids other) ≡ true)
there_before ids spent other None is there = absurd (cc)
there_before ids spent other (Some number) is there = let was = gone_set ids spent other number is in (was.0, ap is_some was.1)

rows_joined : (m : Moment) (hand kept spent : ℕ) → MayStep m hand (step.Join kept spent) → RowsIn (moment_stepped m hand (step.Join kept spent))
rows_joined m hand kept spent may =
    let l = may.lawful.rows in
    let long = length-set m.state.ids spent no_ids in
    let facts = join_facts m hand kept spent may in
    let in_kept = l.histories kept facts.3 in
    let in_spent = l.histories spent facts.4 in
    let both = longer_each (row_of m.past.seen kept) (row_of m.past.seen spent) in
    let put = slice_set m.past.seen kept both in
    record {
      seen_words = length-set m.past.seen_words spent _ ∙ l.seen_words ∙ sym long;
      holds = length-set m.past.holds spent _ ∙ l.holds ∙ sym long;
      mine = length-set _ spent _ ∙ length-set m.past.mine kept _ ∙ l.mine ∙ sym long;
      seen = length-set _ spent _ ∙ length-set m.past.seen kept _ ∙ l.seen ∙ sym long;
      stored = length-set _ spent _ ∙ length-set m.past.stored kept _ ∙ l.stored ∙ sym long;
      known = length-set _ spent _ ∙ length-set m.past.known kept _ ∙ l.known ∙ sym long;
      histories = λ other there.
          let was = there_before m.state.ids spent other (number_in (slice_set m.state.ids spent no_ids) other) refl there in
          ap length (row_other put spent other [] was.0)
          ∙ seen_kept m.state.ids m.past.seen (length m.state.stripes) kept both l.histories
          (λ _. longer_long (row_of m.past.seen kept) (row_of m.past.seen spent) (in_kept ∙ sym in_spent) ∙ in_kept) other was.1;
    }

pub rows_steps : StepsKeep RowsIn
rows_steps m hand step may =
    elim (by_join m.state hand step) [
      | inl (other, same) ↦ subst (HaveRows (after_step m.state hand step).ids (length (after_step m.state hand step).stripes)) (sym (learned_is m.state (after_step m.state hand step) m.past hand step other)) (rows_alone m hand step may.lawful.rows same)
      | inr (kept, spent, is) ↦ subst (λ (s : Step). RowsIn (moment_stepped m hand s)) (sym is) (rows_joined m hand kept spent (subst (MayStep m hand) is may))
    ]

pub rows_first : HoldsAtFirst RowsIn
rows_first table stripes hands start sound _ _ _ _ =
    let named = length-map (range_with_len 0 hands) _ ∙ length-range_with_len 0 hands in
    record {
      seen_words = length-replicate hands _ ∙ sym named;
      holds = length-replicate hands _ ∙ sym named;
      mine = length-map (range_with_len 0 hands) _ ∙ length-range_with_len 0 hands ∙ sym named;
      seen = length-replicate hands _ ∙ sym named;
      stored = length-replicate hands _ ∙ sym named;
      known = length-replicate hands _ ∙ sym named;
      histories = λ hand there. elim (cases_lt hand hands) [
        | inl within ↦ ap length (get_or-replicate hands hand (replicate stripes []) [] within) ∙ (length-replicate stripes [] ∙ sym (length-replicate stripes new_stripe))
        | inr past ↦ absurd (false≢true (sym (ap (λ (i : Ids). is_some i.number) (get_or_past (new_state table stripes hands start).ids hand no_ids (omega (arith, past, named)))) ∙ there))
      ];
    }

pub rows_changes : ChangesKeep RowsIn
rows_changes m hand change may =
    let l = may.lawful.rows in
    let own = own_change m.state hand change in
    record {
      seen_words = l.seen_words ∙ sym own.long;
      holds = l.holds ∙ sym own.long;
      mine = length-set m.past.mine hand _ ∙ l.mine ∙ sym own.long;
      seen = l.seen ∙ sym own.long;
      stored = l.stored ∙ sym own.long;
      known = l.known ∙ sym own.long;
      histories = λ other there. l.histories other (ap is_some (sym (own.numbers other)) ∙ there) ∙ sym (change_long m.state hand change);
    }
