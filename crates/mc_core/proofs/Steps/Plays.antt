-- Events, one after another.
use Rattle.std.proofs.Common.{◌≡◌, ℕ, zero, suc, ◌+◌, ◌<◌, ◌≤◌, ◌∙◌, arith, is_some, Bool, true, false, cond, List, [], ◌∷◌, length, drop, get_or, Result, Ok, Err, inl, inr, add-one, refl, sym, ap, subst}
use Rattle.std.proofs.Math.Seq.{drop-cons}
use Rattle.std.proofs.lemmas.Bool.{cases_lt}
use Rattle.std.proofs.lemmas.List.{get_or_past}
use Rattle.mc_core.specs.declared.ids.Ids.{Ids}
use Rattle.mc_classes.specs.declared.config.Config.{Config}
use Rattle.mc_classes.specs.Classes.{Classes, IsTableOf}
use Rattle.mc_classes.proofs.OneTable.{one_table}
use Rattle.mc_core.specs.declared.event.Event.{Event}
use Rattle.mc_core.specs.declared.stop.Stop.{Stop}
use Rattle.mc_core.specs.declared.stop.Stop.TheVariants.{NotAllowed, NoMemory}
use Rattle.mc_core.specs.model.State.{State, new_state, is_hand, no_ids}
use Rattle.mc_core.specs.run.Done.{IsResultOf}
use Rattle.mc_core.specs.run.Run.{is_allowed, state_after_event, state_after_all, play_from, EndsRunAs, IsPlayed}

-- the events from this place on
events_from : (events : List Event) (place : ℕ) (event : Event) → place < length events → event ≡ get_or events place event → drop place events ≡ event ∷ drop (suc place) events
events_from events place event within is = drop-cons events place event within ∙ ap (λ (e : Event). e ∷ drop (suc place) events) (sym is)

-- after the event at this place those behind it are left
pub more_events : (state new : State) (events : List Event) (place : ℕ) (event : Event) (told : Bool) → place < length events → event ≡ get_or events place event →
    IsResultOf (is_allowed state event) (state_after_event state event) new told → told ≡ true →
    play_from (place + 1) new (drop (place + 1) events) ≡ play_from place state (drop place events)
more_events state new events place event told within is done was =
    let rest = drop (suc place) events in
    let allowed : is_allowed state event ≡ true = sym done.answer ∙ was in
    let next : drop (place + 1) events ≡ rest = ap (λ n. drop n events) (add-one place) in
    ap (play_from (place + 1) new) next
    ∙ ap (λ (s : State). play_from (place + 1) s rest) (done.left allowed)
    ∙ sym (ap (λ b. cond b (play_from (place + 1) (state_after_event state event) rest) (Err place)) allowed)
    ∙ sym (ap (play_from place state) (events_from events place event within is))

-- the event at this place isn't allowed
pub stops_at : (state new : State) (events : List Event) (place : ℕ) (event : Event) (told : Bool) → place < length events → event ≡ get_or events place event →
    IsResultOf (is_allowed state event) (state_after_event state event) new told → told ≡ false →
    play_from place state (drop place events) ≡ Err place
stops_at state new events place event told within is done fails =
    let rest = drop (suc place) events in
    ap (play_from place state) (events_from events place event within is)
    ∙ ap (λ b. cond b (play_from (place + 1) (state_after_event state event) rest) (Err place)) (sym done.answer ∙ fails)

drop_all : {X : Type 0} (xs : List X) (n : ℕ) → length xs ≤ n → drop n xs ≡ []
drop_all [] zero h = refl
drop_all [] (suc n) h = refl
drop_all (x ∷ xs) zero h = absurd (omega arith)
drop_all (x ∷ xs) (suc n) h = drop_all xs n (omega arith)

-- behind the last event the state is left
pub ends_at : (state : State) (events : List Event) (place : ℕ) → length events ≤ place → play_from place state (drop place events) ≡ Ok state
ends_at state events place h = ap (play_from place state) (drop_all events place h)

true_false : true ≡ false → ⊥
true_false e = absurd (cc)

-- a hand with a number is there
pub hand_there : (state : State) (hand : ℕ) → is_hand state hand ≡ true → hand < length state.ids
hand_there state hand h = elim (cases_lt hand (length state.ids)) [
  | inl within ↦ within
  | inr past ↦ absurd (true_false (sym h ∙ ap (λ (i : Ids). is_some i.number) (get_or_past state.ids hand no_ids past)))
]

-- memory ran out
pub tells_memory : (end : Result State ℕ) (told : Result State Stop) → told ≡ Err (NoMemory tt) → EndsRunAs end told
tells_memory (Ok state) told e = inr e
tells_memory (Err place) told e = inr e

pub tells_end : (end : Result State ℕ) (state : State) → end ≡ Ok state → EndsRunAs end (Ok state)
tells_end end state e = subst (λ end. EndsRunAs end (Ok state)) (sym e) (inl refl)

pub tells_stop : (end : Result State ℕ) (place : ℕ) → end ≡ Err place → EndsRunAs end (Err (NotAllowed place))
tells_stop end place e = subst (λ end. EndsRunAs end (Err (NotAllowed place))) (sym e) (inl refl)

-- a configuration has no two tables
pub played : (config : Config) (hands : ℕ) (events : List Event) (told : Result State Stop) (table : Classes) (state : State) →
    IsTableOf config table → state ≡ new_state table config.stripes hands 0 → EndsRunAs (state_after_all state events) told → IsPlayed config hands events told
played config hands events told table state is made tells = record {
  exact = λ other too.
      subst (λ (t : Classes). EndsRunAs (state_after_all (new_state t config.stripes hands 0) events) told) (one_table config table other is too)
      (subst (λ (s : State). EndsRunAs (state_after_all s events) told) made tells);
}

pub played_none : (config : Config) (hands : ℕ) (events : List Event) (told : Result State Stop) → told ≡ Err (NoMemory tt) → IsPlayed config hands events told
played_none config hands events told e = record { exact = λ other too. tells_memory (state_after_all (new_state other config.stripes hands 0) events) told e }
