-- One event more, from the beginning of an arena on.
use Rattle.std.proofs.Common.{◌≡◌, ◌≢◌, ◌==◌, ℕ, Bool, true, false, List, [], ◌∷◌, ◌++◌, if◌then◌else◌, refl, ap, ◌∙◌, eq-eqb, ne_eqb}
use Rattle.std.proofs.lemmas.Bool.{and_from}
use Rattle.mc_core.specs.declared.event.Event.{Event}
use Rattle.mc_core.specs.declared.event.Step.{Step}
use Rattle.mc_core.specs.model.State.{is_hand}
use Rattle.mc_core.specs.past.Past.{Moment, moment_after, moment_stepped}
use Rattle.mc_core.specs.run.Run.{allows_step, is_allowed}
use Rattle.mc_core.specs.law.Laws.{IsRun, moment_at_end}
use Rattle.mc_words.specs.hand.View.{OwnEvent, Setup, events_of, own_event}
use Rattle.mc_words.specs.rule.Meaning.{IsReachedBy, beginning_of}
use Rattle.mc_words.specs.rule.Happens.{event_of}

module _ (event : Event) where
  end_more : (first : Moment) (events : List Event) → moment_at_end first (events ++ event ∷ []) ≡ moment_after (moment_at_end first events) event
  end_more first [] = refl
  end_more first (one ∷ events) = end_more (moment_after first one) events

  run_more : (first : Moment) (events : List Event) → IsRun first events → is_allowed (moment_at_end first events).state event ≡ true → IsRun first (events ++ event ∷ [])
  run_more first [] run allowed = (allowed, record {})
  run_more first (one ∷ events) run allowed = (run.0, run_more (moment_after first one) events run.1 allowed)

  pub leads_more : (setup : Setup) (run : List Event) (m : Moment) → IsReachedBy setup run m → is_allowed m.state event ≡ true → IsReachedBy setup (run ++ event ∷ []) (moment_after m event)
  leads_more setup run m leads allowed = record {
    is_run = run_more (beginning_of setup) run leads.is_run (ap (λ (moment : Moment). is_allowed moment.state event) leads.end ∙ allowed);
    end = end_more (beginning_of setup) run ∙ ap (λ (moment : Moment). moment_after moment event) leads.end;
  }

  -- what the hand made, with one more
  abbrev own : OwnEvent
  own = own_event event.before event.step

  -- the hand that made it
  pub events_own : (hand : ℕ) → event.hand ≡ hand → (run : List Event) → events_of hand (run ++ event ∷ []) ≡ events_of hand run ++ own ∷ []
  events_own hand same [] = ap (λ (b : Bool). if b then own ∷ [] else []) (eq-eqb event.hand hand same)
  events_own hand same (one ∷ run) =
      let more = events_own hand same run in
      elim (one.hand == hand) as (λ (b : Bool). (if b then own_event one.before one.step ∷ events_of hand (run ++ event ∷ []) else events_of hand (run ++ event ∷ [])) ≡ (if b then own_event one.before one.step ∷ events_of hand run else events_of hand run) ++ own ∷ []) [
        | true ↦ ap (λ (l : List OwnEvent). own_event one.before one.step ∷ l) more
        | false ↦ more
      ]

  -- any other
  pub events_else : (hand : ℕ) → event.hand ≢ hand → (run : List Event) → events_of hand (run ++ event ∷ []) ≡ events_of hand run
  events_else hand apart [] = ap (λ (b : Bool). if b then own ∷ [] else []) (ne_eqb event.hand hand apart)
  events_else hand apart (one ∷ run) = ap (λ (l : List OwnEvent). if one.hand == hand then own_event one.before one.step ∷ l else l) (events_else hand apart run)

-- by a step alone
pub leads_stepped : (setup : Setup) (run : List Event) (m : Moment) (hand : ℕ) (step : Step) → IsReachedBy setup run m → is_hand m.state hand ≡ true → allows_step m.state hand step ≡ true → IsReachedBy setup (run ++ event_of hand [] step ∷ []) (moment_stepped m hand step)
leads_stepped setup run m hand step leads there allowed = leads_more (event_of hand [] step) setup run m leads (and_from _ _ there allowed)
