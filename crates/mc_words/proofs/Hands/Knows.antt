-- What a hand knows after a step, where no stripe's history grew.
use Rattle.std.proofs.Common.{◌≡◌, ℕ, ◌+◌, ◌==◌, Bool, true, false, List, [], ◌∷◌, ◌++◌, drop, length, Option, Some, None, refl, sym, ap, ap₂, ◌∙◌, if◌then◌else◌, append-nil, slice_index_or}
use Rattle.mc_stripe.specs.declared.history.Call.{Call}
use Rattle.mc_stripe.specs.StripeState.{ReadyStripe, new_stripe}
use Rattle.mc_core.specs.declared.event.Step.{Step}
use Rattle.mc_core.specs.declared.event.Step.TheVariants as core
use Rattle.mc_core.specs.model.State.{State, number_at}
use Rattle.mc_core.specs.past.Past.{Moment, Knowledge, Own, Hold, SeenWord, history_at, new_calls, calls_with_new, own_after, own_calls_after, knowledge_at, hold_after, seen_after, seen_words_of, items_stored_by_step, known_of, moment_stepped}
use Rattle.mc_core.specs.law.Laws.{MayStep}
use Rattle.mc_core.specs.run.Run.{after_step}
use Rattle.mc_core.proofs.Known.Learns.{are_learned}
use Rattle.mc_core.proofs.Known.Learned.{is_join}

drop_all : {A : Type 0} (xs : List A) → drop (length xs) xs ≡ []
drop_all [] = refl
drop_all (x ∷ xs) = drop_all xs

-- no history grew
module _ (before now : State) (same : (stripe : ℕ) → history_at now stripe ≡ history_at before stripe) where
  none_new : (stripe : ℕ) → new_calls before now stripe ≡ []
  none_new stripe = ap (λ (history : List Call). drop (length (history_at before stripe)) history) (same stripe) ∙ drop_all (history_at before stripe)

  none_told : (place : ℕ) (rows : List (List Call)) → calls_with_new before now place rows ≡ rows
  none_told place [] = refl
  none_told place (calls ∷ rows) = ap₂ (λ (calls : List Call) (rows : List (List Call)). calls ∷ rows) (ap (λ more. calls ++ more) (none_new place) ∙ append-nil calls) (none_told (place + 1) rows)

  own_same : (number : Option ℕ) (own : Own) → own_after before now number own ≡ own
  own_same None own = refl
  own_same (Some number) own = elim (own.number == number) as (λ (b : Bool). (if b then record own { calls = calls_with_new before now 0 own.calls } else own) ≡ own) [
    | true ↦ ap (λ calls. record own { calls = calls }) (none_told 0 own.calls)
    | false ↦ refl
  ]

  pub mine_alike : (hand : ℕ) (mine : List Own) → own_calls_after before now hand mine ≡ mine
  mine_alike hand [] = refl
  mine_alike hand (own ∷ mine) = ap₂ (λ (own : Own) (mine : List Own). own ∷ mine) (own_same (number_at before hand) own) (mine_alike hand mine)

-- no stripe changed
pub mine_same : (before now : State) → now.stripes ≡ before.stripes → (hand : ℕ) (mine : List Own) → own_calls_after before now hand mine ≡ mine
mine_same before now same = mine_alike before now (λ stripe. ap (λ (stripes : List ReadyStripe). (slice_index_or stripes stripe new_stripe).state.history) same)

no_join : (step : Step) → is_join step ≡ false → (kept spent : ℕ) → step ≡ core.Join kept spent → ⊥
no_join step alone kept spent e = absurd (let both : true ≡ false = ap is_join (sym e) ∙ alone in cc)

-- it saw, says and knows more, its hold and what it saw of histories follow the step, and it made no call
abbrev pub known_after : Moment → ℕ → Step → Knowledge → Knowledge
known_after m id step knew = record {
  seen_words = knew.seen_words ++ seen_words_of m.state step;
  hold = hold_after m.state step knew.hold;
  mine = knew.mine;
  seen = seen_after m.state step knew.seen;
  stored = knew.stored ++ items_stored_by_step m.state id step;
  known = knew.known ++ known_of m.state id step;
}

pub knows_after : (m : Moment) (id : ℕ) (step : Step) → is_join step ≡ false → MayStep m id step → (after_step m.state id step).stripes ≡ m.state.stripes → knowledge_at (moment_stepped m id step).past id ≡ known_after m id step (knowledge_at m.past id)
knows_after m id step alone may same =
    are_learned.steps m id step may (λ kept spent e. no_join step alone kept spent e)
    ∙ ap (λ (mine : List Own). record (known_after m id step (knowledge_at m.past id)) { mine = mine }) (mine_same m.state (after_step m.state id step) same id (knowledge_at m.past id).mine)

-- of what is said and known, nothing is new
abbrev pub more_seen : List SeenWord → Hold → List (List Call) → Knowledge → Knowledge
more_seen saw hold seen knows = record { seen_words = saw; hold = hold; mine = knows.mine; seen = seen; stored = knows.stored ++ []; known = knows.known ++ [] }

pub said_none : (saw : List SeenWord) (knows : Knowledge) (hold : Hold) (seen : List (List Call)) → more_seen saw hold seen knows ≡ record knows { seen_words = saw; hold = hold; seen = seen }
said_none saw knows hold seen = λ k. record { seen_words = saw; hold = hold; mine = knows.mine; seen = seen; stored = append-nil knows.stored k; known = append-nil knows.known k }

-- nor was anything found
pub knows_same : (knows : Knowledge) → more_seen (knows.seen_words ++ []) knows.hold knows.seen knows ≡ knows
knows_same knows = λ k. record { seen_words = append-nil knows.seen_words k; hold = knows.hold; mine = knows.mine; seen = knows.seen; stored = append-nil knows.stored k; known = append-nil knows.known k }
