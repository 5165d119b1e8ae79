-- What is written of a list that was played.
use Rattle.std.proofs.Common.{◌≡◌, ℕ, List, ◌++◌, codes, Option, Result, Ok, Err, IfOk, OnOk, inl, inr, ap, ◌∙◌, subst}
use Rattle.std.specs.Io.KnownBytes.{Appends}
use Rattle.mc_classes.specs.declared.config.Config.{Config}
use Rattle.mc_core.specs.declared.event.Event.{Event}
use Rattle.mc_core.specs.declared.stop.Stop.{Stop}
use Rattle.mc_core.specs.declared.stop.Stop.TheVariants.{NotAllowed}
use Rattle.mc_core.specs.model.State.{State, new_state}
use Rattle.mc_core.specs.run.Run.{EndsRunAs, IsPlayed, state_after_all}
use Rattle.mc_replay.specs.Written.{IsAnswer, IsWritten, WritesList, outcome_text}

from_end : (stripes : ℕ) (end : Result State ℕ) (told : Result State Stop) (state : State) → EndsRunAs end told → told ≡ Ok state → outcome_text stripes (Ok state) ≡ outcome_text stripes end
from_end stripes (Ok s) told state (inl e) is = let same : state ≡ s = (cc) in ap (λ x. outcome_text stripes (Ok x)) same
from_end stripes (Ok s) told state (inr e) is = absurd (cc)
from_end stripes (Err place) told state (inl e) is = absurd (cc)
from_end stripes (Err place) told state (inr e) is = absurd (cc)

from_stop : (stripes : ℕ) (end : Result State ℕ) (told : Result State Stop) (place : ℕ) → EndsRunAs end told → told ≡ Err (NotAllowed place) → outcome_text stripes (Err place) ≡ outcome_text stripes end
from_stop stripes (Ok s) told place (inl e) is = absurd (cc)
from_stop stripes (Ok s) told place (inr e) is = absurd (cc)
from_stop stripes (Err p) told place (inl e) is = let same : place ≡ p = (cc) in ap (λ x. outcome_text stripes (Err x)) same
from_stop stripes (Err p) told place (inr e) is = absurd (cc)

-- all events were played
pub all_played : {T E : Type 0} (bytes : T → List ℕ) (config : Config) (hands : ℕ) (slice events : List Event) (told : Result State Stop) (state : State) (made : Result T E) →
    IsPlayed config hands slice told → slice ≡ events → told ≡ Ok state → IfOk made (λ text. bytes text ≡ outcome_text config.stripes (Ok state)) → IfOk made (λ text. IsAnswer config hands events (bytes text))
all_played bytes config hands slice events told state (Ok text) played same is made =
    subst (λ (es : List Event). IsAnswer config hands es (bytes text)) same
    (record { exact = λ table of_config. made ∙ from_end config.stripes (state_after_all (new_state table config.stripes hands 0) slice) told state (played.exact table of_config) is })
all_played bytes config hands slice events told state (Err e) played same is made = made

-- an event wasn't allowed
pub not_all_played : {T E : Type 0} (bytes : T → List ℕ) (config : Config) (hands : ℕ) (slice events : List Event) (told : Result State Stop) (place : ℕ) (made : Result T E) →
    IsPlayed config hands slice told → slice ≡ events → told ≡ Err (NotAllowed place) → IfOk made (λ text. bytes text ≡ outcome_text config.stripes (Err place)) → IfOk made (λ text. IsAnswer config hands events (bytes text))
not_all_played bytes config hands slice events told place (Ok text) played same is made =
    subst (λ (es : List Event). IsAnswer config hands es (bytes text)) same
    (record { exact = λ table of_config. made ∙ from_stop config.stripes (state_after_all (new_state table config.stripes hands 0) slice) told place (played.exact table of_config) is })
not_all_played bytes config hands slice events told place (Err e) played same is made = made

-- behind the list's first line
pub written : {T E : Type 0} (items : T → List ℕ) (name text : List ℕ) (config : Config) (hands : ℕ) (events : List Event) (made : Result T E) →
    IsAnswer config hands events text → IfOk made (λ bytes. items bytes ≡ (name ++ codes "\n") ++ text) → IfOk made (λ bytes. IsWritten name config hands events (items bytes))
written items name text config hands events (Ok bytes) answer made =
    record { exact = λ table of_config. made ∙ ap (λ (t : List ℕ). (name ++ codes "\n") ++ t) (answer.exact table of_config) }
written items name text config hands events (Err e) answer made = made

-- behind what a writer held
pub writes_list : {X E : Type 0} (told : Result X E) (name : List ℕ) (config : Config) (hands : ℕ) (events : List Event) (bytes slice : List ℕ) (old new : Option (List ℕ)) →
    IsWritten name config hands events bytes → slice ≡ bytes → OnOk told (Appends old new slice) → OnOk told (WritesList name config hands events old new)
writes_list (Ok v) name config hands events bytes slice old new is same appended =
    record { bytes = bytes; is = is; appended = subst (λ (b : List ℕ). Appends old new b) same appended }
writes_list (Err e) name config hands events bytes slice old new is same appended = appended
