-- What a call adds to the hand's own calls, as the stripes' histories have them.
use Rattle.std.specs.Prelude.{◌⊎◌, ℕ, Bool, Option}
use Rattle.mc_stripe.specs.declared.history.Call.TheVariants as call
use Rattle.mc_words.specs.declared.hand.Hand.{Hand}
use Rattle.mc_words.specs.hand.Arenas.{view}
use Rattle.mc_words.specs.hand.View.{Setup}
use Rattle.mc_items.specs.Calls.{RecordsNoCall}
use Rattle.mc_items.specs.OnKeys.{RecordsOn}

-- the hand's own calls got a get of the hash, or no call
abbrev pub RecordsGetAtMost : Setup → ℕ → Hand → Hand → Type 0
RecordsGetAtMost setup hash before now =
    RecordsNoCall (view before) (view now) ⊎ ((stamp : Option ℕ) × RecordsOn setup hash (λ number. call.Get number hash stamp) before now)

-- the hand's own calls got a get of the hash or none, and then a delete of the hash, which had an item or none
pub record RecordsDeleteBehind (setup : Setup) (hash : ℕ) (there : Bool) (before now : Hand) : Type 0 where
  pub between : Hand
  pub looks : RecordsGetAtMost setup hash before between
  pub deletes : RecordsOn setup hash (λ number. call.Delete number hash there) between now

-- the hand's own calls got a get of the hash or none, and then a delete of the hash or none
abbrev pub RecordsDeleteAtMost : Setup → ℕ → Hand → Hand → Type 0
RecordsDeleteAtMost setup hash before now =
    RecordsGetAtMost setup hash before now ⊎ ((there : Bool) × RecordsDeleteBehind setup hash there before now)
