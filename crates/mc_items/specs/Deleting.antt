-- Deletes of a key's item where it has a given stamp.
use Rattle.std.specs.Prelude.{◌≡◌, ℕ, true, Option, Some}
use Rattle.mc_stripe.specs.StripeState.{stamp_of_key}
use Rattle.mc_words.specs.declared.hand.Hand.{Hand}
use Rattle.mc_words.specs.hand.Arenas.{view}
use Rattle.mc_words.specs.hand.Observers.{hand_number}
use Rattle.mc_words.specs.hand.View.{Setup, View}
use Rattle.mc_items.specs.Calls.{CallsOn, Deletes, FindsStripe}
use Rattle.mc_items.specs.OnKeys.{stripe_of_key}
use Rattle.mc_items.specs.Storing.{HasOther}
use Rattle.mc_items.specs.declared.comparing.Expected.TheVariants.{Item}

-- the key's item had this stamp, and was deleted, under one hold of the stripe's lock
pub record DeletesItem (number stripe key stamp : ℕ) (view now : View) : Type 0 where
  pub deletes : CallsOn number stripe (Deletes number stripe key true) view now
  pub met : stamp_of_key deletes.value.state key ≡ Some stamp

-- the hand waited for the lock of the key's stripe, deleted the key's item there, which had this stamp, and gave the lock back
abbrev pub DeletesItemOf : Setup → ℕ → ℕ → Hand → Hand → Type 0
DeletesItemOf setup key stamp before now = DeletesItem (hand_number before) (stripe_of_key setup key) key stamp (view before) (view now)

-- the hand waited for the lock of the key's stripe, found this under the key, no item or one of another stamp, and gave the lock back
abbrev pub FindsOtherItem : Setup → ℕ → ℕ → Option ℕ → Hand → Hand → Type 0
FindsOtherItem setup key stamp found before now = FindsStripe (HasOther (Item stamp) found key) (stripe_of_key setup key) (view before) (view now)
