-- Walks over the stripes of a shard: one hold of a stripe's lock after another, and what was counted of each stripe.
use Rattle.std.specs.Prelude.{◌≡◌, ◌<◌, ◌-◌, ◌^◌, ℕ, zero, suc, List, [], ◌∷◌, ◌++◌, min, sum_by, None}
use Rattle.mc_words.specs.declared.hand.Hand.{Hand}
use Rattle.mc_words.specs.hand.Arenas.{view}
use Rattle.mc_words.specs.hand.Observers.{hand_number}
use Rattle.mc_core.specs.run.Items.{chunk_of_key}
use Rattle.mc_words.specs.hand.View.{OwnEvent, Setup, View}
use Rattle.mc_words.specs.rule.Happens.{LawfulView}
use Rattle.mc_words.specs.lock.Wait.{MissesStripeEachTime}
use Rattle.mc_items.specs.Calls.{FindsStripe}
use Rattle.mc_items.specs.Clearing.{ClearsStripe, GivesBackEmpty, StopsClearing}
use Rattle.mc_items.specs.Listing.{HasKeyCount}
use Rattle.mc_shard.specs.declared.clearing.ClearWithinError.{ClearWithinError}
use Rattle.mc_shard.specs.declared.clearing.ClearWithinError.TheVariants.{Held, NoMemory}

-- what a hand does with a stripe, of which it counts something
abbrev pub StripeCall : Type 1
StripeCall = ℕ → ℕ → View → View → Type 0

-- the hand did this with each of the first n stripes, from 0 on, one after another, and counted this of each
abbrev pub DoesFirst : StripeCall → ℕ → List ℕ → View → View → Type 0
DoesFirst Does zero counts view now = (counts ≡ []) × (now ≡ view)
DoesFirst Does (suc stripe) counts view now =
    (others : List ℕ) × (next : View) × (count : ℕ) × DoesFirst Does stripe others view next × Does stripe count next now × (counts ≡ others ++ count ∷ [])

-- the sum of these counts; it stays at 2^64 - 1 once there
abbrev pub saturated_sum : List ℕ → ℕ
saturated_sum counts = min (sum_by (λ count. count) counts) (2 ^ 64 - 1)

-- the hand did this with each stripe of the shard, and this is the sum of what it counted
pub record WalksShard (Does : StripeCall) (setup : Setup) (total : ℕ) (before now : Hand) : Type 0 where
  -- what was counted of each stripe, that of stripe 0 first
  pub counts : List ℕ
  pub each : DoesFirst Does setup.config.stripes counts (view before) (view now)
  pub summed : total ≡ saturated_sum counts

-- the hand did this with each stripe below one, and was stopped at that one
pub record WalksUpToStripe (Does : StripeCall) (Stops : ℕ → View → View → Type 0) (setup : Setup) (before now : Hand) : Type 0 where
  pub stripe : ℕ
  pub in_range : stripe < setup.config.stripes
  pub counts : List ℕ
  pub between : View
  pub each : DoesFirst Does stripe counts (view before) between
  pub stops : Stops stripe between (view now)

-- the hand deleted every key of the shard, stripe by stripe, n keys in all
abbrev pub ClearsShard : Setup → ℕ → Hand → Hand → Type 0
ClearsShard setup count before now = WalksShard (ClearsStripe (hand_number before)) setup count before now

-- the hand cleared some stripes, and then one had no room for the call of a delete
abbrev pub StopsClearingShard : Setup → Hand → Hand → Type 0
StopsClearingShard setup before now = WalksUpToStripe (ClearsStripe (hand_number before)) (StopsClearing (hand_number before)) setup before now

-- the hand cleared some stripes, where it deleted n keys in all, and then each try for the lock of one missed
pub record MissesClearingShard (setup : Setup) (tries count : ℕ) (before now : Hand) : Type 0 where
  pub walk : WalksUpToStripe (ClearsStripe (hand_number before)) (MissesStripeEachTime tries) setup before now
  pub summed : count ≡ saturated_sum walk.counts

-- why a clear within this many tries stopped: a stripe had no room for the call of a delete; or each try for the lock of one missed, and n keys were
-- deleted before
abbrev pub StopsClearWithin : Setup → ℕ → ClearWithinError → Hand → Hand → Type 0
StopsClearWithin setup tries (NoMemory refused) before now = StopsClearingShard setup before now
StopsClearWithin setup tries (Held count) before now = MissesClearingShard setup tries count before now

-- no stripe of the shard had a key as the hand last gave the stripe's lock back
abbrev pub GivesAllBackEmpty : Setup → Hand → Type 0
GivesAllBackEmpty setup now = (stripe : ℕ) → stripe < setup.config.stripes → GivesBackEmpty (view now) stripe

-- the view is of a lawful moment of this arena in the call: behind all that the hand had done before it, and before the call ended. In this moment
-- the hash led nowhere, whoever had stored under it
pub record LosesHash (setup : Setup) (hash : ℕ) (before now : Hand) : Type 0 where
  pub last : View
  pub was : LawfulView last
  pub setup_is : last.setup ≡ setup
  pub behind : (more : List OwnEvent) × (last.events ≡ (view before).events ++ more)
  pub ahead : (more : List OwnEvent) × ((view now).events ≡ last.events ++ more)
  pub nowhere : chunk_of_key was.moment.state hash ≡ None

-- for each hash there is a moment in the call in which it led nowhere
abbrev pub LosesAll : Setup → Hand → Hand → Type 0
LosesAll setup before now = (hash : ℕ) → LosesHash setup hash before now

-- the hand looked how many keys a stripe has
abbrev pub CountsStripe : StripeCall
CountsStripe stripe count view now = FindsStripe (HasKeyCount count) stripe view now

-- the hand counted the keys of the shard, stripe by stripe, n keys in all
abbrev pub CountsKeys : Setup → ℕ → Hand → Hand → Type 0
CountsKeys setup count before now = WalksShard CountsStripe setup count before now

-- the hand counted the keys of some stripes, and then each try for the lock of one missed
abbrev pub MissesCounting : Setup → ℕ → Hand → Hand → Type 0
MissesCounting setup tries before now = WalksUpToStripe CountsStripe (MissesStripeEachTime tries) setup before now
