-- The calls of each hand, and what it saw of the histories.
use Rattle.std.specs.Prelude.{◌≡◌, ⊤, ℕ, ◌+◌, ◌/◌, ◌%◌, ◌^◌, ◌==◌, Bool, false, List, [], ◌∷◌, ◌++◌, length, map, filter, count_by, slice_get, Some, All, Contains}
use Rattle.mc_stripe.specs.declared.history.Call.{Call}
use Rattle.mc_stripe.specs.declared.history.Call.TheVariants.{Set, Get, Delete, Evict}
use Rattle.mc_stripe.specs.declared.history.Call.TheVariants as call
use Rattle.mc_stripe.specs.StripeState.{ReadyStripe}
use Rattle.mc_core.specs.model.Holdings.{key_of}
use Rattle.mc_core.specs.past.Past.{Own, StoredItem}
use Rattle.mc_core.specs.law.Identities.{count_in_hands, stored_count}
use Rattle.mc_core.specs.law.Indexed.{stripe_for}
use Rattle.mc_core.specs.model.Columns.{Each}

-- the number of the hand that made the call
abbrev pub hand_of : Call → ℕ
hand_of (Set hand key stamp) = hand
hand_of (Get hand key found) = hand
hand_of (Delete hand key was_there) = hand
hand_of (Evict hand key) = hand
hand_of (call.Rescue hand key) = hand

-- the second history begins with the first
abbrev pub IsBeginning : List Call → List Call → Type 0
IsBeginning a b = (more : List Call) × (b ≡ a ++ more)

-- what is stored in this stripe has a key of it, and is stored by the hand of its stamp
abbrev pub IsSetIn : ℕ → ℕ → Call → Type 0
IsSetIn stripes stripe (Set hand key stamp) = (key % stripes ≡ stripe) × (stamp / 2 ^ 48 ≡ hand)
IsSetIn stripes stripe other = ⊤

-- the call stored the stamp
abbrev pub is_set_of : ℕ → Call → Bool
is_set_of stamp (Set hand key own) = own == stamp
is_set_of stamp other = false

-- how often the stamp was stored in the histories of all these stripes together
abbrev pub set_count : ℕ → List ReadyStripe → ℕ
set_count stamp [] = 0
set_count stamp (stripe ∷ stripes) = count_by (is_set_of stamp) stripe.state.history + set_count stamp stripes

-- the history of the key's stripe has the set of these words, with their stamp and its hand's number
abbrev pub IsStored : List ReadyStripe → StoredItem → Type 0
IsStored stripes s = Contains (stripe_for stripes (key_of s.words)).state.history (Set (s.stamp / 2 ^ 48) (key_of s.words) s.stamp)

-- histories: a hand's own calls are those of its numbers, and what it saw begins the present history. Each call has one hand's number. Each
-- stamp is in the histories as often as hands stored it
pub record AreRecorded (stripes : List ReadyStripe) (mine : List (List Own)) (seen : List (List (List Call))) (said : List (List StoredItem)) : Type 0 where
  pub own_calls : Each (λ own. own.calls ≡ map (λ (value : ReadyStripe). filter (λ call. hand_of call == own.number) value.state.history) stripes) mine
  pub begun : All (λ row. (stripe : ℕ) (calls : List Call) (value : ReadyStripe) → slice_get row stripe ≡ Some calls → slice_get stripes stripe ≡ Some value →
      IsBeginning calls value.state.history) seen
  pub writers : All (λ (value : ReadyStripe). All (λ call. count_in_hands (hand_of call) mine ≡ 1) value.state.history) stripes
  pub sets : (stripe : ℕ) (value : ReadyStripe) → slice_get stripes stripe ≡ Some value → All (IsSetIn (length stripes) stripe) value.state.history
  pub stored_once : (stamp : ℕ) → set_count stamp stripes ≡ stored_count stamp said
  pub stored : Each (IsStored stripes) said
