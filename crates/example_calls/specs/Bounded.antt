-- A hand that tries for a lock n times: what it does, and what it finds; and items that it sets so.
use Rattle.std.specs.Prelude.{◌≡◌, ◌%◌, ◌+◌, ◌≤◌, ℕ, List, length, Option, Some}
use Rattle.mc_pages.specs.SlabState.{granted_count}
use Rattle.mc_stripe.specs.StripeState.{ReadyStripe, stamp_of_key}
use Rattle.mc_words.specs.declared.arena.Arena.{Arena}
use Rattle.mc_words.specs.declared.hand.Hand.{Hand}
use Rattle.mc_words.specs.hand.Arenas.{setup_of, view}
use Rattle.mc_words.specs.hand.Observers.{last_given, hand_number}
use Rattle.mc_words.specs.hand.Tallies.{next_stamp}
use Rattle.mc_words.specs.item.Items.{item_with}
use Rattle.mc_words.specs.lock.Lent.{BeginsWithSeen}
use Rattle.mc_items.specs.Keeping.{StoresWithStamp}
use Rattle.mc_items.specs.Setting.{SetsItem}
use Rattle.mc_items.specs.declared.comparing.Expected.TheVariants.{Anything}

-- how many events the hand made so far
abbrev pub event_count : Hand → ℕ
event_count hand = length (view hand).events

-- the hand made n more events
abbrev pub Makes : ℕ → Hand → Hand → Type 0
Makes count before now = event_count now ≡ event_count before + count

-- the hand made at most n more events
abbrev pub MakesAtMost : ℕ → Hand → Hand → Type 0
MakesAtMost count before now = event_count now ≤ event_count before + count

-- how many pages were ever granted, as the hand gave the slabs back
abbrev pub granted_as_given : Hand → ℕ
granted_as_given hand = granted_count (view hand).row.knows.hold.left

-- the stripe of a key
abbrev pub stripe_number_for : Arena → ℕ → ℕ
stripe_number_for arena key = key % (setup_of arena).config.stripes

-- the hand gave the key's stripe back, whose history begins with all that the hand had seen of it and gives the key this stamp
pub record FindsStamp (arena : Arena) (key : ℕ) (before now : Hand) (stamp : Option ℕ) : Type 0 where
  pub value : ReadyStripe
  pub given : last_given (view now) (stripe_number_for arena key) ≡ Some value
  pub begins : BeginsWithSeen (view before) (stripe_number_for arena key) value
  pub is : stamp_of_key value.state key ≡ stamp

-- the stamp is the hand's next
abbrev pub IsNextStamp : Hand → ℕ → Type 0
IsNextStamp hand stamp = next_stamp (view hand).row.ids ≡ Some stamp

-- the hand gave no stamp out
abbrev pub GivesNoStamp : Hand → Hand → Type 0
GivesNoStamp before now = (view now).row.ids ≡ (view before).row.ids

-- the hand stored the item of this key and these words
abbrev pub StoresKeyAndWords : ℕ → List ℕ → Hand → Hand → ℕ → Type 0
StoresKeyAndWords key words before now stamp = StoresWithStamp (item_with key stamp words) stamp (view before) (view now)

-- the hand set the item of this key and these words, by its own number
abbrev pub SetsOwn : ℕ → List ℕ → Hand → Hand → ℕ → Type 0
SetsOwn key words before now stamp = SetsItem Anything (hand_number before) key stamp words (view before) (view now)
