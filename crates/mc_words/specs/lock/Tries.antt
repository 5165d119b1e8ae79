-- Locks that are taken and given, of the slabs and of stripes alike.
use Rattle.std.specs.Prelude.{◌≡◌, ◌≢◌, ℕ, ◌≤◌, ◌==◌, Bool, true, false, [], ◌∷◌, map, is_some, is_none, slice_index_or, Some, None}
use Rattle.std.specs.List.{range_with_len}
use Rattle.atomic_table.specs.Table.{rest}
use Rattle.mc_core.specs.declared.event.Step.{Step}
use Rattle.mc_core.specs.declared.event.Step.TheVariants as step
use Rattle.mc_core.specs.run.Silent.{none_half_cut}
use Rattle.mc_core.specs.past.Past.{SeenWord}
use Rattle.mc_core.specs.past.Past as past
use Rattle.mc_words.specs.declared.lock.slot.Slot.{Slot}
use Rattle.mc_words.specs.declared.lock.slot.Slot.TheVariants.{Empty, OfSlabs, OfStripe}
use Rattle.mc_words.specs.declared.lock.locks.Lock.{Lock}
use Rattle.mc_words.specs.declared.lock.locks.Lock.TheVariants.{SlabsLock, StripeLock}
use Rattle.mc_words.specs.hand.View.{Setup, View}
use Rattle.mc_words.specs.rule.Happens.{LawfulView, Happens, HappensAt}
use Rattle.mc_words.specs.lock.Slots.{lock_number, slot_of}
use Rattle.mc_words.specs.rule.Told.{Sits, At, StaysOut}

-- the event by which the lock is taken
abbrev pub take_of : Lock → Step
take_of SlabsLock = step.TakeSlabs
take_of (StripeLock stripe) = step.TakeStripe stripe

-- the event by which the lock's word is looked at, as by a try that fails
abbrev pub miss_of : Lock → Step
miss_of SlabsLock = step.MissSlabs
miss_of (StripeLock stripe) = step.MissStripe stripe

-- the event by which the lock is given back
abbrev pub give_of : Lock → Step
give_of SlabsLock = step.GiveSlabs
give_of (StripeLock stripe) = step.GiveStripe stripe

-- what a look at the lock's word adds to what the hand saw
abbrev pub seen_word_of : Lock → ℕ → SeenWord
seen_word_of SlabsLock word = past.slabs_word word
seen_word_of (StripeLock stripe) word = past.stripe_word stripe word

-- the arena has such a lock
abbrev pub IsLockOf : Setup → Lock → Type 0
IsLockOf setup lock = lock_number lock ≤ setup.config.stripes

-- the hand has this value behind the lock
abbrev pub HasValue : View → Lock → Slot → Type 0
HasValue view SlabsLock (OfSlabs slabs) = view.slabs ≡ Some slabs
HasValue view SlabsLock (OfStripe stripe) = ⊥
HasValue view SlabsLock Empty = ⊥
HasValue view (StripeLock number) (OfSlabs slabs) = ⊥
HasValue view (StripeLock number) (OfStripe stripe) = slice_index_or view.stripes number None ≡ Some stripe
HasValue view (StripeLock number) Empty = ⊥

-- the value may be given back: pages and lists with no page half cut, or a stripe with no entry aside
abbrev pub may_be_given_back : Slot → Bool
may_be_given_back (OfSlabs slabs) = none_half_cut slabs
may_be_given_back (OfStripe stripe) = is_none stripe.state.aside
may_be_given_back Empty = false

-- the hand has the locks of these stripes, and of no others
abbrev pub HasStripes : View → (ℕ → Bool) → Type 0
HasStripes view has = map is_some view.stripes ≡ map has (range_with_len 0 view.setup.config.stripes)

-- the hand got the lock, which it hadn't, and has otherwise what it had; for a stripe's lock this holds where the hand had no other
-- stripe's
abbrev pub Gains : Lock → View → View → Type 0
Gains SlabsLock view now = (is_some view.slabs ≡ false) × (is_some now.slabs ≡ true) × (map is_some now.stripes ≡ map is_some view.stripes)
Gains (StripeLock stripe) view now = (is_some now.slabs ≡ is_some view.slabs) × (HasStripes view (λ other. false) → HasStripes now (λ other. stripe == other))

-- the hand hasn't the lock any more, and has otherwise what it had; for a stripe's lock this holds where the hand had no other stripe's
abbrev pub Loses : Lock → View → View → Type 0
Loses SlabsLock view now = (is_some now.slabs ≡ false) × (map is_some now.stripes ≡ map is_some view.stripes)
Loses (StripeLock stripe) view now = (is_some now.slabs ≡ is_some view.slabs) × (HasStripes view (λ other. stripe == other) → HasStripes now (λ other. false))

-- the views are of one hand, whichever locks it has
abbrev pub IsOneHand : View → View → Type 0
IsOneHand view now = (now.setup ≡ view.setup) × (now.spare ≡ view.spare) × (now.row.ids.number ≡ view.row.ids.number)

-- the hand took the lock, and the value behind it is out with the hand
pub record TakesValue (lock : Lock) (me now : Sits) : Type 0 where
  pub slot : Slot
  pub out : now.1 ≡ (slot_of lock, slot) ∷ me.1
  pub value : HasValue now.0 lock slot
  pub gains : Gains lock me.0 now.0
  pub same : IsOneHand me.0 now.0
  pub lawful : LawfulView now.0
  pub happens : Happens me.0 [] (take_of lock) now.0

-- a try of the lock: where the lock's word was 0 the hand took the lock, and otherwise it saw the word
abbrev pub Takes : Lock → At → Sits → ℕ → Sits → Type 0
Takes lock at me found now = (found ≡ 0 → TakesValue lock me now) × (found ≢ 0 → StaysOut me now × HappensAt at.word found me.0 [] (miss_of lock) now.0)

-- the hand gave the lock back, and the value that it took last is home
pub record GivesValue (lock : Lock) (me now : Sits) : Type 0 where
  pub out : now.1 ≡ rest me.1
  pub loses : Loses lock me.0 now.0
  pub same : IsOneHand me.0 now.0
  pub lawful : LawfulView now.0
  pub happens : Happens me.0 [] (give_of lock) now.0
