-- Which locks a hand has.
use Rattle.std.specs.Prelude.{◌≡◌, ℕ, zero, suc, ◌<◌, ◌==◌, Bool, true, false, nat_lt, List, [], ◌∷◌, length, map, is_some, if◌then◌else◌, Some}
use Rattle.mc_classes.specs.Limits.{most_hands}
use Rattle.std.specs.List.{range_with_len}
use Rattle.mc_words.specs.declared.lock.slot.Slot.{Slot}
use Rattle.mc_words.specs.declared.lock.locks.Locks.{Locks}
use Rattle.mc_words.specs.declared.lock.locks.Locks.TheVariants.{Neither, Slabs, Stripe, SlabsLast, StripeLast}
use Rattle.mc_words.specs.hand.View.{View}
use Rattle.mc_words.specs.lock.Slots.{slot_at}
use Rattle.mc_words.specs.rule.Told.{Sits}

-- the slots of the values that are out, that of the last taken first
abbrev pub slots_out : List (ℕ × Slot) → List ℕ
slots_out out = map (λ entry. entry.0) out

-- the slots of the values behind these locks, that of the last taken first
abbrev pub slots_in : Locks → List ℕ
slots_in Neither = []
slots_in Slabs = slot_at zero ∷ []
slots_in (Stripe stripe) = slot_at (suc stripe) ∷ []
slots_in (SlabsLast stripe) = slot_at zero ∷ slot_at (suc stripe) ∷ []
slots_in (StripeLast stripe) = slot_at (suc stripe) ∷ slot_at zero ∷ []

-- the slabs lock is one of these locks
abbrev pub has_slabs_in : Locks → Bool
has_slabs_in Neither = false
has_slabs_in Slabs = true
has_slabs_in (Stripe stripe) = false
has_slabs_in (SlabsLast stripe) = true
has_slabs_in (StripeLast stripe) = true

-- the lock of this stripe is one of these locks
abbrev pub has_stripe_in : Locks → ℕ → Bool
has_stripe_in Neither other = false
has_stripe_in Slabs other = false
has_stripe_in (Stripe stripe) other = stripe == other
has_stripe_in (SlabsLast stripe) other = stripe == other
has_stripe_in (StripeLast stripe) other = stripe == other

-- the stripe among these locks, if there is one, has a number below n
abbrev pub is_within : ℕ → Locks → Bool
is_within stripes Neither = true
is_within stripes Slabs = true
is_within stripes (Stripe stripe) = nat_lt stripe stripes
is_within stripes (SlabsLast stripe) = nat_lt stripe stripes
is_within stripes (StripeLast stripe) = nat_lt stripe stripes

-- the locks are of the arena, and the view has the values behind them and no other
abbrev pub HasLocks : View → Locks → Type 0
HasLocks view locks =
    (is_some view.slabs ≡ has_slabs_in locks) × (map is_some view.stripes ≡ map (has_stripe_in locks) (range_with_len 0 view.setup.config.stripes))
    × (is_within view.setup.config.stripes locks ≡ true)

-- a hand's notes are right: its number, how many chunks it holds, and its locks
abbrev pub IsNoted : Sits → ℕ → ℕ → Locks → Type 0
IsNoted me number chunks locks =
    (me.0.row.ids.number ≡ Some number) × (number < most_hands) × (chunks ≡ length me.0.row.holdings) × (slots_out me.1 ≡ slots_in locks) × HasLocks me.0 locks

-- the locks after the slabs lock was taken, as the last one, unless it was among them
abbrev pub locks_with_slabs : Locks → Locks
locks_with_slabs Neither = Slabs
locks_with_slabs Slabs = Slabs
locks_with_slabs (Stripe stripe) = SlabsLast stripe
locks_with_slabs (SlabsLast stripe) = SlabsLast stripe
locks_with_slabs (StripeLast stripe) = StripeLast stripe

-- the locks without the slabs lock
abbrev pub without_slabs : Locks → Locks
without_slabs Neither = Neither
without_slabs Slabs = Neither
without_slabs (Stripe stripe) = Stripe stripe
without_slabs (SlabsLast stripe) = Stripe stripe
without_slabs (StripeLast stripe) = Stripe stripe

-- the locks after this stripe's lock was taken, as the last one, unless a stripe's was among them
abbrev pub locks_with_stripe : ℕ → Locks → Locks
locks_with_stripe stripe Neither = Stripe stripe
locks_with_stripe stripe Slabs = StripeLast stripe
locks_with_stripe stripe (Stripe other) = Stripe other
locks_with_stripe stripe (SlabsLast other) = SlabsLast other
locks_with_stripe stripe (StripeLast other) = StripeLast other

-- the locks without the stripe's lock
abbrev pub without_stripe : Locks → Locks
without_stripe Neither = Neither
without_stripe Slabs = Slabs
without_stripe (Stripe stripe) = Neither
without_stripe (SlabsLast stripe) = Slabs
without_stripe (StripeLast stripe) = Slabs

-- no stripe's lock is among these locks
abbrev pub locks_have_no_stripe : Locks → Bool
locks_have_no_stripe Neither = true
locks_have_no_stripe Slabs = true
locks_have_no_stripe (Stripe stripe) = false
locks_have_no_stripe (SlabsLast stripe) = false
locks_have_no_stripe (StripeLast stripe) = false

-- these are no locks
abbrev pub is_neither : Locks → Bool
is_neither Neither = true
is_neither Slabs = false
is_neither (Stripe stripe) = false
is_neither (SlabsLast stripe) = false
is_neither (StripeLast stripe) = false

-- there are two locks, of which the one of this number was taken first; the slabs lock is number 0
abbrev pub is_behind : Locks → ℕ → Bool
is_behind (SlabsLast stripe) zero = false
is_behind (SlabsLast stripe) (suc number) = true
is_behind (StripeLast stripe) zero = true
is_behind (StripeLast stripe) (suc number) = false
is_behind other number = false

-- two locks in the other order; one lock, or none, unchanged
abbrev pub turned_locks : Locks → Locks
turned_locks (SlabsLast stripe) = StripeLast stripe
turned_locks (StripeLast stripe) = SlabsLast stripe
turned_locks other = other

-- these locks with the one of this number, which is among them, as the last taken
abbrev pub with_last : ℕ → Locks → Locks
with_last number locks = if is_behind locks number then turned_locks locks else locks
