-- Room that is made in a class: its parts, and what it leaves of what the hand has.
use Rattle.std.proofs.Common.{◌≡◌, ◌⊎◌, ℕ, zero, suc, is_some, true, false, Option, Some, None, Result, Ok, Err, IfOk, OnErr, refl, sym, ap, ◌∙◌, inl, inr, arith}
use Rattle.mc_pages.specs.declared.moves.Reassign.{Reassign}
use Rattle.mc_pages.specs.Changes.{HasNoPageFor}
use Rattle.mc_pages.specs.ClassState.{first_free}
use Rattle.mc_pages.specs.SlabState.{HasClass, SlabState, class_at}
use Rattle.mc_words.specs.chunk.Sweeps.{SweepsOneOf}
use Rattle.mc_words.specs.declared.hand.Hand.{Hand}
use Rattle.mc_words.specs.declared.lock.locks.Locks.{Locks}
use Rattle.mc_words.specs.declared.lock.locks.Locks.TheVariants.{Neither, Slabs, Stripe, SlabsLast, StripeLast}
use Rattle.mc_words.specs.hand.Idle.{is_unlocked}
use Rattle.mc_words.specs.hand.View.{View}
use Rattle.mc_words.specs.hand.Views.{slabs_given}
use Rattle.mc_words.specs.lock.Doing.{HoldsSlabs}
use Rattle.mc_words.specs.lock.Out.{is_neither, locks_have_no_stripe, locks_with_slabs}
use Rattle.mc_words.specs.page.Moves.{Reassigns}
use Rattle.mc_words.proofs.Locks.Unlocked.{unlocked_from}
use Rattle.mc_items.specs.declared.evicting.Supply.{Supply}
use Rattle.mc_items.specs.declared.making_room.Room.{Room}
use Rattle.mc_items.specs.declared.making_room.Room.TheVariants.{Had, Page, Freed, Full}
use Rattle.mc_items.specs.MakingRoom.{EvictsForRoom, EvictsOldest, EvictsOldestFor, LacksCallForRoom, LacksFree, LacksPage, LacksRoomMemory, MakesRoom, PutsBackDead, evicted_for, room_by, supply_by}
use Rattle.mc_items.specs.Sources.{AsksMove}
use Rattle.mc_items.specs.Visiting.{VisitsOldest}
use Rattle.mc_items.proofs.Freed.{back_is_free}
use Rattle.mc_items.proofs.Locks.{waits_slabs_keep}
use Rattle.mc_items.proofs.Made.{grows_keep, recovers_keep}
use Rattle.mc_items.proofs.Passes.{own_of}
use Rattle.mc_items.proofs.Visits.{Deletions, deletes_after, deletes_before, deletes_none, lacking_deletes, oldest_deletes}

-- no free chunk, and none behind a recovery
pub none_from : {A : Type 0} (o : Option A) → is_some o ≡ false → o ≡ None
none_from None none = refl
none_from (Some a) none = absurd (cc)

pub lacks_so : (class : ℕ) (view : View) (slabs : SlabState) (now : View) (left : SlabState) → PutsBackDead class view slabs now left → is_some (first_free (class_at left class)) ≡ false → LacksFree class view slabs now left
lacks_so class view slabs now left (inl (some, same, is)) none = absurd (let never : false ≡ true = sym none ∙ (ap (λ (s : SlabState). is_some (first_free (class_at s class))) is ∙ some) in cc)
lacks_so class view slabs now left (inr (before, recovers)) none = let still = none_from (first_free (class_at left class)) none in record { empty = before still; recovers = recovers; still = still }

-- where one chunk of the class was swept and none is free, none was free before
pub none_before : (class : ℕ) (view : View) (slabs : SlabState) (now : View) (left : SlabState) → HasClass slabs class → SweepsOneOf class view slabs now left → first_free (class_at left class) ≡ None → first_free (class_at slabs class) ≡ None
none_before class view slabs now left here (chunk, own, one) none = elim one [
  | inl back ↦ absurd (let free = ap (λ (s : SlabState). is_some (first_free (class_at s class))) back.1 ∙ back_is_free slabs class chunk here own in let never : false ≡ true = sym (ap is_some none) ∙ free in cc)
  | inr other ↦ ap (λ (s : SlabState). first_free (class_at s class)) (sym other.1) ∙ none
]

-- dead chunks that were put back leave what the hand has
back_keeps : (class : ℕ) (view : View) (slabs : SlabState) (now : View) (left : SlabState) → PutsBackDead class view slabs now left → own_of now ≡ own_of view
back_keeps class view slabs now left (inl (some, same, is)) = ap own_of same
back_keeps class view slabs now left (inr (before, recovers)) = recovers_keep (class_at slabs class).order view slabs now left recovers

-- the answer, by how many were evicted and put back
pub evicts_for : (number class evicted freed : ℕ) (view : View) (slabs : SlabState) (visited : View) (between : SlabState) (now : View) (left : SlabState) → VisitsOldest number class evicted freed view slabs visited between → AsksMove number class (supply_by evicted) visited between now left
    → EvictsOldestFor number class (room_by evicted freed) view slabs now left
evicts_for number class zero zero view slabs visited between now left visits asks = record { visited = visited; between = between; visits = visits; asks = asks }
evicts_for number class zero (suc freed) view slabs visited between now left visits asks = (record { visited = visited; between = between; visits = visits; asks = asks }, omega arith)
evicts_for number class (suc evicted) freed view slabs visited between now left visits asks = (record { visited = visited; between = between; visits = visits; asks = asks }, omega arith)

-- a move that was asked for leaves what the hand has
pub asks_own : (number class : ℕ) (supply : Supply) (view : View) (slabs : SlabState) (now : View) (left : SlabState) → AsksMove number class supply view slabs now left → own_of now ≡ own_of view
asks_own number class supply view slabs now left (inl (asked, answer, does)) = by answer does
  where
    by : (answer : Result (Unit {0}) Reassign) → Reassigns number None class answer view slabs now left → own_of now ≡ own_of view
    by (Ok done) begun = ap own_of begun.changes.1
    by (Err refusal) refused = ap own_of refused.1
asks_own number class supply view slabs now left (inr (never, same, is)) = ap own_of same

evicts_delete : (number class evicted freed : ℕ) (view : View) (slabs : SlabState) (now : View) (left : SlabState) → EvictsOldest number class evicted freed view slabs now left → Deletions number evicted view now
evicts_delete number class evicted freed view slabs now left evicts =
    deletes_before number evicted view evicts.visited now (oldest_deletes number class evicted freed view slabs evicts.visited evicts.between evicts.visits).0 (asks_own number class _ evicts.visited evicts.between now left evicts.asks)

oldest_for : (number class : ℕ) (room : Room) (view : View) (slabs : SlabState) (now : View) (left : SlabState) → EvictsOldestFor number class room view slabs now left → Deletions number (evicted_for room) view now
oldest_for number class Had view slabs now left evicts = absurd evicts
oldest_for number class Page view slabs now left evicts = absurd evicts
oldest_for number class (Freed evicted freed) view slabs now left evicts = evicts_delete number class evicted freed view slabs now left evicts.0
oldest_for number class Full view slabs now left evicts = evicts_delete number class 0 0 view slabs now left evicts

lacks_own : (class : ℕ) (view : View) (slabs : SlabState) (now : View) (left : SlabState) → LacksFree class view slabs now left → own_of now ≡ own_of view
lacks_own class view slabs now left lacks = recovers_keep (class_at slabs class).order view slabs now left lacks.recovers

room_deletes : (number class : ℕ) (room : Room) (view : View) (slabs : SlabState) (now : View) (left : SlabState) → EvictsForRoom number class room view slabs now left → Deletions number (evicted_for room) view now
room_deletes number class room view slabs now left evicts =
    deletes_after number (evicted_for room) view evicts.tried now (lacks_own class view slabs evicts.tried evicts.between evicts.lacks) (oldest_for number class room evicts.tried evicts.between now left evicts.evicts)

-- what a call deletes is what it says that it evicted
pub makes_delete : (number class : ℕ) (room : Room) (view : View) (slabs : SlabState) (now : View) (left : SlabState) → MakesRoom number class room view slabs now left → Deletions number (evicted_for room) view now
makes_delete number class Had view slabs now left finds = deletes_none number view now (back_keeps class view slabs now left finds.0)
makes_delete number class Page view slabs now left gets =
    deletes_none number view now (grows_keep number class gets.tried gets.between now left gets.grows ∙ lacks_own class view slabs gets.tried gets.between gets.lacks)
makes_delete number class (Freed evicted freed) view slabs now left evicts = room_deletes number class (Freed evicted freed) view slabs now left evicts
makes_delete number class Full view slabs now left evicts = room_deletes number class Full view slabs now left evicts

-- one that was refused deleted some
pub refused_deletes : (number class : ℕ) (view : View) (slabs : SlabState) (now : View) (left : SlabState) → LacksRoomMemory number class view slabs now left → (count : ℕ) × Deletions number count view now
refused_deletes number class view slabs now left lacks = by lacks.why
  where
    own : own_of lacks.tried ≡ own_of view
    own = lacks_own class view slabs lacks.tried lacks.between lacks.lacks

    by : LacksPage class lacks.tried lacks.between now left ⊎ LacksCallForRoom number class lacks.tried lacks.between now left → (count : ℕ) × Deletions number count view now
    by (inl page) = (0, deletes_none number view now (ap own_of page.same.0 ∙ own))
    by (inr call) =
        let (count, deletions, whole) = lacking_deletes number class lacks.tried lacks.between now left call.lacks in
        (count, deletes_after number count view lacks.tried now own deletions)

-- the lock was waited for and given back
pub held_deletes : (number count : ℕ) (view : View) (found : SlabState) (taken last : View) (left : SlabState) (now : View) → Rattle.mc_words.specs.lock.Wait.WaitsForSlabs view found taken → Deletions number count taken last → now ≡ slabs_given left last → Deletions number count view now
held_deletes number count view found taken last left now waits deletions given =
    deletes_before number count view last now (deletes_after number count view taken last (waits_slabs_keep own_of (λ word v. refl) (λ slabs v. refl) view found taken waits) deletions) (ap own_of given)

-- room that was made by evictions, or by none, from the parts of the call
pub makes_by : (number class : ℕ) (room : Room) (view : View) (slabs : SlabState) (tried : View) (between : SlabState) (now : View) (left : SlabState) → LacksFree class view slabs tried between → HasNoPageFor between class → EvictsOldestFor number class room tried between now left
    → MakesRoom number class room view slabs now left
makes_by number class Had view slabs tried between now left lacks full evicts = absurd evicts
makes_by number class Page view slabs tried between now left lacks full evicts = absurd evicts
makes_by number class (Freed evicted freed) view slabs tried between now left lacks full evicts = record { tried = tried; between = between; lacks = lacks; full = full; evicts = evicts }
makes_by number class Full view slabs tried between now left lacks full evicts = record { tried = tried; between = between; lacks = lacks; full = full; evicts = evicts }

-- what a hold of the lock leaves that made room, or that was refused
pub held_room : (number class : ℕ) (room : Room) (view now : View) → HoldsSlabs (MakesRoom number class room) view now → Deletions number (evicted_for room) view now
held_room number class room view now holds =
    held_deletes number (evicted_for room) view holds.found holds.taken holds.last holds.left now holds.waits (makes_delete number class room holds.taken holds.found holds.last holds.left holds.does) holds.given

pub held_refused : (number class : ℕ) (view now : View) → HoldsSlabs (LacksRoomMemory number class) view now → (count : ℕ) × Deletions number count view now
held_refused number class view now holds =
    let (count, deletions) = refused_deletes number class holds.taken holds.found holds.last holds.left holds.does in
    (count, held_deletes number count view holds.found holds.taken holds.last holds.left now holds.waits deletions holds.given)

-- either way some keys were deleted, and the hand has all else that it had
pub some_deletes : {E : Type 0} (number class : ℕ) (view now : View) (r : Result Room E) → IfOk r (λ room. HoldsSlabs (MakesRoom number class room) view now) → OnErr r (HoldsSlabs (LacksRoomMemory number class) view now) → (count : ℕ) × Deletions number count view now
some_deletes number class view now (Ok room) made refused = (evicted_for room, held_room number class room view now made)
some_deletes number class view now (Err e) made refused = held_refused number class view now refused

-- a hand that took the lock of the slabs alone has no stripe's
pub none_with_slabs : (hand : Hand) → is_unlocked hand.seat.me.0 ≡ true → locks_have_no_stripe (locks_with_slabs hand.locks) ≡ true
none_with_slabs hand unlocked = by hand.locks (unlocked_from hand.seat.me.0 hand.locks hand.noted.4 ∙ unlocked)
  where
    by : (locks : Locks) → is_neither locks ≡ true → locks_have_no_stripe (locks_with_slabs locks) ≡ true
    by Neither none = refl
    by Slabs none = absurd (cc)
    by (Stripe other) none = absurd (cc)
    by (SlabsLast other) none = absurd (cc)
    by (StripeLast other) none = absurd (cc)
