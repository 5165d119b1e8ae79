-- Which calls leave the lock of the slabs alone.
use Rattle.std.proofs.Common.{◌≡◌, ◌∙◌, ◌⊎◌, ℕ, ◌+◌, Bool, true, false, List, [], ◌∷◌, Ok, IfOk, OnErr, Err, Option, Result, Some, None, ap, inl, inr, refl}
use Rattle.std.specs.Option.{option_map}
use Rattle.mc_pages.specs.declared.ids.ChunkId.{ChunkId}
use Rattle.mc_core.specs.declared.head.Head.{Head}
use Rattle.mc_words.specs.declared.hand.Hand.{Hand}
use Rattle.mc_words.specs.declared.item.refs.Again.{Again}
use Rattle.mc_words.specs.declared.item.refs.Again.TheVariants.{Gone, Contended, TooManyRefs}
use Rattle.mc_words.specs.declared.item.refs.Hint.{Hint}
use Rattle.mc_words.specs.item.Again.{FindsContended, FindsGone, FindsOther}
use Rattle.mc_words.specs.hand.Arenas.{view}
use Rattle.mc_words.specs.hand.Observers.{hand_number}
use Rattle.mc_words.specs.hand.View.{Setup, View}
use Rattle.mc_words.specs.hand.Views.{chunk_released, slabs_missed, word_seen}
use Rattle.mc_words.specs.lock.Doing.{HoldsSlabs}
use Rattle.mc_words.specs.lock.Wait.{MissesSlabs, MissesSlabsEachTime, WaitsForStripe}
use Rattle.mc_stripe.specs.StripeState.{ReadyStripe}
use Rattle.mc_items.specs.declared.refs.Ref.{Ref}
use Rattle.mc_items.specs.Calls.{Bumps, CallsOn, Deletes, LooksUp}
use Rattle.mc_items.specs.ItemRefs.{item_chunk, item_reference}
use Rattle.mc_shard.specs.Finding.{FollowsInVain}
use Rattle.mc_items.specs.OnKeys.{ActsOn, FindsNoRoomFor, FindsStripeHeld, Gets, GetsByHint, stripe_of_key}
use Rattle.mc_items.specs.Reading.{AndReads}
use Rattle.mc_items.specs.Within.{MissesKeyEachTime}
use Rattle.mc_items.specs.declared.within.error.WithinError.{WithinError}
use Rattle.mc_items.specs.declared.within.error.WithinError.TheVariants as within_error
use Rattle.mc_words.proofs.Locks.Waited.{misses_keep}
use Rattle.mc_items.proofs.Locks.{waits_keep}
use Rattle.mc_shard.specs.Reading.{LeavesSlabs, TakesSlabsOnce}

-- how often the hand took that lock
abbrev count_of : View → ℕ
count_of view = view.row.knows.hold.count

waited : (stripe : ℕ) (before : View) (value : ReadyStripe) (now : View) → WaitsForStripe stripe before value now → count_of now ≡ count_of before
waited stripe before value now waits = waits_keep count_of stripe (λ word v. refl) (λ value v. refl) before value now waits

looked : (number stripe key : ℕ) (found : Option Ref) (view now : View) → AndReads (option_map item_chunk found) (CallsOn number stripe (LooksUp number stripe key (option_map item_reference found))) view now → LeavesSlabs view now
looked number stripe key None view now on = ap count_of on.done.given ∙ (ap count_of on.done.does.1 ∙ waited stripe view on.value on.taken on.waits)
looked number stripe key (Some item) view now (got, on, is) = ap count_of is ∙ (ap count_of on.done.given ∙ (ap count_of on.done.does.0.is ∙ waited stripe view on.value on.taken on.waits))

-- a get
pub got_leaves : (setup : Setup) (hash : ℕ) (found : Option Ref) (before got : Hand) → Gets setup hash found before got → LeavesSlabs (view before) (view got)
got_leaves setup hash found before got gets = looked (hand_number before) (stripe_of_key setup hash) hash found (view before) (view got) gets

-- one that found no room for its entry
pub no_room_leaves : (setup : Setup) (hash : ℕ) (before now : Hand) → FindsNoRoomFor setup hash before now → LeavesSlabs (view before) (view now)
no_room_leaves setup hash before now only = ap count_of only.given ∙ waited (stripe_of_key setup hash) (view before) only.value only.taken only.waits

-- one that found the lock with another hand
pub held_leaves : (setup : Setup) (hash : ℕ) (before now : Hand) → FindsStripeHeld setup hash before now → LeavesSlabs (view before) (view now)
held_leaves setup hash before now held = ap count_of held.2

-- one for whose lock each try missed
pub lock_missed_leaves : (setup : Setup) (tries hash : ℕ) (before now : Hand) → MissesKeyEachTime setup tries hash before now → LeavesSlabs (view before) (view now)
lock_missed_leaves setup tries hash before now missed = misses_keep count_of (stripe_of_key setup hash) (λ word v. refl) missed.words (view before) (view now) missed.misses

-- a word that was read
pub read_leaves : (chunk : ChunkId) (place : ℕ) (before now : View) → now ≡ word_seen chunk place before → LeavesSlabs before now
read_leaves chunk place before now is = ap count_of is

-- a reference that was given up
pub released_leaves : (chunk : ChunkId) (before now : View) → now ≡ chunk_released chunk before → LeavesSlabs before now
released_leaves chunk before now is = ap count_of is

-- what is left alone by one call and the next is by both
pub still_left : (before next now : View) → LeavesSlabs before next → LeavesSlabs next now → LeavesSlabs before now
still_left before next now first second = second ∙ first

-- a get by a hint
pub hinted_leaves : (hint : Hint) (item : Ref) (before got : View) → GetsByHint hint item before got → LeavesSlabs before got
hinted_leaves hint item before now (got, gets, is) = ap count_of is ∙ ap count_of gets.refers.is

other_leaves : (chunk : ChunkId) (issue : ℕ) (IsOther : Head → Head → Type 0) (before now : View) → FindsOther before chunk issue IsOther now → LeavesSlabs before now
other_leaves chunk issue IsOther before now finds = ap count_of finds.is

abbrev refusal : Again → Result Ref Again
refusal e = Err e

-- a hint that led nowhere
pub missed_leaves : (e : Again) (chunk : ChunkId) (issue : ℕ) (before now : View) → (refusal e ≡ Err Gone → FindsGone before chunk issue now) → (refusal e ≡ Err Contended → FindsContended before chunk issue now) → (refusal e ≡ Err TooManyRefs → now ≡ before) → LeavesSlabs before now
missed_leaves Gone chunk issue before now gone contended at_limit = elim (gone refl) [
  | inl other ↦ ap count_of other.is
  | inr finds ↦ other_leaves chunk issue _ before now finds
]
missed_leaves Contended chunk issue before now gone contended at_limit = other_leaves chunk issue _ before now (contended refl)
missed_leaves TooManyRefs chunk issue before now gone contended at_limit = ap count_of (at_limit refl)

-- and what it did
pub missed_in_vain : (e : Again) (hash : ℕ) (hint : Hint) (before now : View) → (refusal e ≡ Err Gone → FindsGone before hint.chunk hint.issue now) → (refusal e ≡ Err Contended → FindsContended before hint.chunk hint.issue now) → (refusal e ≡ Err TooManyRefs → now ≡ before)
    → (now ≡ before) ⊎ ((hint : Hint) × FollowsInVain hint hash before now)
missed_in_vain Gone hash hint before now gone contended at_limit = inr (hint, inl (gone refl))
missed_in_vain Contended hash hint before now gone contended at_limit = inr (hint, inr (inl (contended refl)))
missed_in_vain TooManyRefs hash hint before now gone contended at_limit = inl (at_limit refl)

-- a delete
deleted_leaves : (setup : Setup) (hash : ℕ) (there : Bool) (before now : Hand) → ActsOn setup hash (λ number stripe. Deletes number stripe hash there) before now → LeavesSlabs (view before) (view now)
deleted_leaves setup hash true before now on = ap count_of on.done.given ∙ (ap count_of on.done.does.1 ∙ waited (stripe_of_key setup hash) (view before) on.value on.taken on.waits)
deleted_leaves setup hash false before now on = ap count_of on.done.given ∙ (ap count_of on.done.does.1 ∙ waited (stripe_of_key setup hash) (view before) on.value on.taken on.waits)

-- a delete that came or was refused
pub delete_leaves : {E : Type 0} (result : Result Bool E) (setup : Setup) (hash : ℕ) (before now : Hand) → IfOk result (λ there. ActsOn setup hash (λ number stripe. Deletes number stripe hash there) before now) → OnErr result (FindsNoRoomFor setup hash before now) → LeavesSlabs (view before) (view now)
delete_leaves (Ok there) setup hash before now done none = deleted_leaves setup hash there before now done
delete_leaves (Err error) setup hash before now done none = no_room_leaves setup hash before now none

-- a delete that came, was refused, or missed the lock at each try
pub delete_within_leaves : (result : Result Bool WithinError) (setup : Setup) (tries hash : ℕ) (before now : Hand) → IfOk result (λ there. ActsOn setup hash (λ number stripe. Deletes number stripe hash there) before now) → (result ≡ Err (within_error.NoMemory tt) → FindsNoRoomFor setup hash before now)
    → (result ≡ Err within_error.Held → MissesKeyEachTime setup tries hash before now) → LeavesSlabs (view before) (view now)
delete_within_leaves (Ok there) setup tries hash before now done none held = deleted_leaves setup hash there before now done
delete_within_leaves (Err (within_error.NoMemory refused)) setup tries hash before now done none held = no_room_leaves setup hash before now (none refl)
delete_within_leaves (Err within_error.Held) setup tries hash before now done none held = lock_missed_leaves setup tries hash before now (held refl)

misses_leave : (words : List ℕ) (before now : View) → MissesSlabs words before now → count_of now ≡ count_of before
misses_leave [] before now is = ap count_of is
misses_leave (word ∷ words) before now (busy, happens, rest) = misses_leave words (slabs_missed word before) now rest

-- each try for that lock missed
pub slabs_missed_leaves : (tries : ℕ) (before now : View) → MissesSlabsEachTime tries before now → LeavesSlabs before now
slabs_missed_leaves tries before now missed = misses_leave missed.words before now missed.misses

-- an item that was made the newest: the lock was taken once
pub bumped_once : (number : ℕ) (chunk : ChunkId) (before now : View) → HoldsSlabs (Bumps number chunk) before now → TakesSlabsOnce before now
bumped_once number chunk before now holds = ap count_of holds.given ∙ (ap count_of holds.does.1 ∙ (ap count_of holds.waits.is ∙ ap (λ (n : ℕ). n + 1) (misses_leave holds.waits.words before holds.waits.before holds.waits.misses)))
