-- What calls on keys leave of a hand's row, but for looks, sights and calls.
use Rattle.std.proofs.Common.{◌≡◌, ℕ, ◌+◌, Bool, true, false, List, [], ◌∷◌, ◌++◌, Some, refl, ap, sym, ◌∙◌, inl, inr, if◌then◌else◌}
use Rattle.mc_pages.specs.declared.ids.ChunkId.{ChunkId}
use Rattle.mc_pages.specs.SlabState.{SlabState}
use Rattle.mc_stripe.specs.Changes.{after_reserve_call}
use Rattle.mc_stripe.specs.StripeState.{ReadyStripe}
use Rattle.mc_core.specs.declared.event.Step.TheVariants as step
use Rattle.mc_core.specs.declared.holding.Holding.{Holding}
use Rattle.mc_core.specs.declared.ids.Ids.{Ids}
use Rattle.mc_core.specs.past.Past.{KnownItem, StoredItem, known_by}
use Rattle.mc_words.specs.hand.View.{View}
use Rattle.mc_words.specs.item.Calls.{key_deleted, key_not_deleted}
use Rattle.mc_words.specs.item.Again.{FindsContended, FindsGone, GetsAgain}
use Rattle.mc_words.specs.item.Items.{held_item}
use Rattle.mc_words.specs.item.References.{reference_to}
use Rattle.mc_words.specs.hand.Views.{call_reserved, with_event}
use Rattle.mc_words.specs.lock.Doing.{HoldsSlabs}
use Rattle.mc_words.specs.lock.Wait.{WaitsForSlabs, WaitsForStripe}
use Rattle.mc_words.specs.declared.item.refs.Ref as words
use Rattle.mc_items.specs.declared.refs.Ref.{Ref}
use Rattle.mc_items.specs.Calls.{Bumps, CallsOn, Deletes, Finds, FindsNone, FindsStripe}
use Rattle.mc_items.specs.ItemRefs.{item_chunk, item_issue}
use Rattle.mc_items.specs.Keeping.{HoldsToo}
use Rattle.mc_words.specs.hand.Views.{fields_seen}
use Rattle.mc_items.specs.Reading.{AndReads}
use Rattle.mc_items.proofs.Locks.{waits_keep, waits_slabs_keep}

-- what is held, known and said, and the numbers
abbrev pub Kept : Type 0
Kept = List Holding × List KnownItem × List StoredItem × Ids

abbrev pub kept_of : View → Kept
kept_of view = (view.row.holdings, view.row.knows.known, view.row.knows.stored, view.row.ids)

-- waiting for a lock leaves these
pub waited : (stripe : ℕ) (before : View) (value : ReadyStripe) (now : View) → WaitsForStripe stripe before value now → kept_of now ≡ kept_of before
waited stripe before value now waits = waits_keep kept_of stripe (λ word v. refl) (λ value v. refl) before value now waits

pub waited_for_slabs : (before : View) (slabs : SlabState) (now : View) → WaitsForSlabs before slabs now → kept_of now ≡ kept_of before
waited_for_slabs before slabs now waits = waits_slabs_keep kept_of (λ word v. refl) (λ slabs v. refl) before slabs now waits

pub only_keeps : {Is : ReadyStripe → Type 0} (stripe : ℕ) (view now : View) → FindsStripe Is stripe view now → kept_of now ≡ kept_of view
only_keeps stripe view now only = ap kept_of only.given ∙ waited stripe view only.value only.taken only.waits

-- and so does a call that finds no item
pub none_keeps : (number stripe key : ℕ) (view now : View) → CallsOn number stripe (FindsNone number stripe key) view now → kept_of now ≡ kept_of view
none_keeps number stripe key view now on = ap kept_of on.done.given ∙ (ap kept_of on.done.does.1 ∙ waited stripe view on.value on.taken on.waits)

-- and one that deletes
pub deletes_keep : (number stripe key : ℕ) (there : Bool) (view now : View) → CallsOn number stripe (Deletes number stripe key there) view now → kept_of now ≡ kept_of view
deletes_keep number stripe key there view now on = ap kept_of on.done.given ∙ (by there on.done.does.1 ∙ waited stripe view on.value on.taken on.waits)
  where
    ready : ReadyStripe
    ready = after_reserve_call on.value

    made : View
    made = call_reserved stripe on.value (number + 1) on.taken

    by : (there : Bool) → on.done.last ≡ (if there then with_event [] (step.Unlink key) (key_deleted number stripe ready key true made) else key_not_deleted number stripe ready key made) → kept_of on.done.last ≡ kept_of on.taken
    by true is = ap kept_of is
    by false is = ap kept_of is

-- and so does a hold of the slabs lock in which a chunk is made the newest
pub bumped_keeps : (number : ℕ) (chunk : ChunkId) (view now : View) → HoldsSlabs (Bumps number chunk) view now → kept_of now ≡ kept_of view
bumped_keeps number chunk view now bumps = ap kept_of bumps.given ∙ (ap kept_of bumps.does.1 ∙ waited_for_slabs view bumps.found bumps.taken bumps.waits)

-- in which no call is made
pub bumped_tells : (number : ℕ) (chunk : ChunkId) (view now : View) → HoldsSlabs (Bumps number chunk) view now → now.row.knows.mine ≡ view.row.knows.mine
bumped_tells number chunk view now bumps =
    ap (λ (v : View). v.row.knows.mine) bumps.given
    ∙ (ap (λ (v : View). v.row.knows.mine) bumps.does.1
    ∙ waits_slabs_keep (λ (v : View). v.row.knows.mine) (λ word v. refl) (λ slabs v. refl) view bumps.found bumps.taken bumps.waits)

-- one more that the hand holds, and knows
abbrev pub with_one : Holding → ℕ → Kept → Kept
with_one one room kept = (kept.0 ++ one ∷ [], kept.1 ++ known_by room one ∷ [], kept.2, kept.3)

-- a reference was got
pub record GotOne (chunk : ChunkId) (issue room : ℕ) (view now : View) : Type 0 where
  pub item : List ℕ
  pub held : held_item now chunk ≡ item
  pub kept : kept_of now ≡ with_one (reference_to chunk issue item) room (kept_of view)

pub finds_one : (number stripe key : ℕ) (r : words.Ref) (view now : View) → CallsOn number stripe (Finds number stripe key r) view now → GotOne r.chunk r.issue r.room view now
finds_one number stripe key r view now on =
    let gets = on.done.does.0 in record {
      item = gets.item;
      held = ap (λ (v : View). held_item v r.chunk) on.done.given ∙ gets.held;
      kept = ap kept_of on.done.given ∙ (ap kept_of gets.is ∙ ap (with_one (reference_to r.chunk r.issue gets.item) r.room) (waited stripe view on.value on.taken on.waits));
    }

-- by a hint
pub again_one : (chunk : ChunkId) (issue room : ℕ) (view now : View) → GetsAgain view chunk issue room now → GotOne chunk issue room view now
again_one chunk issue room view now gets = record { item = gets.refers.item; held = gets.refers.held; kept = ap kept_of gets.refers.is }

-- reading what is said of it leaves all
pub read_one : (chunk : ChunkId) (issue room : ℕ) (view got now : View) → now ≡ fields_seen chunk got → GotOne chunk issue room view got → GotOne chunk issue room view now
read_one chunk issue room view got now is one = record { item = one.item; held = ap (λ (v : View). held_item v chunk) is ∙ one.held; kept = ap kept_of is ∙ one.kept }

-- the hand holds one more
pub one_more_held : (item : Ref) (view now : View) → GotOne (item_chunk item) (item_issue item) item.reference.room view now → HoldsToo (Some item) view now
one_more_held item view now one =
    ap (λ (k : Kept). k.0) one.kept ∙ ap (λ (w : List ℕ). view.row.holdings ++ reference_to (item_chunk item) (item_issue item) w ∷ []) (sym one.held)

-- a get got one, or none
pub gets_one : (number stripe key : ℕ) (item : Ref) (view now : View) → AndReads (Some (item_chunk item)) (CallsOn number stripe (Finds number stripe key item.reference)) view now → GotOne (item_chunk item) (item_issue item) item.reference.room view now
gets_one number stripe key item view now (got, on, is) = read_one (item_chunk item) (item_issue item) item.reference.room view got now is (finds_one number stripe key item.reference view got on)

-- a hint that leads nowhere leaves all
pub gone_keeps : (view : View) (chunk : ChunkId) (issue : ℕ) (now : View) → FindsGone view chunk issue now → kept_of now ≡ kept_of view
gone_keeps view chunk issue now (inl sees) = ap kept_of sees.is
gone_keeps view chunk issue now (inr other) = ap kept_of other.is

pub contended_keeps : (view : View) (chunk : ChunkId) (issue : ℕ) (now : View) → FindsContended view chunk issue now → kept_of now ≡ kept_of view
contended_keeps view chunk issue now other = ap kept_of other.is
