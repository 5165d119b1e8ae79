-- Changes of the values behind locks that touch no word.
use Rattle.std.specs.Prelude.{ℕ, ◌==◌, ◌^◌, Bool, true, false, not, ◌&&◌, ◌||◌, nat_le, nat_lt, if◌then◌else◌, List, [], ◌∷◌, length, is_some, is_none, is_ok, unwrap_or, Option, Some, None, Result, Ok, Err}
use Rattle.std.specs.List.{list_any}
use Rattle.std.specs.Option.{option_map_or}
use Rattle.mc_classes.specs.Classes.{Classes, per_page_of}
use Rattle.mc_pages.specs.declared.ids.ChunkId.{ChunkId}
use Rattle.mc_pages.specs.declared.ids.Moving.{Moving}
use Rattle.mc_pages.specs.declared.moves.Found.{Found}
use Rattle.mc_pages.specs.declared.moves.Reassign.{Reassign}
use Rattle.mc_pages.specs.ClassState.{is_chunk}
use Rattle.mc_pages.specs.SlabState.{SlabState, class_at, class_of_chunk}
use Rattle.mc_pages.specs.Accounted.{cut_count}
use Rattle.mc_pages.specs.Changes.{after_touch, after_evicted, after_grow, after_trim as after_trim_slabs, next_page}
use Rattle.mc_pages.specs.Answer.{answer_of}
use Rattle.mc_pages.specs.Moves.{after_begin, after_finish, after_passed, after_wrap, is_held_up, chunk_at_position}
use Rattle.mc_stripe.specs.StripeState.{StripeState, ReadyStripe, key_aside, chunk_and_stamp}
use Rattle.mc_stripe.specs.Changes.{after_got, after_unlink, stripe_after_trim, after_forget, used_up, after_reserve, after_reserve_call}
use Rattle.mc_core.specs.declared.event.Change.{Change}
use Rattle.mc_core.specs.declared.event.Change.TheVariants.{Grow, BeginMove, FinishMove, Touch, SetAutomove, TrimLedger, Passed, Wrap, Evicted, OfStripe, GotNone, DeletedNone}
use Rattle.mc_core.specs.declared.event.StripeChange.{StripeChange}
use Rattle.mc_core.specs.declared.event.StripeChange.TheVariants.{Reserve, ReserveCall, Trim, Forget}
use Rattle.mc_core.specs.declared.look.Look.TheVariants.{Changed}
use Rattle.mc_core.specs.model.State.{State, is_class, number_at, has_slabs, has_stripe, stripe_of, stripe_at, with_stripe, with_slabs, with_look}

-- the chunk is in the list
abbrev pub is_among : List ChunkId → ChunkId → Bool
is_among chunks chunk = list_any (λ c. is_chunk c chunk) chunks

-- the chunk is in the hand-out order of the class that has its page
abbrev pub is_handed_out : SlabState → ChunkId → Bool
is_handed_out slabs chunk = is_among (class_of_chunk slabs chunk).order chunk

-- the chunk is in the free list or in the hand-out order of the class
abbrev pub is_listed : SlabState → ℕ → ChunkId → Bool
is_listed slabs class chunk = is_among (class_at slabs class).free chunk || is_among (class_at slabs class).order chunk

-- some chunk of the page is in the list
abbrev pub has_page : List ChunkId → ℕ → Bool
has_page chunks page = list_any (λ c. c.page == page) chunks

-- some chunk of the page is in the free list or in the hand-out order of the class
abbrev pub has_listed : SlabState → ℕ → ℕ → Bool
has_listed slabs class page = has_page (class_at slabs class).free page || has_page (class_at slabs class).order page

-- no page is half cut
abbrev pub none_half_cut : SlabState → Bool
none_half_cut slabs = is_none slabs.uncut

-- the class may get a page: the table has the class, no page is half cut, and there is a page for the class
abbrev pub can_grow : Classes → SlabState → ℕ → Bool
can_grow table slabs class = is_class table class && none_half_cut slabs && is_some (next_page slabs class)

-- a move runs, no page is half cut, and no chunk of the moving page is in a list of the move's source
abbrev pub can_finish : SlabState → Option Moving → Bool
can_finish slabs None = false
can_finish slabs (Some move) = none_half_cut slabs && not (has_listed slabs move.src move.page)

-- the move that runs, and how many chunks a page of its source has; none where no move runs
abbrev pub run_of : Classes → Option Moving → Option (Moving × ℕ)
run_of table None = None
run_of table (Some move) = Some (move, per_page_of table move.src)

-- the chunk at the move's position was cut, and is in no list of the move's source
abbrev pub is_cleared_at : SlabState → ℕ → Moving → Bool
is_cleared_at slabs per_page move =
    nat_lt move.at (cut_count slabs.uncut move.page per_page) && not (is_listed slabs move.src (chunk_at_position move))

-- a move runs and isn't at its page's end, and the chunk at its position was found to hold it up, or is cleared
abbrev pub can_pass : SlabState → Found → Option (Moving × ℕ) → Bool
can_pass slabs found None = false
can_pass slabs found (Some run) = nat_lt run.0.at run.1 && (is_held_up found || is_cleared_at slabs run.1 run.0)

-- a move runs, is at its page's end, and something held it up
abbrev pub can_wrap : Option (Moving × ℕ) → Bool
can_wrap None = false
can_wrap (Some run) = run.0.at == run.1 && nat_le 1 run.0.busy

-- a change of pages and lists is allowed
abbrev pub can_change_slabs : Classes → SlabState → Change → Bool
can_change_slabs table slabs (Grow class) = can_grow table slabs class
can_change_slabs table slabs (BeginMove src dst) = is_ok (answer_of slabs src dst)
can_change_slabs table slabs FinishMove = can_finish slabs slabs.moving
can_change_slabs table slabs (Touch chunk) = is_handed_out slabs chunk
can_change_slabs table slabs (SetAutomove mode) = nat_le mode 2
can_change_slabs table slabs TrimLedger = true
can_change_slabs table slabs (Passed found) = can_pass slabs found (run_of table slabs.moving)
can_change_slabs table slabs Wrap = can_wrap (run_of table slabs.moving)
can_change_slabs table slabs (Evicted class) = is_class table class
can_change_slabs table slabs change = false

-- the class got the next page, where there is one
abbrev pub after_growth : SlabState → ℕ → Option ℕ → SlabState
after_growth slabs class None = slabs
after_growth slabs class (Some page) = after_grow slabs class page

-- the first page of the class that is the answer began to move; where the answer is a refusal nothing changes
abbrev pub after_reassign : SlabState → Option ℕ → ℕ → Result ℕ Reassign → SlabState
after_reassign slabs src dst (Err refusal) = slabs
after_reassign slabs src dst (Ok source) = after_begin slabs src source dst

-- pages and lists after the change
abbrev pub slabs_after : SlabState → Change → SlabState
slabs_after slabs (Grow class) = after_growth slabs class (next_page slabs class)
slabs_after slabs (BeginMove src dst) = after_reassign slabs src dst (answer_of slabs src dst)
slabs_after slabs FinishMove = after_finish slabs slabs.moving
slabs_after slabs (Touch chunk) = after_touch slabs chunk
slabs_after slabs (SetAutomove mode) = record slabs { automove = mode }
slabs_after slabs TrimLedger = after_trim_slabs slabs
slabs_after slabs (Passed found) = after_passed slabs found
slabs_after slabs Wrap = after_wrap slabs
slabs_after slabs (Evicted class) = after_evicted slabs class
slabs_after slabs change = slabs

-- the key's entry is aside
abbrev pub is_aside : StripeState → ℕ → Bool
is_aside stripe key = option_map_or (λ other. other == key) (key_aside stripe) false

-- the stripe has room for a call, the key leads nowhere, and the key's entry isn't aside
abbrev pub can_record_miss : ReadyStripe → ℕ → Bool
can_record_miss stripe key = stripe.ready && not (is_aside stripe.state key) && is_none (chunk_and_stamp stripe.state key)

-- the change of the stripe is allowed: a trim only where the place of the next call can be counted, if calls are recorded
abbrev pub can_change_stripe : StripeChange → StripeState → Bool
can_change_stripe Reserve stripe = true
can_change_stripe ReserveCall stripe = true
can_change_stripe Trim stripe = is_none stripe.recorded_from || nat_lt (length stripe.history) (2 ^ 64)
can_change_stripe Forget stripe = true

-- a stripe after this change
abbrev pub stripe_after : StripeChange → ReadyStripe → ReadyStripe
stripe_after Reserve stripe = after_reserve stripe
stripe_after ReserveCall stripe = after_reserve_call stripe
stripe_after Trim stripe = record stripe { state = stripe_after_trim stripe.state }
stripe_after Forget stripe = record stripe { state = after_forget stripe.state }

-- the number that a hand writes into histories, 0 where it is gone
abbrev pub writer_of : State → ℕ → ℕ
writer_of state hand = unwrap_or (number_at state hand) 0

-- the hand may make this change of a value behind a lock that it has
abbrev pub allows_change : State → ℕ → Change → Bool
allows_change state hand (OfStripe stripe how) = has_stripe state hand stripe && can_change_stripe how (stripe_at state stripe).state
allows_change state hand (GotNone key) = has_stripe state hand (stripe_of state key) && can_record_miss (stripe_at state (stripe_of state key)) key
allows_change state hand (DeletedNone key) = has_stripe state hand (stripe_of state key) && can_record_miss (stripe_at state (stripe_of state key)) key
allows_change state hand change = has_slabs state hand && can_change_slabs state.table state.slabs change

-- the state after the change
abbrev pub after_change : State → ℕ → Change → State
after_change state hand (OfStripe stripe how) = with_stripe state stripe (stripe_after how (stripe_at state stripe))
after_change state hand (GotNone key) =
    with_stripe state (stripe_of state key) (used_up (after_got (stripe_at state (stripe_of state key)).state (writer_of state hand) key))
after_change state hand (DeletedNone key) =
    with_stripe state (stripe_of state key) (used_up (after_unlink (stripe_at state (stripe_of state key)).state (writer_of state hand) key))
after_change state hand change = with_look (with_slabs state (slabs_after state.slabs change)) hand (Changed change)

-- all these changes, one after another, are allowed
abbrev pub allows_changes : State → ℕ → List Change → Bool
allows_changes state hand [] = true
allows_changes state hand (change ∷ changes) = allows_change state hand change && allows_changes (after_change state hand change) hand changes

-- the state after all these changes, one after another, whether they are allowed or not
abbrev pub after_changes : State → ℕ → List Change → State
after_changes state hand [] = state
after_changes state hand (change ∷ changes) = after_changes (after_change state hand change) hand changes

-- the stripe after it recorded a call on a key that isn't there: a delete, or else a look-up
abbrev pub stripe_after_miss : Bool → StripeState → ℕ → ℕ → StripeState
stripe_after_miss deletes stripe writer key = if deletes then after_unlink stripe writer key else after_got stripe writer key

-- the change by which a stripe records a call on a key that isn't there: a delete, or else a look-up
abbrev pub call_of : Bool → ℕ → Change
call_of deletes key = if deletes then DeletedNone key else GotNone key
