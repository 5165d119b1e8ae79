-- What calls on keys change of a hand's view: all else stays.
use Rattle.std.specs.Prelude.{ℕ, ◌+◌, ◌==◌, Bool, true, false, [], ◌∷◌, ◌++◌, if◌then◌else◌, map, slice_set, Some}
use Rattle.mc_pages.specs.declared.ids.ChunkId.{ChunkId}
use Rattle.mc_stripe.specs.declared.history.Call.{Call}
use Rattle.mc_stripe.specs.declared.history.Call.TheVariants.{Get, Delete, Evict}
use Rattle.mc_stripe.specs.StripeState.{ReadyStripe, stamp_of_key}
use Rattle.mc_stripe.specs.Changes.{after_evict, after_got, after_lift, after_unlink, used_up}
use Rattle.mc_core.specs.declared.head.Head.{Head}
use Rattle.mc_core.specs.declared.holding.Holding.{Holding}
use Rattle.mc_core.specs.declared.look.Look.TheVariants.{Condemned}
use Rattle.mc_core.specs.run.Evictions.{head_after_condemn}
use Rattle.mc_core.specs.model.Holdings.{has_fresh}
use Rattle.mc_core.specs.past.Past.{Own, known_by, with_more}
use Rattle.mc_words.specs.hand.View.{View}
use Rattle.mc_core.specs.declared.event.Change.TheVariants as change
use Rattle.mc_core.specs.declared.event.Step.TheVariants as step
use Rattle.mc_words.specs.hand.Views.{with_event, view_with_knowledge, with_holdings, view_after_look, stripe_lock_seen}

-- the number's own calls on keys of this stripe, with one more
abbrev pub with_own_call : ℕ → ℕ → Call → Own → Own
with_own_call number stripe call own = if own.number == number then record own { calls = with_more own.calls stripe (call ∷ []) } else own

-- the hand of this number made a call under the stripe's lock
abbrev pub view_after_call : ℕ → ℕ → Call → View → View
view_after_call number stripe call view = view_with_knowledge (record view.row.knows { mine = map (with_own_call number stripe call) view.row.knows.mine }) view

-- the hand of this number looked a key up, whose stripe had this value
abbrev pub key_got : ℕ → ℕ → ReadyStripe → ℕ → View → View
key_got number stripe value key view =
    record (view_after_call number stripe (Get number key (stamp_of_key value.state key)) view) { stripes = slice_set view.stripes stripe (Some (used_up (after_got value.state number key))) }

-- the hand of this number evicted a key, whose stripe had this value
abbrev pub key_evicted : ℕ → ℕ → ReadyStripe → ℕ → View → View
key_evicted number stripe value key view =
    record (view_after_call number stripe (Evict number key) view) { stripes = slice_set view.stripes stripe (Some (used_up (after_evict value.state number key))) }

-- the hand of this number evicted a key, and took its item away from this chunk, whose header was this
abbrev pub item_condemned : ℕ → ℕ → ReadyStripe → ℕ → ChunkId → Head → View → View
item_condemned number stripe value key chunk head view = with_event [] (step.Condemn chunk) (view_after_look (Condemned chunk (head_after_condemn head)) (key_evicted number stripe value key view))

-- the view after the hand got this reference, to an item in a chunk with room for n words
abbrev pub item_referred : Holding → ℕ → View → View
item_referred holding room view =
    view_with_knowledge (record view.row.knows { known = view.row.knows.known ++ known_by room holding ∷ [] }) (with_holdings (view.row.holdings ++ holding ∷ []) view)

-- the view after the hand of this number looked up a key that leads nowhere. The hand recorded the call by a look at the word of the
-- stripe's lock
abbrev pub key_missed : ℕ → ℕ → ReadyStripe → ℕ → View → View
key_missed number stripe value key view = stripe_lock_seen (change.GotNone key ∷ []) stripe (number + 1) (key_got number stripe value key view)

-- the hand of this number deleted a key, which was there or not
abbrev pub key_deleted : ℕ → ℕ → ReadyStripe → ℕ → Bool → View → View
key_deleted number stripe value key there view =
    record (view_after_call number stripe (Delete number key there) view) { stripes = slice_set view.stripes stripe (Some (used_up (after_unlink value.state number key))) }

-- the view after the hand of this number deleted a key that leads nowhere. The hand recorded the call by a look at the word of the stripe's
-- lock
abbrev pub key_not_deleted : ℕ → ℕ → ReadyStripe → ℕ → View → View
key_not_deleted number stripe value key view = stripe_lock_seen (change.DeletedNone key ∷ []) stripe (number + 1) (key_deleted number stripe value key false view)

-- the hand put a key's entry aside, which is no call
abbrev pub key_lifted : ℕ → ReadyStripe → ℕ → View → View
key_lifted stripe value key view = record view { stripes = slice_set view.stripes stripe (Some (record value { state = after_lift value.state key })) }

-- the hand of this number unlinked a key's item: where it fills a chunk the entry is put aside, and otherwise the key is deleted
abbrev pub key_unlinked : ℕ → ℕ → ReadyStripe → ℕ → View → View
key_unlinked number stripe value key view =
    with_event [] (step.Unlink key) (if has_fresh view.row.holdings then key_lifted stripe value key view else key_deleted number stripe value key true view)
