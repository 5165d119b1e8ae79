-- Items that are stored: what the hand writes into its fresh chunk, and how that comes to its key.
use Rattle.std.specs.Prelude.{◌≡◌, ℕ, ◌+◌, List, [], ◌∷◌, ◌++◌, if◌then◌else◌, is_some, true, Option, Some, None}
use Rattle.mc_pages.specs.declared.ids.ChunkId.{ChunkId}
use Rattle.mc_stripe.specs.StripeState.{ReadyStripe, chunk_and_stamp, stamp_of_key}
use Rattle.mc_stripe.specs.Changes.{after_lift, after_link, used_up}
use Rattle.mc_core.specs.declared.holding.Holding.{Holding}
use Rattle.mc_core.specs.declared.holding.Kind.{Kind}
use Rattle.mc_core.specs.declared.holding.Kind.TheVariants.{Reference, Fresh}
use Rattle.mc_core.specs.model.Holdings.{Words, change_each, holding_of, is_of_chunk}
use Rattle.mc_words.specs.lock.Doing.{Doing}
use Rattle.mc_words.specs.hand.View.{OwnEvent, View, made}
use Rattle.mc_core.specs.declared.event.Step.TheVariants as step
use Rattle.mc_core.specs.declared.event.StripeChange.TheVariants.{Reserve}
use Rattle.mc_words.specs.item.Calls.{key_lifted}
use Rattle.mc_words.specs.item.Items.{issue_in, known_words_in}
use Rattle.mc_words.specs.item.Links.{item_linked, own_item}
use Rattle.mc_words.specs.hand.Views.{chunk_discarded, chunk_released, with_holdings}
use Rattle.mc_items.specs.Calls.{CallsBehind, FindsStripe, IsFullToStore}
use Rattle.mc_items.specs.declared.comparing.Expected.{Expected}
use Rattle.mc_items.specs.declared.comparing.Expected.TheVariants.{Anything, Nothing, Something, Item}
use Rattle.mc_items.specs.declared.storing.StoreError.{StoreError}
use Rattle.mc_items.specs.declared.storing.StoreError.TheVariants.{NoMemory, Differs}

-- the words of a chunk, with the item's words in place of the first ones, as far as there is room
abbrev pub written_over : List ℕ → Words → Words
written_over [] words = words
written_over (word ∷ item) [] = []
written_over (word ∷ item) (first ∷ words) = Some word ∷ written_over item words

-- a fresh chunk, into which the item's words were written from its first word on; a reference stays
abbrev pub kind_with : List ℕ → Kind → Kind
kind_with item (Reference own) = Reference own
kind_with item (Fresh purpose words) = Fresh purpose (written_over item words)

-- a holding of a fresh chunk, into which the item's words were written from its first word on; a reference stays
abbrev pub holding_with : List ℕ → Holding → Holding
holding_with item holding = record holding { kind = kind_with item holding.kind }

-- the events that write each of these words into the chunk, from this place on
abbrev pub fills_of : ChunkId → ℕ → List ℕ → List OwnEvent
fills_of chunk place [] = []
fills_of chunk place (word ∷ item) = made [] (step.Fill chunk place word) ∷ fills_of chunk (place + 1) item

-- the view after the hand wrote the item's words into the chunk, from its first word on
abbrev pub item_filled : ChunkId → List ℕ → View → View
item_filled chunk item view = record (with_holdings (change_each (is_of_chunk chunk) (holding_with item) view.row.holdings) view) { events = view.events ++ fills_of chunk 0 item }

-- the hand fills the chunk with an item of its own
abbrev pub IsOwnItem : View → ChunkId → Type 0
IsOwnItem view chunk = holding_of chunk view.row.holdings ≡ Some (own_item chunk (issue_in view chunk) (known_words_in view chunk))

-- the stripe, with the key's entry aside, if it has one
abbrev pub stripe_lifted : ReadyStripe → ℕ → ReadyStripe
stripe_lifted value key = record value { state = after_lift value.state key }

-- the hand put the key's entry aside, if there was one
abbrev pub key_put_aside : ℕ → ReadyStripe → ℕ → View → View
key_put_aside stripe value key view =
    record (key_lifted stripe value key view) { events = if is_some (chunk_and_stamp value.state key) then view.events ++ made [] (step.Unlink key) ∷ [] else view.events }

-- the key's entry was put aside, if there was one; then the item in the chunk was linked to the key
abbrev pub Stores : ℕ → ℕ → ℕ → ℕ → ChunkId → ℕ → Doing
Stores number stripe key stamp chunk room value view left now =
    (now ≡ item_linked number stripe (stripe_lifted value key) key stamp chunk (issue_in view chunk) (known_words_in view chunk) room (key_put_aside stripe value key view))
    × (left ≡ used_up (after_link (stripe_lifted value key).state number key chunk stamp))

-- a store expects what was found under its key: the stamp of an item, or none
abbrev pub IsExpected : Expected → Option ℕ → Type 0
IsExpected Anything found = Unit {0}
IsExpected Nothing found = found ≡ None
IsExpected Something found = is_some found ≡ true
IsExpected (Item stamp) found = found ≡ Some stamp

-- the stripe has this under the key, the stamp of an item or none, and a store doesn't expect it
abbrev pub HasOther : Expected → Option ℕ → ℕ → ReadyStripe → Type 0
HasOther expected found key value = (stamp_of_key value.state key ≡ found) × ¬ IsExpected expected found

-- why the stripe didn't take a store: it has no room for the call and its entry, or the key has what the store doesn't expect
abbrev pub RefusesStore : StoreError → Expected → ℕ → ReadyStripe → Type 0
RefusesStore (NoMemory _) expected key value = IsFullToStore value
RefusesStore (Differs found) expected key value = HasOther expected found key value

-- the key had what was expected, the item was stored, and the hand gave the reference to it up, so that its header counts the link alone
pub record StoresItem (expected : Expected) (number stripe key stamp : ℕ) (chunk : ChunkId) (room : ℕ) (view now : View) : Type 0 where
  pub linked : View
  pub stores : CallsBehind Reserve number stripe (Stores number stripe key stamp chunk room) view linked
  pub met : IsExpected expected (stamp_of_key stores.value.state key)
  pub dropped : now ≡ chunk_released chunk linked

-- the hand found that the property holds of the stripe, so it stored nothing there, and gave the chunk up
pub record LeavesDead (Is : ReadyStripe → Type 0) (stripe : ℕ) (chunk : ChunkId) (view now : View) : Type 0 where
  pub given : View
  pub waits : FindsStripe Is stripe view given
  pub dropped : now ≡ chunk_discarded chunk given
