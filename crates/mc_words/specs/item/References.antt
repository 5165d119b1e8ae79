-- References to items that a hand gets.
use Rattle.std.specs.Prelude.{◌≡◌, ℕ, [], List, length, Some}
use Rattle.mc_pages.specs.declared.ids.ChunkId.{ChunkId}
use Rattle.mc_stripe.specs.StripeState.{ReadyStripe, chunk_and_stamp}
use Rattle.mc_core.specs.declared.holding.Holding.{Holding}
use Rattle.mc_core.specs.declared.holding.Kind.TheVariants.{Reference}
use Rattle.mc_core.specs.declared.event.Step.TheVariants as step
use Rattle.mc_core.specs.model.Holdings.{key_of, stamp_in_words, length_of_item}
use Rattle.mc_words.specs.hand.View.{View}
use Rattle.mc_words.specs.rule.Happens.{Happens}
use Rattle.mc_words.specs.item.Items.{held_item}
use Rattle.mc_words.specs.item.Calls.{item_referred, key_got}
use Rattle.mc_words.specs.hand.Views.{with_event}

-- a reference to the item with these words, whose chunk was handed out with this issue number
abbrev pub reference_to : ChunkId → ℕ → List ℕ → Holding
reference_to chunk issue item = record { chunk = chunk; issue = issue; kind = Reference item }

-- the hand of this number looked the key up, and got a reference to its item. The key's stripe had this value, which leads the key to this
-- chunk
pub record GetsItem (view : View) (number stripe : ℕ) (value : ReadyStripe) (key : ℕ) (chunk : ChunkId) (issue room : ℕ) (now : View) : Type 0 where
  pub stamp : ℕ
  pub leads : chunk_and_stamp value.state key ≡ Some (chunk, stamp)
  -- the item that the hand finds in the chunk
  pub item : List ℕ
  pub held : held_item now chunk ≡ item
  -- the item has as many words as its length counts, and is the one to which the stripe leads
  pub whole : length item ≡ length_of_item item
  pub key_is : key_of item ≡ key
  pub stamp_is : stamp_in_words item ≡ stamp
  pub happens : Happens view [] (step.Refer key) now
  pub is : now ≡ with_event [] (step.Refer key) (item_referred (reference_to chunk issue item) room (key_got number stripe value key view))
