-- Items that go to a copy: the original is taken away, and its key's entry is put aside until the copy is linked.
use Rattle.std.specs.Prelude.{◌≡◌, ℕ, ◌<◌, true, List, [], length, slice_index, Some}
use Rattle.mc_pages.specs.declared.ids.ChunkId.{ChunkId}
use Rattle.mc_stripe.specs.StripeState.{ReadyStripe, chunk_and_stamp}
use Rattle.mc_stripe.specs.Changes.{after_lift}
use Rattle.mc_core.specs.declared.head.Head.{Head}
use Rattle.mc_core.specs.declared.look.Look.TheVariants.{Condemned}
use Rattle.mc_core.specs.declared.event.Step.TheVariants as step
use Rattle.mc_core.specs.run.Evictions.{as_rescue, head_after_condemn, is_linked_unheld}
use Rattle.mc_core.specs.model.Holdings.{change_each, is_copy_of, key_of, length_of_item, stamp_in_words}
use Rattle.mc_words.specs.hand.View.{View}
use Rattle.mc_words.specs.rule.Happens.{Happens}
use Rattle.mc_words.specs.item.Items.{word_read}
use Rattle.mc_words.specs.hand.Views.{head_seen, view_after_look, with_event, with_holdings}
use Rattle.mc_words.specs.item.Calls.{key_lifted}
use Rattle.mc_words.specs.item.Removal.{key_read, key_seen}

-- the hand took the item with these words away from this chunk, whose header was this: each copy of it that the hand holds is to have them
abbrev pub original_condemned : ℕ → ReadyStripe → ℕ → ChunkId → List ℕ → Head → View → View
original_condemned stripe value key chunk item head view =
    with_event [] (step.Condemn chunk)
    (view_after_look (Condemned chunk (head_after_condemn head)) (key_lifted stripe value key (with_holdings (change_each (is_copy_of chunk) (as_rescue chunk item) view.row.holdings) view)))

-- the hand saw that the chunk is linked and held by nobody, has a copy of its item, and took the item away. The key led to the chunk, and
-- its entry is aside then
pub record CondemnsOriginal (stripe : ℕ) (chunk : ChunkId) (value : ReadyStripe) (view : View) (left : ReadyStripe) (now : View) : Type 0 where
  pub key : ℕ
  pub is_key : key_read view chunk ≡ Some key
  pub stamp : ℕ
  pub led : chunk_and_stamp value.state key ≡ Some (chunk, stamp)
  -- the item has as many words as its length counts, and is the one to which the stripe led
  pub item : List ℕ
  pub whole : length item ≡ length_of_item item
  pub key_is : key_of item ≡ key
  pub stamp_is : stamp_in_words item ≡ stamp
  -- each word of the item that the hand read under this hold of the slabs lock is the item's word at that place
  pub read_is : (place word : ℕ) → word_read view chunk place ≡ Some word → place < length item → slice_index item place ≡ word
  pub head : Head
  pub unheld : is_linked_unheld head ≡ true
  pub reads : Happens view [] (step.WordHeld chunk 0) (key_seen chunk key view)
  pub looks : Happens (key_seen chunk key view) [] (step.Head chunk) (head_seen chunk head (key_seen chunk key view))
  pub happens : Happens (head_seen chunk head (key_seen chunk key view)) [] (step.Condemn chunk) now
  pub is : now ≡ original_condemned stripe value key chunk item head (head_seen chunk head (key_seen chunk key view))
  pub left_is : left ≡ record value { state = after_lift value.state key }
