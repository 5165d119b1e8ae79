-- Items that a hand takes away under both locks, as it knows it.
use Rattle.std.specs.Prelude.{◌≡◌, ◌⊎◌, ℕ, ◌%◌, Bool, true, false, ◌&&◌, ◌||◌, List, [], Option, Some}
use Rattle.std.specs.Option.{option_map}
use Rattle.mc_pages.specs.Pages.{is_on_the_move}
use Rattle.mc_pages.specs.declared.ids.ChunkId.{ChunkId}
use Rattle.mc_pages.specs.SlabState.{SlabState}
use Rattle.mc_stripe.specs.StripeState.{ReadyStripe, chunk_and_stamp}
use Rattle.mc_stripe.specs.Changes.{after_evict, used_up}
use Rattle.mc_core.specs.declared.head.Head.{Head}
use Rattle.mc_core.specs.declared.holding.Holding.{Holding}
use Rattle.mc_core.specs.declared.look.Look.{Look}
use Rattle.mc_core.specs.declared.event.Step.TheVariants as step
use Rattle.mc_core.specs.run.Evictions.{has_copy, is_linked_unheld, lacks_room, none_dead}
use Rattle.mc_core.specs.law.Judged.{sees_no_target}
use Rattle.mc_words.specs.hand.View.{View}
use Rattle.mc_words.specs.rule.Happens.{Happens}
use Rattle.mc_words.specs.item.Items.{word_read}
use Rattle.mc_words.specs.hand.Views.{head_seen, held_word_seen}
use Rattle.mc_words.specs.item.Calls.{item_condemned}
use Rattle.mc_words.specs.page.Owner.{SeesOther}

-- the key of the chunk's item, as the hand read it under this hold of the slabs lock
abbrev pub key_read : View → ChunkId → Option ℕ
key_read view chunk = word_read view chunk 0

-- the stripe of the key of the chunk's item, as the hand read it under this hold of the slabs lock
abbrev pub stripe_read : View → ChunkId → Option ℕ
stripe_read view chunk = option_map (λ key. key % view.setup.config.stripes) (key_read view chunk)

-- why an item may be taken away, as the hand knows: the item goes to another chunk; its page moves, and no other chunk can take the item;
-- or room is needed
abbrev pub knows_reason : SlabState → List Look → List Holding → ChunkId → Bool
knows_reason slabs looks holdings chunk =
    is_on_the_move slabs chunk.page && has_copy holdings chunk
    || is_on_the_move slabs chunk.page && none_dead slabs looks chunk && sees_no_target slabs looks chunk.page
    || lacks_room slabs looks chunk

-- the hand read the chunk's key again
abbrev pub key_seen : ChunkId → ℕ → View → View
key_seen chunk key view = held_word_seen chunk 0 key view

-- the hand saw that the chunk is linked and held by nobody, and took its item away; the key led to it, and leads nowhere any more
pub record Condemns (number stripe : ℕ) (chunk : ChunkId) (value : ReadyStripe) (view : View) (left : ReadyStripe) (now : View) : Type 0 where
  pub key : ℕ
  pub is_key : key_read view chunk ≡ Some key
  pub stamp : ℕ
  pub led : chunk_and_stamp value.state key ≡ Some (chunk, stamp)
  pub head : Head
  pub unheld : is_linked_unheld head ≡ true
  pub reads : Happens view [] (step.WordHeld chunk 0) (key_seen chunk key view)
  pub looks : Happens (key_seen chunk key view) [] (step.Head chunk) (head_seen chunk head (key_seen chunk key view))
  pub happens : Happens (head_seen chunk head (key_seen chunk key view)) [] (step.Condemn chunk) now
  pub is : now ≡ item_condemned number stripe value key chunk head (head_seen chunk head (key_seen chunk key view))
  pub left_is : left ≡ used_up (after_evict value.state number key)

-- the hand saw that the chunk isn't linked, or is held
abbrev pub SeesHeld : View → ChunkId → View → Type 0
SeesHeld view chunk now = SeesOther view (Some chunk) (λ head. is_linked_unheld head ≡ false) now

-- the hand read the chunk's key again, and saw that the chunk isn't linked, or is held: at once, or by a second look
pub record FindsHeld (view : View) (chunk : ChunkId) (now : View) : Type 0 where
  pub key : ℕ
  pub is_key : key_read view chunk ≡ Some key
  pub reads : Happens view [] (step.WordHeld chunk 0) (key_seen chunk key view)
  pub finds : SeesHeld (key_seen chunk key view) chunk now
      ⊎ ((head : Head) × Happens (key_seen chunk key view) [] (step.Head chunk) (head_seen chunk head (key_seen chunk key view))
      × SeesHeld (head_seen chunk head (key_seen chunk key view)) chunk now)
