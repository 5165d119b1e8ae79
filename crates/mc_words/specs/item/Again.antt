-- References to items that a hand gets by hints.
use Rattle.std.specs.Prelude.{◌≡◌, ◌≢◌, ◌⊎◌, ℕ, ◌==◌, Bool, true, false, ◌&&◌, [], List, length, Some}
use Rattle.mc_pages.specs.declared.ids.ChunkId.{ChunkId}
use Rattle.mc_core.specs.declared.head.Head.{Head}
use Rattle.mc_core.specs.declared.event.Step.TheVariants as step
use Rattle.mc_core.specs.model.Head.{is_linked}
use Rattle.mc_core.specs.model.Holdings.{length_of_item}
use Rattle.mc_words.specs.hand.View.{View}
use Rattle.mc_words.specs.rule.Happens.{Happens}
use Rattle.mc_words.specs.item.Items.{held_item}
use Rattle.mc_words.specs.item.Calls.{item_referred}
use Rattle.mc_words.specs.page.Owner.{SeesOther}
use Rattle.mc_words.specs.item.References.{reference_to}
use Rattle.mc_words.specs.hand.Views.{head_seen, with_event}

-- the chunk of this header is linked, and was handed out with this issue number
abbrev pub is_there : ℕ → Head → Bool
is_there issue head = is_linked head.tag && head.issue == issue

-- the hand got a reference to the item of this issue, by one exchange
pub record RefersAgain (view : View) (chunk : ChunkId) (issue room : ℕ) (now : View) : Type 0 where
  -- the item that the hand finds in the chunk
  pub item : List ℕ
  pub held : held_item now chunk ≡ item
  -- the item has as many words as its length counts
  pub whole : length item ≡ length_of_item item
  pub happens : Happens view [] (step.Again chunk issue) now
  pub is : now ≡ with_event [] (step.Again chunk issue) (item_referred (reference_to chunk issue item) room view)

-- the hand saw the item there, and then got a reference to it, by one exchange
pub record GetsAgain (view : View) (chunk : ChunkId) (issue room : ℕ) (now : View) : Type 0 where
  pub head : Head
  pub there : is_there issue head ≡ true
  pub looks : Happens view [] (step.Head chunk) (head_seen chunk head view)
  pub refers : RefersAgain (head_seen chunk head view) chunk issue room now

-- the hand saw the item there by a first header of its chunk, and then another header; the property holds of the two
pub record FindsOther (view : View) (chunk : ChunkId) (issue : ℕ) (IsOther : Head → Head → Type 0) (now : View) : Type 0 where
  pub head : Head
  pub there : is_there issue head ≡ true
  pub looks : Happens view [] (step.Head chunk) (head_seen chunk head view)
  pub other : Head
  pub differs : other ≢ head
  pub is_other : IsOther head other
  pub happens : Happens (head_seen chunk head view) [] (step.Head chunk) now
  pub is : now ≡ head_seen chunk other (head_seen chunk head view)

-- the hand saw that the item is gone: by its first look, or by one after the item was seen there
abbrev pub FindsGone : View → ChunkId → ℕ → View → Type 0
FindsGone view chunk issue now =
    SeesOther view (Some chunk) (λ head. is_there issue head ≡ false) now ⊎ FindsOther view chunk issue (λ head other. is_there issue other ≡ false) now

-- the hand saw the item there twice, with another count the second time
abbrev pub FindsContended : View → ChunkId → ℕ → View → Type 0
FindsContended view chunk issue now = FindsOther view chunk issue (λ head other. (is_there issue other ≡ true) × (other.count ≢ head.count)) now
