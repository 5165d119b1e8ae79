-- What is left of an arena after its end.
use Rattle.std.specs.Prelude.{◌≡◌, ℕ, zero, suc, ◌<◌, ◌^◌, ◌==◌, List, length, map, take, drop, slice_index, slice_index_or, if◌then◌else◌, Option, Some, None, IfSome}
use Rattle.std.specs.List.{range_with_len}
use mathlib.Core.Option.{some}
use lib.ListN.{get_elem?}
use Rattle.mc_pages.specs.SlabState.{SlabState}
use Rattle.mc_stripe.specs.StripeState.{ReadyStripe}
use Rattle.mc_core.specs.model.Head.{decode}
use Rattle.mc_core.specs.model.InOrder.{IsOfTable}
use Rattle.mc_core.specs.model.State.{stripe_at}
use Rattle.mc_words.specs.declared.lock.slot.Slot.{Slot}
use Rattle.mc_words.specs.declared.lock.slot.Slot.TheVariants.{Empty, OfSlabs, OfStripe}
use Rattle.mc_words.specs.hand.View.{Setup, View}
use Rattle.mc_words.specs.Headline.{Headline}
use Rattle.mc_words.specs.rule.Happens.{LawfulView}
use Rattle.mc_words.specs.rule.Joins.{Rule}
use Rattle.mc_words.specs.rule.Layout.{lock_address, heads_from, head_count, word_count}
use Rattle.mc_words.specs.rule.Meaning.{WordsOfTable}
use Rattle.mc_words.specs.lock.Slots.{slot_at, slot_count}

-- what is left of an arena: the words of the headers, page 0 first, and the values behind the locks that no hand has
pub record ArenaEnd : Type 0 where
  pub setup : Setup
  pub heads : List ℕ
  pub slabs : Option SlabState
  -- the value of each stripe whose lock no hand has, stripe 0 first
  pub stripes : List (Option ReadyStripe)

-- the value behind a lock with this word, where the word is 0; otherwise it isn't at home
abbrev pub at_home : {X : Type 0} → ℕ → X → Option X
at_home word value = if word == 0 then Some value else None

-- a hand closes the arena. Its view is of a lawful moment, to which the arena's events lead and which the table means, with the views of
-- all hands. The promise holds of that table, and these headers and values are left of it
pub record Closes (view : View) (left : ArenaEnd) : Type 0 where
  pub was : LawfulView view
  pub table : WordsOfTable
  pub rule : Rule view.setup table
  pub headline : Headline view.setup table
  pub same_moment : rule.ruled.moment ≡ was.moment
  pub same_words : table.words ≡ was.words
  pub mine : get_elem? table.views was.hand ≡ some view
  pub setup : left.setup ≡ view.setup
  pub heads : map decode left.heads ≡ was.moment.state.heads
  pub slabs : left.slabs ≡ at_home was.moment.state.slabs_lock was.moment.state.slabs
  pub stripes : left.stripes ≡ map (λ stripe. at_home (slice_index was.moment.state.stripe_locks stripe) (stripe_at was.moment.state stripe)) (range_with_len 0 view.setup.config.stripes)

-- pages and lists that are in a slot, none where it has a stripe or nothing
abbrev pub slabs_in : Slot → Option SlabState
slabs_in (OfSlabs slabs) = Some slabs
slabs_in other = None

-- the stripe that is in a slot, none where it has the slabs or nothing
abbrev pub stripe_in : Slot → Option ReadyStripe
stripe_in (OfStripe value) = Some value
stripe_in other = None

-- pages and lists in the slot of their lock, none where the lock's word isn't 0
abbrev pub slabs_left : List ℕ → List Slot → Option SlabState
slabs_left words slots = if slice_index words (lock_address zero) == 0 then slabs_in (slice_index_or slots (slot_at zero) Empty) else None

-- the stripe in the slot of its lock, none where the lock's word isn't 0
abbrev pub stripe_left : List ℕ → List Slot → ℕ → Option ReadyStripe
stripe_left words slots stripe = if slice_index words (lock_address (suc stripe)) == 0 then stripe_in (slice_index_or slots (slot_at (suc stripe)) Empty) else None

-- what is left of an arena, by these words and slots
abbrev pub left_of : Setup → List ℕ → List Slot → ArenaEnd
left_of setup words slots = record {
  setup = setup;
  heads = take (head_count setup) (drop (heads_from setup) words);
  slabs = slabs_left words slots;
  stripes = map (stripe_left words slots) (range_with_len 0 setup.config.stripes);
}

-- there are as many words and slots as the setup asks for, and pages and lists, where they are left, are accounted for
pub record IsLeftOf (setup : Setup) (words : List ℕ) (slots : List Slot) : Type 0 where
  pub wide : length words ≡ word_count setup
  pub small : word_count setup < 2 ^ 63
  pub locks : length slots ≡ slot_count setup.config.stripes
  pub slabs : IfSome (slabs_left words slots) (λ slabs. IsOfTable setup.table slabs)
