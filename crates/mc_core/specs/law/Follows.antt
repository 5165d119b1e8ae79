-- What follows from the law in a lawful moment.
use Rattle.std.specs.Prelude.{◌≡◌, ◌⊎◌, ℕ, ◌<◌, true, List, [], length, slice_get, slice_index_or, Some, All}
use Rattle.mc_pages.specs.declared.ids.ChunkId.{ChunkId}
use Rattle.mc_stripe.specs.declared.history.Call.{Call}
use Rattle.mc_stripe.specs.StripeState.{chunk_and_stamp}
use Rattle.mc_core.specs.declared.event.Event.{Event}
use Rattle.mc_core.specs.declared.event.Step.TheVariants.{Join}
use Rattle.mc_core.specs.declared.head.Tag.TheVariants.{Linked}
use Rattle.mc_core.specs.model.Holdings.{all_known, key_of, stamp_in_words, length_of_item}
use Rattle.mc_core.specs.model.State.{has_chunk, holdings_at}
use Rattle.mc_core.specs.model.Columns.{head_in, Shows}
use Rattle.mc_core.specs.past.Past.{Moment, moment_after}
use Rattle.mc_core.specs.run.Run.{is_allowed}
use Rattle.mc_core.specs.law.Histories.{IsBeginning}
use Rattle.mc_core.specs.law.Indexed.{stripe_for}
use Rattle.mc_core.specs.law.Knowing.{WasStored}
use Rattle.mc_core.specs.law.Lawful.{IsLawful, IsKept}

-- in every lawful moment each holding of each hand is kept
abbrev pub HoldingsAreKept : Type 0
HoldingsAreKept = (moment : Moment) → IsLawful moment → (hand : ℕ) → All (IsKept moment.state) (holdings_at moment.state hand)

-- the words of a linked chunk are a whole item, which was stored with the stamp of the key's entry
pub record IsStoredItem (moment : Moment) (chunk : ChunkId) : Type 0 where
  pub words : List ℕ
  pub whole : length words ≡ length_of_item words
  pub shows : Shows moment.state.table moment.state.slabs moment.state.words chunk (all_known words)
  pub stored : WasStored moment.past.stored (stamp_in_words words) words
  pub entry : chunk_and_stamp (stripe_for moment.state.stripes (key_of words)).state (key_of words) ≡ Some (chunk, stamp_in_words words)

-- in every lawful moment the words of each linked chunk are a whole item, which was stored with the stamp of its key's entry
abbrev pub LinkedItemsAreStored : Type 0
LinkedItemsAreStored = (moment : Moment) → IsLawful moment → (chunk : ChunkId) → has_chunk moment.state.table chunk ≡ true → (head_in moment.state.table moment.state.heads chunk).tag ≡ Linked →
    IsStoredItem moment chunk

-- what a hand saw of a history begins what it sees after an event; or what the hand sees that took it over
abbrev pub SeenGrows : Type 0
SeenGrows = (moment : Moment) (event : Event) → IsLawful moment → is_allowed moment.state event ≡ true → (hand stripe : ℕ) (calls : List Call) → stripe < length moment.state.stripes →
    slice_get (slice_index_or moment.past.seen hand []) stripe ≡ Some calls →
    (other : ℕ) × (now : List Call) × ((other ≡ hand) ⊎ (event.step ≡ Join other hand))
    × (slice_get (slice_index_or (moment_after moment event).past.seen other []) stripe ≡ Some now) × IsBeginning calls now
