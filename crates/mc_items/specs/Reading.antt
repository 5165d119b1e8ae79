-- Words of items that are read: each is an event of the hand, and changes nothing else that it knows.
use Rattle.std.specs.Prelude.{◌≡◌, ℕ, zero, suc, ◌+◌, List, [], ◌∷◌, ◌++◌, Option, Some, None}
use Rattle.mc_pages.specs.declared.ids.ChunkId.{ChunkId}
use Rattle.mc_core.specs.declared.event.Step.TheVariants as step
use Rattle.mc_words.specs.hand.View.{OwnEvent, View, made}
use Rattle.mc_words.specs.hand.Views.{fields_seen}

-- n reads of words of the chunk, from this place on
abbrev pub reads_of : ChunkId → ℕ → ℕ → List OwnEvent
reads_of chunk place zero = []
reads_of chunk place (suc count) = made [] (step.Word chunk place) ∷ reads_of chunk (place + 1) count

-- the view after the hand read n words of the chunk from a place on, one after another
abbrev pub words_seen : ChunkId → ℕ → ℕ → View → View
words_seen chunk place count view = record view { events = view.events ++ reads_of chunk place count }

-- the hand did this, and then read key, stamp and length of the item that it got, if it got one
abbrev pub AndReads : Option ChunkId → (View → View → Type 0) → View → View → Type 0
AndReads None Does view now = Does view now
AndReads (Some chunk) Does view now = (got : View) × Does view got × (now ≡ fields_seen chunk got)
