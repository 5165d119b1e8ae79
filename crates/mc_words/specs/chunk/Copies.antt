-- Chunks that are handed out for copies: an item of the moving page goes to the first chunk of its class that it can be taken to.
use Rattle.std.specs.Prelude.{◌≡◌, ◌≢◌, ◌⊎◌, ℕ, ◌<◌, ◌≤◌, List, [], ◌∷◌, ◌++◌, Some}
use Rattle.mc_pages.specs.declared.ids.ChunkId.{ChunkId}
use Rattle.mc_pages.specs.SlabState.{SlabState, class_at, class_of_page}
use Rattle.mc_core.specs.declared.head.Head.{Head}
use Rattle.mc_core.specs.declared.event.Step.TheVariants as step
use Rattle.mc_core.specs.run.Chunks.{most_issue}
use Rattle.mc_words.specs.hand.View.{View}
use Rattle.mc_words.specs.rule.Happens.{Happens}
use Rattle.mc_words.specs.page.Owner.{SeesOther}
use Rattle.mc_words.specs.hand.Views.{head_seen, chunk_popped_off}

-- the hand passed over a free chunk: it is on this page, or was seen with the greatest issue number
abbrev pub PassesOver : ℕ → ChunkId → View → View → Type 0
PassesOver page chunk view now =
    ((chunk.page ≡ page) × (now ≡ view)) ⊎ ((chunk.page ≢ page) × SeesOther view (Some chunk) (λ head. most_issue ≤ head.issue) now)

-- the hand passed over each of these free chunks, one after another
abbrev pub PassesAll : ℕ → List ChunkId → View → View → Type 0
PassesAll page [] view now = now ≡ view
PassesAll page (chunk ∷ chunks) view now = (next : View) × PassesOver page chunk view next × PassesAll page chunks next now

-- the hand saw that the chunk, which is off the page, isn't used up
pub record SeesFit (page : ℕ) (chunk : ChunkId) (view now : View) : Type 0 where
  pub off : chunk.page ≢ page
  pub head : Head
  pub unused : head.issue < most_issue
  pub looks : Happens view [] (step.Head chunk) now
  pub is : now ≡ head_seen chunk head view

-- the chunk is the first free one of the class that an item of the page can be taken to: the hand saw so, and passed over each before it
pub record FindsFit (slabs : SlabState) (class page : ℕ) (chunk : ChunkId) (view now : View) : Type 0 where
  pub before : List ChunkId
  pub after : List ChunkId
  pub stands : (class_at slabs class).free ≡ before ++ chunk ∷ after
  pub passed : View
  pub passes : PassesAll page before view passed
  pub fit : SeesFit page chunk passed now

-- the hand found the chunk for an item of the moving page, and it was handed out in the place of the item's own
pub record PopsOff (view : View) (slabs : SlabState) (old chunk : ChunkId) (now : View) : Type 0 where
  pub seen : View
  pub finds : FindsFit slabs (class_of_page slabs old.page) old.page chunk view seen
  pub happens : Happens seen [] (step.PopOff old) now
  pub is : now ≡ chunk_popped_off slabs old chunk finds.fit.head seen
