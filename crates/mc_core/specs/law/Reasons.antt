-- Why an item may be taken away, in other words than the tests that decide.
use Rattle.std.specs.Prelude.{◌≡◌, ◌≢◌, ◌⊎◌, ℕ, ◌-◌, ◌/◌, ◌^◌, ◌≤◌, Bool, true, false, List, [], ◌∷◌, ◌++◌, length, Some, None, All, Contains}
use Rattle.mc_pages.specs.declared.ids.ChunkId.{ChunkId}
use Rattle.mc_pages.specs.declared.ids.Moving.{Moving}
use Rattle.mc_pages.specs.ClassState.{is_chunk}
use Rattle.mc_pages.specs.Ledger.{ordinary_count}
use Rattle.mc_pages.specs.SlabState.{SlabState, class_at, class_of_page}
use Rattle.mc_core.specs.declared.event.Step.TheVariants.{Condemn}
use Rattle.mc_core.specs.declared.head.Head.{Head}
use Rattle.mc_core.specs.declared.head.Tag.TheVariants.{Unlinked}
use Rattle.mc_core.specs.declared.holding.Holding.{Holding}
use Rattle.mc_core.specs.declared.holding.Kind.TheVariants.{Fresh}
use Rattle.mc_core.specs.declared.holding.Purpose.TheVariants.{Copy}
use Rattle.mc_core.specs.declared.look.Look.{Look}
use Rattle.mc_core.specs.declared.look.Look.TheVariants.{Saw, Popped, PoppedOff, Condemned, Cleared}
use Rattle.mc_core.specs.model.Holdings.{Words}
use Rattle.mc_core.specs.model.State.{State, has_slabs, head_at, holdings_at, looks_at}
use Rattle.mc_core.specs.past.Past.{Moment}
use Rattle.mc_core.specs.law.Laws.{MayStep}

-- by this look a chunk was handed out, condemned or cleared
abbrev pub is_taking_look : Look → Bool
is_taking_look (Popped chunk head) = true
is_taking_look (PoppedOff chunk old head) = true
is_taking_look (Condemned chunk head) = true
is_taking_look (Cleared chunk head) = true
is_taking_look look = false

-- by this look the chunk's header was seen
abbrev pub is_look_at : ChunkId → Look → Bool
is_look_at chunk (Saw seen head) = is_chunk seen chunk
is_look_at chunk look = false

-- the chunk was found not dead by the last look at it, and since then the hand handed out, condemned and cleared nothing
pub record WasFoundAlive (looks : List Look) (chunk : ChunkId) : Type 0 where
  pub before : List Look
  pub head : Head
  pub since : List Look
  pub split : looks ≡ before ++ Saw chunk head ∷ since
  pub alive : head.tag ≡ Unlinked → head.count ≡ 0 → ⊥
  pub quiet : All (λ look. (is_taking_look look ≡ false) × (is_look_at chunk look ≡ false)) since

-- the hand has the slabs lock, and under this hold found each chunk that the class handed out not dead; since then it handed out, condemned
-- and cleared nothing
abbrev pub IsSwept : State → ℕ → ℕ → Type 0
IsSwept state hand class = (has_slabs state hand ≡ true) × All (WasFoundAlive (looks_at state hand)) (class_at state.slabs class).order

-- the page is on the move
abbrev pub Moves : SlabState → ℕ → Type 0
Moves slabs page = (move : Moving) × (slabs.moving ≡ Some move) × (move.page ≡ page)

-- each free chunk of the class is on this page, or has used up its issue numbers
abbrev pub HasNoneOff : State → ℕ → ℕ → Type 0
HasNoneOff state class page = All (λ (chunk : ChunkId). chunk.page ≢ page → 2 ^ 46 - 1 ≤ (head_at state chunk).issue) (class_at state.slabs class).free

-- the class has no free chunk; no page is pooled, left within the limit or half cut; and the class has a page, so that the grace isn't open
-- to it
pub record IsOutOfRoom (state : State) (class : ℕ) : Type 0 where
  pub none_free : (class_at state.slabs class).free ≡ []
  pub none_pooled : state.slabs.pool ≡ []
  pub none_ordinary : state.slabs.limit / state.slabs.page ≤ ordinary_count state.slabs.ledger
  pub has_page : 1 ≤ length (class_at state.slabs class).pages
  pub none_half_cut : state.slabs.uncut ≡ None

-- the hand has a fresh chunk that was handed out to it for a copy of this one, and is on another page
pub record HasCopyOff (state : State) (hand : ℕ) (chunk : ChunkId) : Type 0 where
  pub copy : Holding
  pub among : Contains (holdings_at state hand) copy
  pub words : Words
  pub meant : copy.kind ≡ Fresh (Copy chunk) words
  pub off : copy.chunk.page ≢ chunk.page

-- an item must leave this page, which moves, and has no free chunk to go to; or its class is out of room
abbrev pub MustGo : State → ℕ → Type 0
MustGo state page = (Moves state.slabs page × HasNoneOff state (class_of_page state.slabs page) page) ⊎ IsOutOfRoom state (class_of_page state.slabs page)

-- the item goes to a copy, off its moving page; or, after a sweep of its class, the item must go. And each copy of the item is off its page
pub record IsReasoned (state : State) (hand : ℕ) (chunk : ChunkId) : Type 0 where
  pub reason : (Moves state.slabs chunk.page × HasCopyOff state hand chunk) ⊎ (IsSwept state hand (class_of_page state.slabs chunk.page) × MustGo state chunk.page)
  pub copies : All (λ copy. (words : Words) → copy.kind ≡ Fresh (Copy chunk) words → copy.chunk.page ≢ chunk.page) (holdings_at state hand)

-- an item is taken away for a reason alone: it goes to a copy, must leave its page, or makes room
abbrev pub CondemnsAreReasoned : Type 0
CondemnsAreReasoned = (moment : Moment) (hand : ℕ) (chunk : ChunkId) → MayStep moment hand (Condemn chunk) → IsReasoned moment.state hand chunk
