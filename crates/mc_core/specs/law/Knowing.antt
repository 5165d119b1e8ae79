-- What hands stored and know.
use Rattle.std.specs.Prelude.{◌≡◌, ◌≢◌, ⊤, ℕ, ◌≤◌, true, false, List, [], length, slice_index_or, All, Contains}
use Rattle.mc_classes.specs.Classes.{Classes}
use Rattle.mc_pages.specs.declared.ids.ChunkId.{ChunkId}
use Rattle.mc_pages.specs.SlabState.{SlabState, class_of_page}
use Rattle.mc_core.specs.declared.head.Head.{Head}
use Rattle.mc_core.specs.declared.head.Tag.TheVariants.{Linked}
use Rattle.mc_core.specs.declared.holding.Holding.{Holding}
use Rattle.mc_core.specs.declared.holding.Kind.{Kind}
use Rattle.mc_core.specs.declared.holding.Kind.TheVariants.{Fresh}
use Rattle.mc_core.specs.declared.holding.Purpose.TheVariants.{Copy, Rescue}
use Rattle.mc_core.specs.model.Holdings.{is_fresh, all_known, stamp_in_words, length_of_item}
use Rattle.mc_core.specs.past.Past.{KnownItem, StoredItem, known_by, IsKnownToSome}
use Rattle.mc_core.specs.law.Identities.{stored_count}
use Rattle.mc_core.specs.model.State.{room_in, has_chunk}
use Rattle.mc_core.specs.model.Columns.{head_in, Shows, Each, IsHandedOut}

-- some hand stored these words with this stamp
abbrev pub WasStored : List (List StoredItem) → ℕ → List ℕ → Type 0
WasStored said stamp words = (hand : ℕ) × (s : StoredItem) × Contains (slice_index_or said hand []) s × (s.stamp ≡ stamp) × (s.words ≡ words)

-- a known item is whole; its chunk was handed out with this issue at the latest, and no fresh chunk has it. While the chunk is handed out
-- with this issue, its words are the item's, and it has the room of its page's class
pub record IsTrueStill (table : Classes) (slabs : SlabState) (heads : List Head) (words : List ℕ) (holdings : List (List Holding)) (k : KnownItem) : Type 0 where
  pub inside : has_chunk table k.chunk ≡ true
  pub whole : length k.words ≡ length_of_item k.words
  pub older : k.issue ≤ (head_in table heads k.chunk).issue
  pub shows : IsHandedOut (head_in table heads k.chunk) k.issue → Shows table slabs words k.chunk (all_known k.words)
  pub room : IsHandedOut (head_in table heads k.chunk) k.issue → room_in table (class_of_page slabs k.chunk.page) ≡ k.room
  pub apart : Each (λ holding. is_fresh holding ≡ true → holding.chunk ≡ k.chunk → holding.issue ≡ k.issue → ⊥) holdings

-- knowledge: a stamp was stored once at most. A known item was stored, is true still, and is the only one of its chunk and issue. Each
-- reference and each linked chunk is known
pub record AreKnown (table : Classes) (slabs : SlabState) (heads : List Head) (words : List ℕ) (holdings : List (List Holding)) (said : List (List StoredItem)) (known : List (List KnownItem)) : Type 0 where
  pub once : (stamp : ℕ) → stored_count stamp said ≤ 1
  pub agree : Each (λ k. (words : List ℕ) → WasStored said (stamp_in_words k.words) words → words ≡ k.words) known
  pub said_by_some : Each (λ k. WasStored said (stamp_in_words k.words) k.words) known
  pub still : Each (IsTrueStill table slabs heads words holdings) known
  -- one chunk and issue has one item
  pub one : Each (λ k. Each (λ other. other.chunk ≡ k.chunk → other.issue ≡ k.issue → other.words ≡ k.words) known) known
  -- each reference is known to its own hand, with some room
  pub own : (hand : ℕ) → All (λ holding. is_fresh holding ≡ false → (room : ℕ) × Contains (slice_index_or known hand []) (known_by room holding)) (slice_index_or holdings hand [])
  -- each linked chunk is known to some hand
  pub linked : (chunk : ChunkId) → has_chunk table chunk ≡ true → (head_in table heads chunk).tag ≡ Linked → IsKnownToSome known (λ k. (k.chunk ≡ chunk) × (k.issue ≡ (head_in table heads chunk).issue))

-- the holding's purpose is sound: a copy is off its original's page, and the words of an item that is being rescued are whole and were
-- stored with their stamp
abbrev pub IsRescue : List (List StoredItem) → ChunkId → Kind → Type 0
IsRescue said chunk (Fresh (Copy old) own) = chunk.page ≢ old.page
IsRescue said chunk (Fresh (Rescue old item) own) = (length item ≡ length_of_item item) × WasStored said (stamp_in_words item) item × (chunk.page ≢ old.page)
IsRescue said chunk kind = ⊤
