-- The parts of the state that the clauses of the law name.
use Rattle.std.specs.Prelude.{◌≡◌, ◌⊎◌, ℕ, ◌+◌, ◌*◌, ◌≤◌, List, [], ◌∷◌, length, count_by, slice_get, slice_index, slice_index_or, Some, All}
use Rattle.mc_classes.specs.Classes.{Classes}
use Rattle.mc_pages.specs.declared.ids.ChunkId.{ChunkId}
use Rattle.mc_pages.specs.SlabState.{SlabState, class_of_page}
use Rattle.mc_pages.specs.Accounted.{truth}
use Rattle.mc_core.specs.declared.head.Head.{Head}
use Rattle.mc_core.specs.declared.head.Tag.{Tag}
use Rattle.mc_core.specs.declared.head.Tag.TheVariants.{Unlinked, Linked}
use Rattle.mc_core.specs.declared.holding.Holding.{Holding}
use Rattle.mc_core.specs.model.Head.{never_cut, is_linked}
use Rattle.mc_core.specs.model.Holdings.{Words, is_of_chunk}
use Rattle.mc_core.specs.model.State.{head_place, room_in, page_words}

-- the header at the chunk's place; where there is none, that of a chunk never cut
abbrev pub head_in : Classes → List Head → ChunkId → Head
head_in table heads chunk = slice_index_or heads (head_place table chunk) never_cut

-- the place of a word of a chunk among all data words
abbrev pub place_in : Classes → SlabState → ChunkId → ℕ → ℕ
place_in table slabs chunk place =
    chunk.page * page_words table + chunk.index * room_in table (class_of_page slabs chunk.page) + place

-- the known words are data words of the chunk, and fit into it
pub record Shows (table : Classes) (slabs : SlabState) (words : List ℕ) (chunk : ChunkId) (known : Words) : Type 0 where
  pub fits : length known ≤ room_in table (class_of_page slabs chunk.page)
  pub known_words : (place word : ℕ) → slice_get known place ≡ Some (Some word) → slice_index words (place_in table slabs chunk place) ≡ word

-- each entry of each row has the property
abbrev pub Each : {X : Type 0} → (X → Type 0) → List (List X) → Type 0
Each P = All (All P)

-- how often one hand holds the chunk
abbrev pub count_of_holdings : ChunkId → List Holding → ℕ
count_of_holdings chunk holdings = count_by (is_of_chunk chunk) holdings

-- how often all hands together hold the chunk, each counted as often as it holds it
abbrev pub holder_count : ChunkId → List (List Holding) → ℕ
holder_count chunk [] = 0
holder_count chunk (row ∷ rows) = count_of_holdings chunk row + holder_count chunk rows

-- what a header counts for its link: 1 where its chunk is linked, and else 0
abbrev pub link_count : Tag → ℕ
link_count tag = truth (is_linked tag)

-- the chunk is handed out with this issue number
abbrev pub IsHandedOut : Head → ℕ → Type 0
IsHandedOut head issue = ((head.tag ≡ Unlinked) ⊎ (head.tag ≡ Linked)) × (head.issue ≡ issue)
