-- Counts of headers, and what hands hold.
use Rattle.std.specs.Prelude.{◌≡◌, ◌⊎◌, ℕ, ◌+◌, ◌^◌, ◌<◌, ◌≤◌, true, false, List, length, All}
use Rattle.mc_classes.specs.Classes.{Classes}
use Rattle.mc_pages.specs.declared.ids.ChunkId.{ChunkId}
use Rattle.mc_pages.specs.SlabState.{SlabState, class_of_page}
use Rattle.mc_core.specs.declared.head.Head.{Head}
use Rattle.mc_core.specs.declared.head.Tag.TheVariants.{Unlinked}
use Rattle.mc_core.specs.declared.holding.Holding.{Holding}
use Rattle.mc_core.specs.model.Head.{is_free, is_out}
use Rattle.mc_core.specs.model.Holdings.{is_fresh, holding_words, item_of, length_of_item}
use Rattle.mc_core.specs.model.State.{room_in, has_chunk}
use Rattle.mc_core.specs.model.Columns.{head_in, Shows, Each, holder_count, link_count}
use Rattle.mc_core.specs.run.Chunks.{most_holdings}

-- counts: a header counts its link and its holders; the count is 0 where the chunk is out or free; and issue numbers fit their bits
pub record AreCounted (table : Classes) (heads : List Head) (holdings : List (List Holding)) : Type 0 where
  pub counted : (chunk : ChunkId) → has_chunk table chunk ≡ true → (head_in table heads chunk).count ≡ link_count (head_in table heads chunk).tag + holder_count chunk holdings
  pub shut : (chunk : ChunkId) → has_chunk table chunk ≡ true → (is_free (head_in table heads chunk).tag ≡ true) ⊎ (is_out (head_in table heads chunk).tag ≡ true) → (head_in table heads chunk).count ≡ 0
  pub issued : (chunk : ChunkId) → has_chunk table chunk ≡ true → (head_in table heads chunk).issue < 2 ^ 46

-- a reference has its whole item, and a fresh chunk a place for each word
abbrev pub IsHoldingSized : ℕ → Holding → Type 0
IsHoldingSized room holding = (is_fresh holding ≡ true → length (holding_words holding) ≡ room) × (is_fresh holding ≡ false → length (item_of holding) ≡ length_of_item (item_of holding))

-- holdings: each has its header's issue and its chunk's words, and a fresh one is the only one of its chunk
pub record AreHeld (table : Classes) (slabs : SlabState) (heads : List Head) (words : List ℕ) (holdings : List (List Holding)) : Type 0 where
  pub inside : Each (λ holding. has_chunk table holding.chunk ≡ true) holdings
  pub issues : Each (λ holding. holding.issue ≡ (head_in table heads holding.chunk).issue) holdings
  pub shows : Each (λ holding. Shows table slabs words holding.chunk (holding_words holding)) holdings
  pub sized : Each (λ holding. IsHoldingSized (room_in table (class_of_page slabs holding.chunk.page)) holding) holdings
  pub alone : Each (λ holding. is_fresh holding ≡ true → ((head_in table heads holding.chunk).tag ≡ Unlinked) × (holder_count holding.chunk holdings ≡ 1)) holdings
  pub most : All (λ row. length row ≤ most_holdings) holdings
