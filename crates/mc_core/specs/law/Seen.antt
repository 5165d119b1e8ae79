-- What a hand sees under a hold of the slabs lock stays so.
use Rattle.std.specs.Prelude.{◌≡◌, ℕ, ◌<◌, ◌==◌, true, false, ◌&&◌, ◌||◌, if◌then◌else◌, List, slice_index, is_some, Option, Some, None}
use Rattle.std.specs.List.{fold}
use Rattle.mc_classes.specs.Classes.{Classes}
use Rattle.mc_pages.specs.declared.ids.ChunkId.{ChunkId}
use Rattle.mc_pages.specs.ClassState.{is_chunk}
use Rattle.mc_pages.specs.SlabState.{SlabState, class_of_page}
use Rattle.mc_pages.specs.Changes.{after_pop, after_replace, after_back, after_clear, after_cut}
use Rattle.mc_core.specs.declared.head.Head.{Head}
use Rattle.mc_core.specs.declared.look.Look.{Look}
use Rattle.mc_core.specs.declared.look.Look.TheVariants.{Saw, Read, Popped, PoppedOff, Condemned, PutBack, Cleared, Cut, Changed}
use Rattle.mc_core.specs.model.Head.{is_free, is_out, is_dead, is_linked}
use Rattle.mc_core.specs.past.Past.{KnownItem, IsKnownToSome}
use Rattle.mc_core.specs.model.State.{room_in, has_chunk}
use Rattle.mc_core.specs.run.Silent.{slabs_after}
use Rattle.mc_core.specs.model.Columns.{head_in, place_in, IsHandedOut}

-- the header of this look, if the look is at this chunk, and else the one before
abbrev pub newer : ChunkId → ChunkId → Head → Option Head → Option Head
newer chunk seen head before = if is_chunk seen chunk then Some head else before

-- the header of the chunk as the hand last saw it, or wrote it itself, after this look
abbrev pub last_head : ChunkId → Option Head → Look → Option Head
last_head chunk before (Saw seen head) = newer chunk seen head before
last_head chunk before (Popped seen head) = newer chunk seen head before
last_head chunk before (PoppedOff seen old head) = newer chunk seen head before
last_head chunk before (Condemned seen head) = newer chunk seen head before
last_head chunk before (PutBack seen head) = newer chunk seen head before
last_head chunk before (Cleared seen head) = newer chunk seen head before
last_head chunk before (Cut seen head) = newer chunk seen head before
last_head chunk before other = before

-- the header of the chunk as the hand last saw it, or wrote it itself
abbrev pub seen_head : List Look → ChunkId → Option Head
seen_head looks chunk = fold (last_head chunk) None looks

-- the issue number with which the chunk was found linked, unless it was put back or cleared since, after this look
abbrev pub linked_issue : ChunkId → Option ℕ → Look → Option ℕ
linked_issue chunk before (Saw seen head) = if is_chunk seen chunk && is_linked head.tag then Some head.issue else before
linked_issue chunk before (PutBack seen head) = if is_chunk seen chunk then None else before
linked_issue chunk before (Cleared seen head) = if is_chunk seen chunk then None else before
linked_issue chunk before other = before

-- the word that was read of the chunk, unless it was put back or cleared since, after this look
abbrev pub last_read : ChunkId → ℕ → Option ℕ → Look → Option ℕ
last_read chunk place before (Read seen at word) = if is_chunk seen chunk && at == place then Some word else before
last_read chunk place before (PutBack seen head) = if is_chunk seen chunk then None else before
last_read chunk place before (Cleared seen head) = if is_chunk seen chunk then None else before
last_read chunk place before other = before

-- pages and lists after what the hand did by this look
abbrev pub slabs_after_look : SlabState → Look → SlabState
slabs_after_look slabs (Popped chunk head) = after_pop slabs (class_of_page slabs chunk.page)
slabs_after_look slabs (PoppedOff chunk old head) = after_replace slabs chunk old
slabs_after_look slabs (PutBack chunk head) = after_back slabs chunk
slabs_after_look slabs (Cleared chunk head) = after_clear slabs chunk
slabs_after_look slabs (Cut chunk head) = after_cut slabs chunk
slabs_after_look slabs (Changed change) = slabs_after slabs change
slabs_after_look slabs other = slabs

-- what is out, free or dead is as it was last seen; what was handed out is so still, with its issue
abbrev pub IsStill : Head → Head → Type 0
IsStill now seen =
    (is_out seen.tag || is_free seen.tag || is_dead seen ≡ true → now ≡ seen)
    × (is_out seen.tag || is_free seen.tag || is_dead seen ≡ false → IsHandedOut now seen.issue)

-- a word that was read is the word still, of a chunk that was found linked
pub record IsReadStill (table : Classes) (slabs : SlabState) (words : List ℕ) (looks : List Look) (chunk : ChunkId) (place word : ℕ) : Type 0 where
  pub same : slice_index words (place_in table slabs chunk place) ≡ word
  pub within : place < room_in table (class_of_page slabs chunk.page)
  pub linked : is_some (fold (linked_issue chunk) None looks) ≡ true

-- looks: under a hold of the slabs lock, the headers that the hand last saw or wrote hold still, and so do the words that it read. Its
-- changes of pages and lists since the hold began gave the present ones
pub record AreSeen (table : Classes) (slabs : SlabState) (heads : List Head) (words : List ℕ) (known : List (List KnownItem)) (found : SlabState) (looks : List Look) : Type 0 where
  pub last_heads : (chunk : ChunkId) (seen : Head) → has_chunk table chunk ≡ true → seen_head looks chunk ≡ Some seen → IsStill (head_in table heads chunk) seen
  pub linked : (chunk : ChunkId) (issue : ℕ) → has_chunk table chunk ≡ true → fold (linked_issue chunk) None looks ≡ Some issue →
      IsHandedOut (head_in table heads chunk) issue × IsKnownToSome known (λ k. (k.chunk ≡ chunk) × (k.issue ≡ issue))
  pub read_words : (chunk : ChunkId) (place word : ℕ) → has_chunk table chunk ≡ true → fold (last_read chunk place) None looks ≡ Some word →
      IsReadStill table slabs words looks chunk place word
  pub told : fold slabs_after_look found looks ≡ slabs
