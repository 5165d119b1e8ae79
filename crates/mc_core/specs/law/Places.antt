-- Pages and lists: what is owned, and where each chunk is.
use Rattle.std.specs.Prelude.{◌≡◌, ℕ, ◌*◌, Bool, true, false, not, ◌&&◌, List, length, None}
use Rattle.mc_classes.specs.Classes.{Classes, IsSound, arena_pages_of}
use Rattle.mc_pages.specs.declared.ids.ChunkId.{ChunkId}
use Rattle.mc_pages.specs.ClassState.{times_in}
use Rattle.mc_pages.specs.SlabState.{SlabState, HasClass, class_at, class_of_page}
use Rattle.mc_pages.specs.Accounted.{truth, is_cut, is_moving}
use Rattle.mc_pages.specs.Ledger.{owner_at}
use Rattle.mc_pages.specs.InOrder.{AreSlabsInOrder}
use Rattle.mc_core.specs.declared.head.Head.{Head}
use Rattle.mc_core.specs.declared.head.Tag.TheVariants.{Out}
use Rattle.mc_core.specs.model.Head.{is_free, is_out}
use Rattle.mc_core.specs.model.InOrder.{IsOfTable}
use Rattle.mc_core.specs.model.State.{has_chunk, most_of, page_words}
use Rattle.mc_core.specs.model.Columns.{head_in}

-- sizes: there is a header for each index of each page, and all data words of each page
pub record AreSized (table : Classes) (heads : List Head) (words : List ℕ) : Type 0 where
  pub sound : IsSound table
  pub headers : length heads ≡ arena_pages_of table * most_of table
  pub places : length words ≡ arena_pages_of table * page_words table

-- pages: owners, limit, lists, pool and move are accounted for, and a page is half cut under the slabs lock alone
pub record ArePaged (table : Classes) (slabs : SlabState) (slabs_lock : ℕ) : Type 0 where
  pub of_table : IsOfTable table slabs
  pub order : (granted : ℕ) × AreSlabsInOrder slabs granted
  pub whole : slabs_lock ≡ 0 → slabs.uncut ≡ None

-- the chunk was cut for the class of its page
abbrev pub is_cut_there : SlabState → ChunkId → Bool
is_cut_there slabs chunk = is_cut slabs (class_of_page slabs chunk.page) chunk

-- places: a free list has the free chunks, a hand-out order those that are handed out, and all others are out
pub record ArePlaced (table : Classes) (slabs : SlabState) (heads : List Head) : Type 0 where
  pub free : (class : ℕ) (chunk : ChunkId) → HasClass slabs class →
      times_in chunk (class_at slabs class).free ≡ truth (is_cut slabs class chunk && is_free (head_in table heads chunk).tag)
  pub order : (class : ℕ) (chunk : ChunkId) → HasClass slabs class →
      times_in chunk (class_at slabs class).order
      ≡ truth (is_cut slabs class chunk && (not (is_free (head_in table heads chunk).tag) && not (is_out (head_in table heads chunk).tag)))
  -- a cut chunk is out only while its page moves
  pub cleared : (class : ℕ) (chunk : ChunkId) → HasClass slabs class → is_cut slabs class chunk ≡ true → (head_in table heads chunk).tag ≡ Out →
      is_moving (owner_at slabs.owners chunk.page) ≡ true
  -- what isn't cut is out
  pub elsewhere : (chunk : ChunkId) → has_chunk table chunk ≡ true → is_cut_there slabs chunk ≡ false → (head_in table heads chunk).tag ≡ Out
